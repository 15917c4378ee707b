-- A listing is whole: a refused file's line, or header, lines and figures of the plan that planner and cover call leave and report.
use Rattle.std.specs.Prelude.{◌≡◌, refl, ℕ, ◌+◌, ◌≤◌, ◌<◌, drop, Result, Ok, Err}
use Rattle.std.proofs.Math.Path.{ap}
use Rattle.std.proofs.Common.{sym, ◌∙◌, zero-add}
use mathlib.Core.List.{List, ◌++◌}
use native.Mathlib.Omega.{arith}
use Rattle.std.proofs.Math.ListN.{length, get_or}
use Rattle.base.specs.Lists.{upto}
use Rattle.base.specs.Slices.{Put}
use Rattle.base.specs.Laws.Lists.{upto_of, flat_map_same}
use Rattle.base.specs.Laws.Stored.{sets_front}
use Rattle.base.specs.Laws.Put.{put_then}
use Rattle.base.specs.Text.{text}
use Rattle.job.specs.declared.Reading.{Reading}
use Rattle.job.specs.declared.Verdict.TheVariants.{Counts, Refused}
use Rattle.job.specs.declared.table.Refusal.{Refusal}
use Rattle.job.specs.Limits.{most_tasks, most_edges}
use Rattle.job.specs.Job.{Job}
use Rattle.job.specs.Read.{accepted, read_job, reading_of, verdict_number}
use Rattle.job.specs.Accepted.{Accepted, accepted_job, counted, refused_is, laid_out}
use Rattle.etf.specs.Instance.{Instance, tasks, duration}
use Rattle.etf.specs.Schedule.{placement_of}
use Rattle.etf.specs.Rule.{planned}
use Rattle.etf.specs.OfJob.{instance}
use Rattle.etf.proofs.Jobs.{by_number, well_formed, no_finish_passes}
use Rattle.etf.proofs.Laws.Planned.{home}
use Rattle.schedule.specs.declared.Outcome.{Outcome}
use Rattle.schedule.specs.declared.Figures.{Figures}
use Rattle.schedule.specs.Answers.Planned.{Plan, Refused as NotPlanned, as_planned}
use Rattle.schedule.specs.Answers.Covered.{Cover, Refused as NotCovered, as_covered}
use Rattle.schedule.specs.Call.{called, start_of, processor_of, arrival_places}
use Rattle.schedule.specs.Plan.{end_of, outcome, outcome_by, plan_call, plan_call_by}
use Rattle.schedule.specs.Cover.{figures as figures_of, cover_call, cover_call_by}
use Rattle.listing.specs.Listing.{line, header, task_lines, figures, plan_listing, refusal_line, listing_for, listing}
use Rattle.listing.specs.Listing.{ListingCall, listed, put_first, listing_call}
use Rattle.listing.specs.Printed.{refused_text}
use Rattle.listing.specs.Laws.Calls.{LaidOut, lays_out}

-- ---- the same numbers, the same text

pub header_same : {n n' m m' l l' : ℕ} → n ≡ n' → m ≡ m' → l ≡ l' → header n m l ≡ header n' m' l'
header_same a b c = rw (a, b, c)

pub lines_same : {m m' : ℕ} (p p' s s' d d' : ℕ → ℕ) → m ≡ m'
    → ((T : ℕ) → T < m' → p T ≡ p' T) → ((T : ℕ) → T < m' → s T ≡ s' T) → ((T : ℕ) → T < m' → d T ≡ d' T)
    → task_lines m p s d ≡ task_lines m' p' s' d'
unfolding task_lines
lines_same {m} {m'} p p' s s' d d' e a b c =
    rw e (flat_map_same _ _ (upto m') (λ T h. rw (a T (upto_of m' T h), b T (upto_of m' T h), c T (upto_of m' T h))))

pub listing_same : {E E' : ℕ} {f f' : Figures} {a a' b b' : List ℕ} → a ≡ a' → b ≡ b' → E ≡ E' → f ≡ f'
    → a ++ (b ++ figures E f.cover f.least f.dearest) ≡ a' ++ (b' ++ figures E' f'.cover f'.least f'.dearest)
listing_same p q x y = rw (p, q, x, y)

-- ---- a text at the front of the buffer

-- what was put there is what the call for that text leaves
pub put_front : {out out' : List ℕ} {n : ℕ} {s : List ℕ} → Put out out' 0 n s → n ≤ length out → listed n out' ≡ put_first s out
unfolding put_first
put_front {out} {out'} {n} {s} p h =
    let size : n ≡ length s = p.past ∙ zero-add (length s) in
    let stored : out' ≡ s ++ drop (length s) out = p.stored ∙ sets_front out s (length s) refl (omega (arith, size)) in
    rw (size, stored)

-- the line of a refusal
pub refusal_put : {out out' : List ℕ} {r x n : ℕ} → Put out out' 0 r (line (text "refused ") x) → x ≡ n → r ≤ length out
    → listed r out' ≡ put_first (refusal_line n) out
unfolding refusal_line
refusal_put p e h = put_front (rw e at p) h

-- ---- a refused file

pub refused_listed : (file out : List ℕ) {x : Reading} {k n : ℕ} {c : ListingCall} → x ≡ reading_of (read_job file)
    → x.verdict ≡ Refused k → n ≡ verdict_number x.verdict → c ≡ put_first (refusal_line n) out → c ≡ listing_call file out
refused_listed file out e v g h =
    let says = refused_is (read_job file) (ap (λ (y : Reading). y.verdict) (sym e) ∙ v) in
    h ∙ (ap (λ (i : ℕ). put_first (refusal_line i) out) (g ∙ ap verdict_number v) ∙ refused_text file out _ says)

-- ---- an accepted file

-- by what the reader answered
module _ (file : List ℕ) {x : Reading} {m l : ℕ} (e : x ≡ reading_of (read_job file)) (v : x.verdict ≡ Counts m l) where
  found : (j : Job) × (read_job file ≡ accepted j) × (length j.tasks ≡ m) × (length j.edges ≡ l)
  found = counted (read_job file) m l (ap (λ (r : Reading). r.verdict) (sym e) ∙ v)

  abbrev job : Job
  job = found.0

  abbrev says : read_job file ≡ accepted job
  says = found.1

  abbrev tasks_are : length job.tasks ≡ m
  tasks_are = found.2

  abbrev edges_are : length job.edges ≡ l
  edges_are = found.3

  abbrev I : Instance
  I = instance job

  sound : Accepted job
  sound = accepted_job file job says

  reading_is : x ≡ reading_of (accepted job)
  reading_is = e ∙ ap reading_of says

  pub few_tasks : m ≤ most_tasks
  few_tasks = omega (arith, tasks_are, sound.few_tasks)

  pub few_edges : l ≤ most_edges
  few_edges = omega (arith, edges_are, sound.few_edges)

  durations_size : length x.arrays.durations ≡ most_tasks
  durations_size = ap (λ (y : Reading). length y.arrays.durations) reading_is ∙ (laid_out job sound).durations_length

  duration_at : (T : ℕ) → get_or x.arrays.durations T 0 ≡ duration I T
  unfolding duration instance
  duration_at T = ap (λ (y : Reading). get_or y.arrays.durations T 0) reading_is ∙ (laid_out job sound).duration_at T

  header_is : header x.platform.processors m l ≡ header I.processors (tasks I) (length I.edges)
  unfolding instance reading_of
  header_is = header_same (ap (λ (y : Reading). y.platform.processors) reading_is) (sym tasks_are) (sym edges_are)

  -- the planner's call
  module _ (q : Result Outcome Refusal) (s₀ p₀ t₀ : List ℕ) {s₁ p₁ t₁ : List ℕ}
      (a : length s₀ ≡ most_tasks) (b : length p₀ ≡ most_tasks) (d : length t₀ ≡ arrival_places)
      (plans : called (as_planned q) s₁ p₁ t₁ ≡ plan_call file s₀ p₀ t₀) where
    by_planner : LaidOut (λ j. Plan (outcome j)) job (as_planned q) s₁ p₁ t₁
    unfolding plan_call_by
    by_planner =
        lays_out NotPlanned (λ j. Plan (outcome j)) file job says (record { for_starts = a; for_processors = b; for_arrivals = d }) plans

    -- it does not refuse
    pub plans_all : {e : Refusal} → q ≡ Err e → ⊥
    plans_all is = let z = ap as_planned is in let w = by_planner.answer_is in cc

    end_is : {o : Outcome} → q ≡ Ok o → o.end ≡ end_of job
    unfolding outcome_by
    end_is {o} is =
        let z = ap as_planned is in
        let w = by_planner.answer_is in
        let e : o ≡ outcome job = cc in ap (λ (y : Outcome). y.end) e

    -- the cover call on the same slices
    module _ (c : Result Figures Refusal) {s p t : List ℕ} (covers : called (as_covered c) s p t ≡ cover_call file s₁ p₁ t₁) where
      by_cover : LaidOut (λ j. Cover (figures_of (instance j))) job (as_covered c) s p t
      unfolding cover_call_by
      by_cover = lays_out NotCovered (λ j. Cover (figures_of (instance j))) file job says by_planner.room covers

      -- it does not refuse
      pub covers_all : {e : Refusal} → c ≡ Err e → ⊥
      covers_all is = let z = ap as_covered is in let w = by_cover.answer_is in cc

      figures_are : {f : Figures} → c ≡ Ok f → f ≡ figures_of I
      figures_are is = let z = ap as_covered is in let w = by_cover.answer_is in cc

      -- the arrays that the lines are read from are long enough
      pub arrays_reach : (m ≤ length x.arrays.durations) × (m ≤ length s) × (m ≤ length p)
      arrays_reach = (
        omega (arith, few_tasks, durations_size),
        omega (arith, few_tasks, by_cover.room.for_starts),
        omega (arith, few_tasks, by_cover.room.for_processors),
      )

      -- a finish has 32 bits
      pub finish_fits : (T : ℕ) → T < m → get_or s T 0 + get_or x.arrays.durations T 0 < 4294967296
      unfolding start_of instance
      finish_fits T k =
          let b : T < length job.tasks = omega (arith, tasks_are) in
          let at_home = home I (well_formed by_number job sound) T b in
          omega (
            arith,
            by_cover.start_at_lem T b,
            duration_at T,
            no_finish_passes by_number job sound (placement_of (planned I) T) at_home.0,
            ap (duration I) at_home.1,
          )

      lines_are : task_lines m (λ T. get_or p T 0) (λ T. get_or s T 0) (λ T. get_or x.arrays.durations T 0)
          ≡ task_lines (tasks I) (processor_of I) (start_of I) (duration I)
      unfolding instance
      lines_are = lines_same _ _ _ _ _ _ (sym tasks_are) by_cover.processor_at_lem by_cover.start_at_lem (λ T k. duration_at T)

      pub plan_listed : {out o₁ o₂ o₃ : List ℕ} {i j k : ℕ} {o : Outcome} {f : Figures} → q ≡ Ok o → c ≡ Ok f
          → Put out o₁ 0 i (header x.platform.processors m l)
          → Put o₁ o₂ i j (task_lines m (λ T. get_or p T 0) (λ T. get_or s T 0) (λ T. get_or x.arrays.durations T 0))
          → Put o₂ o₃ j k (figures o.end f.cover f.least f.dearest)
          → k ≤ length out → listed k o₃ ≡ listing_call file out
      unfolding listing_call listing listing_for plan_listing figures_of
      plan_listed {out = out} o-is f-is first second third fits =
          put_front (put_then first (put_then second third)) fits
          ∙ ap (λ (s : List ℕ). put_first s out)
          (listing_same header_is lines_are (end_is o-is) (figures_are f-is) ∙ ap listing_for (sym says))
