-- What a call leaves, place by place, is the rule's; what the checker returns is a yes exactly where its answer is none.
use Rattle.std.specs.Prelude.{true, false, ◌↔◌, ◌⊎◌, ◌≡◌, List, ◌++◌, ℕ, ◌*◌, ◌≤◌, ◌<◌, length, drop}
use Rattle.std.proofs.Common.{inl, inr, sym, ◌∙◌, arith}
use Rattle.std.proofs.Math.Option.{Option, none, some}
use Rattle.std.proofs.Math.Path.{refl, ap}
use borrow.Author.Tests.{lt-ltb, le-ltb}
use Rattle.std.proofs.Math.ListN.{get_or}
use Rattle.base.specs.Laws.Tests.{impossible, le_or_lt}
use Rattle.base.specs.Laws.Filled.{filled_at}
use Rattle.job.specs.Job.{Edge, Job}
use Rattle.job.specs.Read.{Answer, accepted, refused, read_job}
use Rattle.job.specs.Accepted.{accepted_job}
use Rattle.job.specs.Refusal.{read_numbers, reader_number_some}
use Rattle.etf.specs.Instance.{Instance, tasks}
use Rattle.etf.specs.Schedule.{Placement, placement_of, schedule_of}
use Rattle.etf.specs.Rule.{planned}
use Rattle.etf.specs.Dearest.{Chain, price, dearest}
use Rattle.etf.specs.Checker.{Keeps, check, Because, no_processor, too_late, overlaps, too_early}
use Rattle.etf.proofs.Verdict.{yes_exactly, number_only}
use Rattle.etf.specs.Walks.{CoverWalk}
use Rattle.etf.proofs.Walks.{cover_walk}
use Rattle.etf.proofs.Chains.{none_dearer, one_as_dear}
use Rattle.etf.specs.OfJob.{instance, TieRule}
use Rattle.etf.proofs.Jobs.{by_number, well_formed, dearest_same}
use Rattle.schedule.specs.Answers.Planned.{Refused as NotPlanned}
use Rattle.schedule.specs.Answers.Covered.{Cover, Refused as NotCovered}
use Rattle.schedule.specs.Answers.Checked.{Yes}
use Rattle.schedule.specs.declared.Outcome.{Outcome}
use Rattle.schedule.specs.declared.Figures.{Figures}
use Rattle.schedule.specs.Call.{Call, start_of, processor_of, laid_out_call}
use Rattle.schedule.specs.Plan.{plan_call_by}
use Rattle.schedule.specs.Cover.{figures, cover_call_by}
use Rattle.schedule.specs.Check.{check_of, checked_as, number_of, check_for, check_call}
use Rattle.kelvrist.specs.PlanBytes.{plan_bytes, processor_in, start_in, plan_bytes_for, plan_bytes_call_by, check_bytes_for}
use Rattle.kelvrist.specs.PlanBytes.{check_bytes_call}
use Rattle.kelvrist.specs.Numbers.{as_many}
use Rattle.kelvrist.specs.Laws.Decoded.{processor_back, start_back}
use Rattle.kelvrist.specs.Laws.OwnPlan.{start_fits}
use Rattle.schedule.specs.Answered.{SlicesRefused, SlicesTaken, slices, call_of, call_refused, call_taken, one_job}
use Rattle.demands.specs.Laws.Answers.{plan_answer, cover_answer, PlannedAs, CoveredAs, covered_as, figures_is}

-- ---- the planner's slices

-- after an acceptance each task's place holds the rule's start and processor
pub slices_hold : {by : Job → Instance} → TieRule by → {file starts processors scratch : List ℕ} {o : Outcome}
    (P : PlannedAs by file starts processors scratch o) (T : ℕ) → T < tasks (instance P.job)
    → (get_or (plan_call_by by file starts processors scratch).starts T 0 ≡ (placement_of (planned (by P.job)) T).start)
    × (get_or (plan_call_by by file starts processors scratch).processors T 0 ≡ (placement_of (planned (by P.job)) T).processor)
unfolding plan_call_by laid_out_call start_of processor_of
slices_hold {by} rule {file} {starts} {processors} P T h =
    let I = by P.job in
    let b : T < tasks I = omega (arith, h, as_many rule P.job (accepted_job file P.job P.says)) in
    rw P.call_is (filled_at (start_of I) (tasks I) starts T b, filled_at (processor_of I) (tasks I) processors T b)

-- two calls on the same slices, by one tie rule, leave the same in them, whatever they answer
module _ {A B : Type 0} (by : Job → Instance) (refuse : ℕ → A) (answer : Job → A) (refuse₂ : ℕ → B) (answer₂ : Job → B)
    (file starts processors scratch : List ℕ) where
  abbrev first : Call A
  first = call_of file starts processors scratch by refuse answer

  abbrev second : Call B
  second = call_of file starts processors scratch by refuse₂ answer₂

  pub same_slices : (first.starts ≡ second.starts) × (first.processors ≡ second.processors) × (first.scratch ≡ second.scratch)
  unfolding laid_out_call
  same_slices = go (slices file starts processors scratch)
    where
      go : ((k : ℕ) × SlicesRefused file starts processors scratch k) ⊎ SlicesTaken file starts processors scratch
          → (first.starts ≡ second.starts) × (first.processors ≡ second.processors) × (first.scratch ≡ second.scratch)
      go (inl (k, r)) =
          let a = call_refused file starts processors scratch by refuse answer k r in
          let b = call_refused file starts processors scratch by refuse₂ answer₂ k r in
          rw (a, b) (refl, refl, refl)
      go (inr a) =
          rw (call_taken file starts processors scratch by refuse answer a, call_taken file starts processors scratch by refuse₂ answer₂ a)
          (refl, refl, refl)

-- the planner and its cover call are two such
pub leaves_plan : (by : Job → Instance) (file starts processors scratch : List ℕ)
    → ((cover_call_by by file starts processors scratch).starts ≡ (plan_call_by by file starts processors scratch).starts)
    × ((cover_call_by by file starts processors scratch).processors ≡ (plan_call_by by file starts processors scratch).processors)
    × ((cover_call_by by file starts processors scratch).scratch ≡ (plan_call_by by file starts processors scratch).scratch)
unfolding cover_call_by plan_call_by
leaves_plan by = same_slices by NotCovered (cover_answer by) NotPlanned (plan_answer by)

-- ---- C and the dearest chain, as the cover call reports them

-- the walk that adds up to C, and what makes D the job's dearest chain, whatever the tie rule
pub record Measured (by : Job → Instance) (j : Job) (D : ℕ) : Type 0 where
  pub walk_is : CoverWalk (by j)
  pub dearest_is : D ≡ dearest (instance j)
  pub no_chain_dearer : (es : List Edge) → Chain (instance j) es → price (instance j) es ≤ D
  pub a_chain_as_dear : (es : List Edge) × Chain (instance j) es × (price (instance j) es ≡ D)

pub measured : {by : Job → Instance} → TieRule by → {file starts processors scratch : List ℕ} {f : Figures}
    (Q : CoveredAs by file starts processors scratch f) → Measured by Q.job f.dearest
unfolding figures
measured {by} rule {file} {starts} {processors} {scratch} {f} Q =
    let I = instance Q.job in
    let a = accepted_job file Q.job Q.says in
    let d = ap (λ (g : Figures). g.dearest) (figures_is by file starts processors scratch Q) ∙ dearest_same rule Q.job a in
    let top = one_as_dear I in
    record {
      walk_is = cover_walk (by Q.job) (well_formed rule Q.job a);
      dearest_is = d;
      no_chain_dearer = λ es c. omega (arith, d, none_dearer I (well_formed by_number Q.job a) es c);
      a_chain_as_dear = (top.0, top.1, top.2 ∙ sym d);
    }

-- two cover calls on one file, by whichever tie rules and with any slices, report one dearest chain
pub same_dearest : {by by₂ : Job → Instance} → TieRule by → TieRule by₂ → (file : List ℕ) (f g : Figures)
    → (starts processors scratch : List ℕ) → (cover_call_by by file starts processors scratch).answer ≡ Cover f
    → (starts₂ processors₂ scratch₂ : List ℕ) → (cover_call_by by₂ file starts₂ processors₂ scratch₂).answer ≡ Cover g
    → f.dearest ≡ g.dearest
same_dearest {by} {by₂} rule rule₂ file f g starts processors scratch c starts₂ processors₂ scratch₂ d =
    let Q = covered_as by file starts processors scratch f c in
    let R = covered_as by₂ file starts₂ processors₂ scratch₂ g d in
    let one = ap (λ (i : Job). dearest (instance i)) (one_job Q.says R.says) in
    (measured rule Q).dearest_is ∙ one ∙ sym (measured rule₂ R).dearest_is

-- ---- the plan's bytes

-- what a call from C says by 0: the file is accepted, and each task's five bytes are the rule's start and processor
pub record BytesAs (by : Job → Instance) (file plan : List ℕ) : Type 0 where
  pub job : Job
  pub says : read_job file ≡ accepted job
  pub starts_hold : (T : ℕ) → T < tasks (instance job)
      → start_in (plan_bytes_call_by by file plan).plan T ≡ (placement_of (planned (by job)) T).start
  pub processors_hold : (T : ℕ) → T < tasks (instance job)
      → processor_in (plan_bytes_call_by by file plan).plan T ≡ (placement_of (planned (by job)) T).processor

pub bytes_as : {by : Job → Instance} → TieRule by → (file plan : List ℕ) → (plan_bytes_call_by by file plan).number ≡ 0
    → BytesAs by file plan
unfolding plan_bytes_call_by plan_bytes_for start_of processor_of
bytes_as {by} rule file plan h = go (read_job file) refl h
  where
    held : (j : Job) → read_job file ≡ accepted j → (5 * tasks (instance j) ≤ length plan) ⊎ (length plan < 5 * tasks (instance j))
        → (plan_bytes_for by (accepted j) plan).number ≡ 0 → BytesAs by file plan
    held j e (inl p) w =
        let I = by j in
        let m = tasks (instance j) in
        let full : (plan_bytes_call_by by file plan).plan ≡ plan_bytes m (processor_of I) (start_of I) ++ drop (5 * m) plan =
        rw (e, plan_bytes_for, le-ltb (length plan) (5 * m) p) in
        record {
          job = j;
          says = e;
          starts_hold = λ T b.
              let fits = start_fits rule j (accepted_job file j e) T b in
              rw full (start_back m (processor_of I) (start_of I) (drop (5 * m) plan) T b fits);
          processors_hold = λ T b. rw full (processor_back m (processor_of I) (start_of I) (drop (5 * m) plan) T b);
        }
    held j e (inr p) w = let v : ◌≡◌ {A = ℕ} 9 0 = rw (lt-ltb (length plan) (5 * tasks (instance j)) p) at w in absurd (omega arith)

    go : (a : Answer) → read_job file ≡ a → (plan_bytes_for by a plan).number ≡ 0 → BytesAs by file plan
    go (accepted j) e w = held j e (le_or_lt (5 * tasks (instance j)) (length plan)) w
    go (refused k) e w = absurd (omega (arith, reader_number_some (read_numbers file k e), w))

-- ---- the checker's answer

-- 0 is no number of the checker's table
not_zero : (I : Instance) (ps : List Placement) (k : ℕ) → Because I ps k → k ≡ 0 → ⊥
not_zero I ps _ (no_processor u h b) e = omega (arith, e)
not_zero I ps _ (too_late u h b) e = omega (arith, e)
not_zero I ps _ (overlaps u v a b c d f g) e = omega (arith, e)
not_zero I ps _ (too_early f a u v b c d g h) e = omega (arith, e)

-- a yes is the answer none
yes_none : (o : Option ℕ) → checked_as o ≡ Yes → o ≡ none
unfolding checked_as
yes_none none e = refl
yes_none (some k) e = let z : false ≡ true = cc in impossible z

-- and so is the number 0
zero_none : (I : Instance) (ps : List Placement) → number_of (check I ps) ≡ 0 → check I ps ≡ none
unfolding number_of
zero_none I ps e = go (check I ps) refl e
  where
    go : (o : Option ℕ) → check I ps ≡ o → number_of o ≡ 0 → o ≡ none
    go none d z = refl
    go (some k) d z = absurd (not_zero I ps k (number_only I ps k d) z)

module _ (file : List ℕ) (j : Job) (e : read_job file ≡ accepted j) where
  -- where the slices have room, the checker's call is a yes exactly if the rules hold
  pub yes_keeps : (starts processors : List ℕ) → tasks (instance j) ≤ length starts → tasks (instance j) ≤ length processors
      → check_call file starts processors ≡ Yes
      ↔ Keeps (instance j) (schedule_of (instance j) (λ T. get_or processors T 0) (λ T. get_or starts T 0))
  unfolding check_call check_for check_of checked_as
  yes_keeps starts processors s p =
      let ps = schedule_of (instance j) (λ T. get_or processors T 0) (λ T. get_or starts T 0) in
      let call : check_call file starts processors ≡ checked_as (check (instance j) ps) =
      rw (e, check_for, le-ltb (length starts) (tasks (instance j)) s, le-ltb (length processors) (tasks (instance j)) p) in
      let y = yes_exactly (instance j) ps in
      ((λ h. y.0 (yes_none (check (instance j) ps) (sym call ∙ h))), (λ k. call ∙ ap checked_as (y.1 k)))

  -- and the call from C is 0 exactly if they hold
  pub zero_keeps : (plan : List ℕ) → 5 * tasks (instance j) ≤ length plan
      → check_bytes_call file plan ≡ 0 ↔ Keeps (instance j) (schedule_of (instance j) (processor_in plan) (start_in plan))
  unfolding check_bytes_call check_bytes_for check_of number_of
  zero_keeps plan l =
      let ps = schedule_of (instance j) (processor_in plan) (start_in plan) in
      let call : check_bytes_call file plan ≡ number_of (check (instance j) ps) =
      rw (e, check_bytes_for, le-ltb (length plan) (5 * tasks (instance j)) l) in
      let y = yes_exactly (instance j) ps in
      ((λ h. y.0 (zero_none (instance j) ps (sym call ∙ h))), (λ k. call ∙ ap number_of (y.1 k)))
