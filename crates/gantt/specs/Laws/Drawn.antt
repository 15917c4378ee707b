-- What `draw` learns from the reading and the checker's verdict, and that each of its returns is a row of the definition.
use Rattle.std.specs.Prelude.{Bool, ◌&&◌, ◌≡◌, refl, List, [], ◌∷◌, ◌++◌, map, ℕ, ◌+◌, ◌*◌, ◌/◌, ◌^◌, ◌≤◌, ◌<◌, max, length, drop}
use Rattle.std.specs.Prelude.{Result, Ok, Err}
use Rattle.std.proofs.Math.Path.{ap, sym}
use Rattle.std.proofs.Common.{◌∙◌, drop_at}
use native.Mathlib.Omega.{arith}
use borrow.Author.Tests.{lt-ltb, le-ltb}
use Rattle.std.proofs.Math.Dec.{leb, eqb}
use Rattle.std.proofs.Math.ListN.{get_or}
use Rattle.base.specs.Choice.{pick}
use Rattle.base.specs.Lists.{◌∈◌, here, there, upto, any, greatest}
use Rattle.base.specs.Rows.{most}
use Rattle.base.specs.Laws.Lists.{upto_in, map_in}
use Rattle.base.specs.Laws.Most.{most_ge, most_below, most_same, greatest-upto}
use Rattle.job.specs.declared.Verdict.TheVariants.{Counts, Refused as NotRead}
use Rattle.job.specs.declared.Arrays.{Arrays}
use Rattle.job.specs.declared.Reading.{Reading}
use Rattle.job.specs.declared.table.Refusal.{Refusal}
use Rattle.job.specs.Limits.{most_duration}
use Rattle.job.specs.Job.{Job}
use Rattle.job.specs.Read.{accepted, read_job, verdict_number, reading_of, reading_as}
use Rattle.job.specs.Table.{number_of, refusal}
use Rattle.job.specs.Accepted.{Accepted, accepted_job, counted, refused_by, laid_out}
use Rattle.etf.specs.Instance.{Instance, tasks, duration}
use Rattle.etf.specs.Schedule.{Placement, finish, last_finish, schedule_of}
use Rattle.etf.specs.Checker.{latest_start}
use Rattle.etf.specs.OfJob.{instance}
use Rattle.schedule.specs.Answers.Checked.{Checked, Yes, as_checked, Judgement, found_judgement}
use Rattle.schedule.specs.declared.JudgedFound.{JudgedFound}
use Rattle.schedule.specs.Check.{check_for, check_call, judge_call}
use Rattle.schedule.specs.Verdict.{plan_in, KeptIn, yes_says}
use Rattle.gantt.specs.Answer.{Length, Refused}
use Rattle.gantt.specs.Page.{width, mark, dot, rows, ticks_within, runs_within, cell, page}
use Rattle.gantt.specs.Draw.{drawn, page_of, drawn_by, draw_for, draw_call}
use Rattle.gantt.specs.Pass.{Drawable, marks, cells_by}
use Rattle.gantt.specs.Laws.Layout.{rows_size, rows_same}

-- ---- a schedule listed by task number, task by task

greatest-map : {A : Type 0} (f : A → ℕ) (g : ℕ → A) (l : List ℕ) → greatest f (map g l) ≡ greatest (λ T. f (g T)) l
unfolding greatest
greatest-map f g [] = refl
greatest-map f g (T ∷ l) = ap (λ (n : ℕ). max (f (g T)) n) (greatest-map f g l)

any-map : {A : Type 0} (p : A → Bool) (q : ℕ → Bool) (g : ℕ → A) (l : List ℕ) → ((T : ℕ) → T ∈ l → p (g T) ≡ q T)
    → any p (map g l) ≡ any q l
unfolding any
any-map p q g [] h = refl
any-map p q g (T ∷ l) h = rw (h T (here refl), any-map p q g l (λ U k. h U (there k)))

-- a page put at the front of a buffer
with_page : (N n : ℕ) (p q out out' : List ℕ) → N ≡ n → p ≡ q → out' ≡ q ++ drop (70 * n) out
    → drawn_by Yes N p out ≡ drawn (Length (70 * n)) out'
unfolding drawn_by
with_page N n p q out out' a b c = rw (a, b, c)

module _ (file starts processors : List ℕ) (judged : JudgedFound) (arrays : Arrays)
    (is : found_judgement judged arrays ≡ judge_call file starts processors) where
  -- what was read
  abbrev x : Reading
  x = reading_as judged.found arrays

  e : x ≡ reading_of (read_job file)
  unfolding judge_call
  e = ap (λ (r : Judgement). r.reading) is

  -- ---- a refused file

  pub passes_on : (out : List ℕ) {k : ℕ} {r : Refusal} → x.verdict ≡ NotRead k → r ≡ refusal (verdict_number x.verdict)
      → drawn (Refused (number_of r)) out ≡ draw_call file starts processors out
  unfolding draw_call draw_for
  passes_on out v q = rw (refused_by file e v q)

  -- ---- an accepted one

  module _ {m l : ℕ} (v : x.verdict ≡ Counts m l) where
    found : (j : Job) × (read_job file ≡ accepted j) × (length j.tasks ≡ m) × (length j.edges ≡ l)
    found = counted (read_job file) m l (ap (λ (r : Reading). r.verdict) (sym e) ∙ v)

    abbrev job : Job
    job = found.0

    abbrev says : read_job file ≡ accepted job
    says = found.1

    sound : Accepted job
    sound = accepted_job file job says

    reading_is : x ≡ reading_of (accepted job)
    reading_is = e ∙ ap reading_of says

    abbrev I : Instance
    I = instance job

    tasks_are : tasks I ≡ m
    unfolding instance
    tasks_are = found.2

    abbrev durations : List ℕ
    durations = x.arrays.durations

    processors_are : x.platform.processors ≡ job.platform.processors
    unfolding reading_of
    processors_are = ap (λ (r : Reading). r.platform.processors) reading_is

    pub few_processors : x.platform.processors ≤ 16
    few_processors = omega (arith, processors_are, sound.few_processors)

    durations_size : length durations ≡ 256
    durations_size = ap (λ (r : Reading). length r.arrays.durations) reading_is ∙ (laid_out job sound).durations_length

    duration_at : (T : ℕ) → get_or durations T 0 ≡ duration I T
    unfolding duration instance
    duration_at T = ap (λ (r : Reading). get_or r.arrays.durations T 0) reading_is ∙ (laid_out job sound).duration_at T

    module _ {n : ℕ} (n-is : n ≡ x.platform.processors) where
      -- what the checker says
      abbrev c : Checked
      c = as_checked judged.checked

      verdict_is : c ≡ check_for (accepted job) starts processors
      unfolding judge_call check_call
      verdict_is = ap (λ (r : Judgement). r.checked) is ∙ ap (λ a. check_for a starts processors) says

      pub too_short : (out : List ℕ) → length out < 70 * n → drawn (Refused 9) out ≡ draw_call file starts processors out
      unfolding draw_call draw_for
      too_short out h = rw (says, lt-ltb (length out) (70 * job.platform.processors) (omega (arith, n-is, processors_are)))

      by_verdict : (out : List ℕ) → 70 * n ≤ length out
          → draw_call file starts processors out ≡ drawn_by c job.platform.processors (page_of job starts processors) out
      unfolding draw_call draw_for
      by_verdict out room =
          rw (says, le-ltb (length out) (70 * job.platform.processors) (omega (arith, n-is, processors_are)), ← verdict_is)

      pub not_checked : (out : List ℕ) → 70 * n ≤ length out → {k : Refusal} → judged.checked ≡ Err k
          → drawn (Refused (number_of k)) out ≡ draw_call file starts processors out
      unfolding drawn_by
      not_checked out room k-is =
          sym (by_verdict out room
          ∙ ap (λ (d : Result Unit Refusal). drawn_by (as_checked d) job.platform.processors (page_of job starts processors) out) k-is)

      -- ---- the plan is accepted

      module _ {u : Unit} (ok : judged.checked ≡ Ok u) where
        yes : c ≡ Yes
        yes = ap as_checked ok

        kept : KeptIn I starts processors
        kept = yes_says job starts processors (sym verdict_is ∙ yes)

        -- the plan that is drawn
        abbrev ps : List Placement
        ps = plan_in I starts processors

        abbrev at : ℕ → Placement
        at T = record { task = T; processor = get_or processors T 0; start = get_or starts T 0 }

        at_in : (T : ℕ) → T < m → at T ∈ ps
        unfolding schedule_of
        at_in T h = map_in at (upto (tasks I)) T (upto_in (tasks I) T (omega (arith, tasks_are)))

        -- when task T finishes, by the arrays
        abbrev finish_at : ℕ → ℕ
        finish_at T = get_or starts T 0 + get_or durations T 0

        no_late_finish : (T : ℕ) → T < m → finish_at T ≤ latest_start + most_duration
        unfolding duration instance
        no_late_finish T h =
            omega (
              arith,
              kept.keeps.not_late (at T) (at_in T h),
              duration_at T,
              sound.short_enough T (omega (arith, tasks_are)),
            )

        pub arrays_reach : (m ≤ length durations) × (m ≤ length starts)
        arrays_reach = (omega (arith, durations_size, found.2, sound.few_tasks), omega (arith, tasks_are, kept.for_starts))

        on_processor : (T : ℕ) → T < m → get_or processors T 0 < n
        unfolding instance
        on_processor T h = omega (arith, kept.keeps.on_processor (at T) (at_in T h), n-is, processors_are)

        takes_time : (T : ℕ) → T < m → 1 ≤ get_or durations T 0
        unfolding duration instance
        takes_time T h = omega (arith, duration_at T, sound.long_enough T (omega (arith, tasks_are)))

        pub finishes_fit : (T : ℕ) → T < m → finish_at T < 2 ^ 32
        finishes_fit T h = omega (arith, no_late_finish T h)

        pub no_late_end : {last : ℕ} → last ≡ most m finish_at → last ≤ latest_start + most_duration
        no_late_end last_is = omega (arith, last_is, most_below m finish_at (latest_start + most_duration) no_late_finish)

        module _ {last w : ℕ} (last_is : last ≡ most m finish_at) (w-is : w ≡ (last + 63) / 64) where
          pub drawable : Drawable n m w durations starts processors
          drawable = record {
            durations_there = arrays_reach.0;
            starts_there = arrays_reach.1;
            processors_there = omega (arith, tasks_are, kept.for_processors);
            on_processor = on_processor;
            takes_time = takes_time;
            in_time = λ T h. omega (arith, most_ge m finish_at T h, last_is, w-is);
            small = omega (arith, no_late_end last_is, w-is);
          }

          last_right : last_finish I ps ≡ last
          unfolding last_finish schedule_of
          last_right =
              greatest-map (finish I) at (upto (tasks I))
              ∙ greatest-upto (λ T. finish I (at T)) (tasks I)
              ∙ ap (λ (k : ℕ). most k (λ T. finish I (at T))) tasks_are
              ∙ most_same m (λ T. finish I (at T)) finish_at (λ T h. omega (arith, duration_at T))
              ∙ sym last_is

          width_right : width (last_finish I ps) ≡ w
          unfolding width
          width_right = ap width last_right ∙ sym w-is

          cells_right : (P j : ℕ) → cell I ps w P j ≡ cells_by w durations starts processors m P j
          unfolding cell runs_within ticks_within cells_by marks schedule_of
          cells_right P j =
              ap (λ (b : Bool). pick b mark dot)
              (any-map (λ u. eqb u.processor P && leb 1 (ticks_within I (j * w) ((j + 1) * w) u))
              (marks w durations starts processors P j) at (upto (tasks I)) (λ T h. rw (duration_at T))
              ∙ ap (λ (k : ℕ). any (marks w durations starts processors P j) (upto k)) tasks_are)

          page_right : page_of job starts processors ≡ rows (cells_by w durations starts processors m) n
          unfolding page_of page instance
          page_right =
              ap (λ (k : ℕ). rows (cell I ps k) I.processors) width_right
              ∙ rows_same (cell I ps w) (cells_by w durations starts processors m) I.processors (λ P j _ _. cells_right P j)
              ∙ ap (rows (cells_by w durations starts processors m)) (sym (n-is ∙ processors_are))

          pub page_drawn : (out out₁ out₂ : List ℕ) → 70 * n ≤ length out → out₁ ≡ rows (λ P j. dot) n ++ drop (70 * n) out
              → out₂ ≡ rows (cells_by w durations starts processors m) n ++ drop (70 * n) out₁
              → drawn (Length (70 * n)) out₂ ≡ draw_call file starts processors out
          page_drawn out out₁ out₂ room a b =
              let same : drop (70 * n) out₁ ≡ drop (70 * n) out =
              ap (drop (70 * n)) a ∙ drop_at (rows (λ P j. dot) n) (drop (70 * n) out) (70 * n) (rows_size (λ P j. dot) n) in
              sym (by_verdict out room
              ∙ ap (λ (d : Checked). drawn_by d job.platform.processors (page_of job starts processors) out) yes
              ∙ with_page _ _ _ _ out out₂ (sym (n-is ∙ processors_are)) page_right
              (b ∙ ap (λ (r : List ℕ). rows (cells_by w durations starts processors m) n ++ r) same))
