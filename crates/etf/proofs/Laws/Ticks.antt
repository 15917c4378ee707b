-- The ticks that tasks run, counted by processor and by task; and the ticks in which processors are idle.
use Rattle.std.specs.Prelude.{◌≡◌, ◌⊎◌, Bool, ◌&&◌, List, ◌∷◌, ℕ, ◌+◌, ◌*◌, ◌≤◌, ◌<◌, eqb, T as Holds, length}
use Rattle.std.proofs.Math.Path.{refl}
use Rattle.std.proofs.Common.{sym, ap, ◌∙◌, subst, inl, inr, arith, eqb→eq}
use Rattle.std.proofs.Math.Bool.{true, false, not}
use Rattle.base.specs.Lists.{◌∈◌, here, there}
use Rattle.base.specs.Rows.{one_if, sum}
use Rattle.base.specs.Laws.Tests.{either, not_both, fails, both, first, second, eq→eqb}
use Rattle.base.specs.Laws.Sums.{one_if_yes, one_if_no, one_if_le, one_if_most, one_if_of, length-filter, sum_le, sum_same, sum_add}
use Rattle.base.specs.Laws.Sums.{sum_each, sum_swap, sum_only, sum_at_most_one, sum_ge}
use Rattle.etf.specs.Instance.{Instance, tasks, duration}
use Rattle.etf.specs.Schedule.{Placement, placed, placement_of}
use Rattle.etf.specs.Cover.{running, busy, idle}
use Rattle.etf.specs.Ideal.{Ideal}
use Rattle.etf.proofs.Laws.Running.{running_of, sum_running}
use Rattle.etf.proofs.Laws.Placements.{placement_head, placement_tail, placed_in, busy_of}
use Rattle.etf.proofs.Laws.Sound.{Once, Sound}

-- ---- a plan as a processor and a start for each task: d is how long a task takes

module _ (processor start d : ℕ → ℕ) where
  -- task T runs on processor P in tick t
  abbrev pub runs : ℕ → ℕ → ℕ → Bool
  runs T P t = eqb (processor T) P && running (start T) (d T) t

  pub runs_of : (T P t : ℕ) → Holds (runs T P t) → (processor T ≡ P) × (start T ≤ t) × (t < start T + d T)
  runs_of T P t h =
      let r = running_of (start T) (d T) t (second (eqb (processor T) P) (running (start T) (d T) t) h) in
      (eqb→eq (processor T) P (first (eqb (processor T) P) (running (start T) (d T) t) h), r.0, r.1)

  elsewhere : (T t P : ℕ) → ¬ (P ≡ processor T) → one_if (runs T P t) ≡ 0
  elsewhere T t P ne =
      one_if_no (runs T P t) (fails (runs T P t) (λ h. ne (sym (runs_of T P t h).0)))

  same_tests : (a b : Bool) → (Holds a → Holds b) → (Holds b → Holds a) → one_if a ≡ one_if b
  same_tests a b f g = omega (arith, one_if_le a b f, one_if_le b a g)

  on_its_own : (T t : ℕ) → one_if (runs T (processor T) t) ≡ one_if (running (start T) (d T) t)
  on_its_own T t =
      same_tests (runs T (processor T) t) (running (start T) (d T) t)
      (λ h. second (eqb (processor T) (processor T)) (running (start T) (d T) t) h)
      (λ h. both (eqb (processor T) (processor T)) (running (start T) (d T) t) (eq→eqb (processor T) (processor T) refl) h)

  -- in all processors and ticks together, each task runs for its duration
  pub work : (m n E : ℕ) → ((T : ℕ) → T < m → processor T < n) → ((T : ℕ) → T < m → start T + d T ≤ E)
      → sum E (λ t. sum n (λ P. sum m (λ T. one_if (runs T P t)))) ≡ sum m d
  work m n E p e =
      sum_same E (λ t. sum n (λ P. sum m (λ T. one_if (runs T P t)))) (λ t. sum m (λ T. one_if (running (start T) (d T) t))) by_tick
      ∙ sum_swap E m (λ t T. one_if (running (start T) (d T) t))
      ∙ sum_same m (λ T. sum E (λ t. one_if (running (start T) (d T) t))) d (λ T h. sum_running E (start T) (d T) (e T h))
    where
      by_task_lem : (t T : ℕ) → T < m → sum n (λ P. one_if (runs T P t)) ≡ one_if (running (start T) (d T) t)
      by_task_lem t T h = sum_only n (processor T) (λ P. one_if (runs T P t)) (λ P q ne. elsewhere T t P ne) (p T h) ∙ on_its_own T t

      by_tick : (t : ℕ) → t < E → sum n (λ P. sum m (λ T. one_if (runs T P t))) ≡ sum m (λ T. one_if (running (start T) (d T) t))
      by_tick t h =
          sum_swap n m (λ P T. one_if (runs T P t))
          ∙ sum_same m (λ T. sum n (λ P. one_if (runs T P t))) (λ T. one_if (running (start T) (d T) t)) (λ T k. by_task_lem t T k)

-- ---- an ideal schedule

module _ (I : Instance) (R : Ideal I) where
  one_at_a_time : (P t : ℕ) → sum (tasks I) (λ T. one_if (runs R.processor R.start (duration I) T P t)) ≤ 1
  one_at_a_time P t =
      sum_at_most_one (tasks I) (λ T. one_if (runs R.processor R.start (duration I) T P t))
      (λ T h. one_if_most (runs R.processor R.start (duration I) T P t))
      (λ S T st tm a b. clash S T st tm (one_if_of _ a) (one_if_of _ b))
    where
      clash : (S T : ℕ) → S < T → T < tasks I → Holds (runs R.processor R.start (duration I) S P t)
          → Holds (runs R.processor R.start (duration I) T P t) → ⊥
      clash S T st tm a b =
          let x = runs_of R.processor R.start (duration I) S P t a in
          let y = runs_of R.processor R.start (duration I) T P t b in
          elim (R.apart S T (omega arith) tm (omega arith) (x.0 ∙ sym y.0)) [ inl k ↦ omega arith | inr k ↦ omega arith ]

  -- the durations together are at most n times a bound on an ideal schedule's finishes
  pub ideal_work : (F : ℕ) → ((T : ℕ) → T < tasks I → R.start T + duration I T ≤ F) → sum (tasks I) (duration I) ≤ I.processors * F
  ideal_work F e =
      omega (
        arith,
        work R.processor R.start (duration I) (tasks I) I.processors F R.on_processor e,
        sum_le F (λ t. sum I.processors (λ P. sum (tasks I) (λ T. one_if (runs R.processor R.start (duration I) T P t))))
            (λ t. I.processors) each,
        sum_each F I.processors,
      )
    where
      each : (t : ℕ) → t < F
          → sum I.processors (λ P. sum (tasks I) (λ T. one_if (runs R.processor R.start (duration I) T P t))) ≤ I.processors
      each t h =
          omega (
            arith,
            sum_le I.processors (λ P. sum (tasks I) (λ T. one_if (runs R.processor R.start (duration I) T P t))) (λ P. 1)
                (λ P k. one_at_a_time P t),
            sum_each I.processors 1,
          )

-- ---- our plan

-- where each task stands once, a placement is the placement_of of its task
pub placement_once : (ps : List Placement) → Once ps → (u : Placement) → u ∈ ps → placement_of ps u.task ≡ u
placement_once (v ∷ ps) o u (here e) = placement_head v ps u.task (ap (λ (p : Placement). p.task) (sym e)) ∙ sym e
placement_once (v ∷ ps) o u (there h) = placement_tail v ps u.task other ∙ placement_once ps o.1 u h
  where
    other : v.task ≡ u.task → ⊥
    other e = not_both (placed ps u.task) (subst (λ T. Holds (not (placed ps T))) e o.0) (placed_in ps u h)
placement_once mathlib.Core.List.[] o u h = elim h [ ]

module _ (I : Instance) (ps : List Placement) where
  -- how many processors are idle in tick t
  abbrev pub idlers : ℕ → ℕ
  idlers t = length (idle I ps t)

  pub idlers_sum : (t : ℕ) → idlers t ≡ sum I.processors (λ P. one_if (not (busy I ps P t)))
  unfolding idle
  idlers_sum t = length-filter I.processors (λ P. not (busy I ps P t))

  one_or_other : (b : Bool) → one_if b + one_if (not b) ≡ 1
  unfolding one_if
  one_or_other true = refl
  one_or_other false = refl

  -- the busy and the idle processors of a tick are all the processors
  busy_idle : (t : ℕ) → sum I.processors (λ P. one_if (busy I ps P t)) + idlers t ≡ I.processors
  busy_idle t =
      omega (
        arith,
        idlers_sum t,
        sum_add I.processors (λ P. one_if (busy I ps P t)) (λ P. one_if (not (busy I ps P t))),
        sum_same I.processors (λ P. one_if (busy I ps P t) + one_if (not (busy I ps P t))) (λ P. 1)
            (λ P h. one_or_other (busy I ps P t)),
        sum_each I.processors 1,
      )

  -- our task T runs on processor P in tick t
  abbrev our_runs : ℕ → ℕ → ℕ → Bool
  our_runs = runs (λ T. (placement_of ps T).processor) (λ T. (placement_of ps T).start) (duration I)

module _ (I : Instance) (cm : ℕ) (ps : List Placement) (S : Sound I cm ps) where
  busy_runs : (P t : ℕ) → one_if (busy I ps P t) ≤ sum (tasks I) (λ T. one_if (our_runs I ps T P t))
  busy_runs P t = go (either (busy I ps P t))
    where
      at : (u : Placement) → u ∈ ps → u.processor ≡ P → Holds (running u.start (duration I u.task) t)
          → Holds (our_runs I ps u.task P t)
      at u h e r =
          rw (placement_once ps S.once u h)
          (both (eqb u.processor P) (running u.start (duration I u.task) t) (eq→eqb u.processor P e) r)

      go : Holds (busy I ps P t) ⊎ Holds (not (busy I ps P t)) → one_if (busy I ps P t) ≤ sum (tasks I) (λ T. one_if (our_runs I ps T P t))
      go (inl h) =
          let z = busy_of I ps P t h in
          omega (
            arith,
            one_if_most (busy I ps P t),
            one_if_yes (our_runs I ps z.0.task P t) (at z.0 z.1 z.2 z.3),
            sum_ge (tasks I) (λ T. one_if (our_runs I ps T P t)) z.0.task (S.in_range_lem z.0 z.1).0,
          )
      go (inr h) = omega (arith, one_if_no (busy I ps P t) h)

  -- n times a bound on the finishes is at most the durations and the idle ticks together
  pub our_work : (E : ℕ) → ((T : ℕ) → T < tasks I → (placement_of ps T).processor < I.processors)
      → ((T : ℕ) → T < tasks I → (placement_of ps T).start + duration I T ≤ E)
      → I.processors * E ≤ sum (tasks I) (duration I) + sum E (idlers I ps)
  our_work E p e =
      omega (
        arith,
        sum_each E I.processors,
        sum_same E (λ t. sum I.processors (λ P. one_if (busy I ps P t)) + idlers I ps t) (λ t. I.processors) (λ t h. busy_idle I ps t),
        sum_add E (λ t. sum I.processors (λ P. one_if (busy I ps P t))) (idlers I ps),
        sum_le E (λ t. sum I.processors (λ P. one_if (busy I ps P t)))
            (λ t. sum I.processors (λ P. sum (tasks I) (λ T. one_if (our_runs I ps T P t)))) each,
        work (λ T. (placement_of ps T).processor) (λ T. (placement_of ps T).start) (duration I) (tasks I) I.processors E p e,
      )
    where
      each : (t : ℕ) → t < E
          → sum I.processors (λ P. one_if (busy I ps P t))
          ≤ sum I.processors (λ P. sum (tasks I) (λ T. one_if (our_runs I ps T P t)))
      each t h =
          sum_le I.processors (λ P. one_if (busy I ps P t)) (λ P. sum (tasks I) (λ T. one_if (our_runs I ps T P t)))
          (λ P k. busy_runs P t)
