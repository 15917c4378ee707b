-- The planner's arrays at the start, past a move of the clock and at the end: what they hold when no task is left is the plan.
use Rattle.std.specs.Prelude.{◌&&◌, ◌⊎◌, ◌≡◌, refl, List, [], ℕ, ◌+◌, ◌*◌, ◌/◌, ◌%◌, ◌≤◌, ◌<◌, eqb, T as Holds}
use Rattle.std.proofs.Math.Bool.{and-true}
use Rattle.std.proofs.Common.{inl, inr, subst, ◌∙◌, arith, lt→ltb, ltb→lt}
use Rattle.std.proofs.Math.Path.{ap, sym}
use Rattle.std.proofs.Math.Dec.{ltb}
use Rattle.std.proofs.Math.ListN.{get_or}
use Rattle.base.specs.Lists.{any, greatest}
use Rattle.base.specs.Rows.{one_if}
use Rattle.base.specs.Slices.{filled}
use Rattle.base.specs.Laws.Tests.{fails, both, first, second, pick_yes, pick_no, le_or_lt}
use Rattle.base.specs.Laws.Lists.{in_nothing}
use Rattle.base.specs.Laws.Sums.{sum_same}
use Rattle.base.specs.Laws.Most.{most_none}
use Rattle.base.specs.Laws.Filled.{is_filled}
use Rattle.graph.specs.Graph.{edges_to}
use Rattle.etf.specs.Instance.{Instance, tasks}
use Rattle.etf.specs.Schedule.{Placement, placed, placement_of, finish, arrival, last_finish}
use Rattle.etf.specs.Rule.{begin, run, complete, planned}
use Rattle.etf.proofs.Laws.Placements.{placement_of_lem}
use Rattle.etf.proofs.Laws.Rounds.{complete_at, planned_by}
use Rattle.etf.proofs.Laws.Sound.{Sound, Opened}
use Rattle.schedule.specs.InArrays.{InArrays, instance_in, Plannable}
use Rattle.schedule.specs.Call.{called, start_of, processor_of, scratch_at, arrival_places, laid_out_call}
use Rattle.schedule.specs.Plan.{last_of}
use Rattle.schedule.specs.Pass.{Room, run_call, Tables}
use Rattle.schedule.specs.Laws.Held.{held_tasks, held_few, well}
use Rattle.schedule.specs.Laws.Planner.Simulation.{reached, finished_by, awaited, InStep, Untouched, state}
use Rattle.schedule.specs.Laws.Planner.ReadOff.{arrival_is, complete_is}

-- ---- the start

-- nothing is placed: each task waits for all its predecessors
pub progress_start : {A : InArrays} → Plannable A → {S : Tables}
    → ((x : ℕ) → x < 4096 → get_or S.inbox.arrivals x 0 ≡ 0)
    → ((T : ℕ) → T < 256 → get_or S.inbox.waiting T 0 ≡ edges_to A.to A.edges T)
    → ((T : ℕ) → get_or S.inbox.latest T 0 ≡ 0) → ((P : ℕ) → get_or S.busy P 0 ≡ 0)
    → InStep A 0 [] S 0 0
unfolding instance_in placed any reached finished_by awaited edges_to last_finish greatest
progress_start {A} F arrivals-none waiting-all latest-none busy-none = record {
  start_at_lem = λ T h. absurd h;
  processor_at_lem = λ T h. absurd h;
  arrival_at = λ T P b c.
      arrivals-none (16 * T + P) (omega (arith, held_few F, F.few_processors))
      ∙ sym (most_none A.edges (reached A [] T P) (λ k h. refl));
  latest_at = λ T b. latest-none T ∙ sym (most_none A.edges (finished_by A [] T) (λ k h. refl));
  waiting_placed = λ T h. absurd h;
  waiting_open = λ T b h.
      waiting-all T (omega (arith, held_few F))
      ∙ sum_same A.edges (λ k. one_if (eqb (get_or A.to k 0) T)) (awaited A.from A.to [] T)
      (λ k b. ap one_if (sym (and-true (eqb (get_or A.to k 0) T))));
  busy_last = λ u h. absurd (in_nothing h);
  busy_whose = λ P b. inl (busy-none P);
  low_most = omega arith;
  below_low = λ T h. absurd (omega arith);
  at_low = λ h. tt;
  last_is = refl;
}

pub untouched_start : {A : InArrays} {starts processors arrivals : List ℕ}
    → Untouched A starts processors arrivals starts processors arrivals
untouched_start = record {
  starts_size = refl;
  processors_size = refl;
  arrivals_size = refl;
  starts_past = λ T h. refl;
  processors_past = λ T h. refl;
  spare_task = λ T P h c. refl;
  spare_processor = λ T P h c. refl;
}

module _ {A : InArrays} {cm : ℕ} {ps : List Placement} {S : Tables} {low e : ℕ} (Q : InStep A cm ps S low e) where
  abbrev I : Instance
  I = instance_in A

  abbrev arrivals : List ℕ
  arrivals = S.inbox.arrivals

  -- ---- the clock moves on: what had finished has finished

  pub progress_tick : (x : ℕ) → cm ≤ x → InStep A x ps S low e
  progress_tick x h = record {
    start_at_lem = Q.start_at_lem;
    processor_at_lem = Q.processor_at_lem;
    arrival_at = Q.arrival_at;
    latest_at = Q.latest_at;
    waiting_placed = Q.waiting_placed;
    waiting_open = Q.waiting_open;
    busy_last = λ u k. go u (Q.busy_last u k);
    busy_whose = Q.busy_whose;
    low_most = Q.low_most;
    below_low = Q.below_low;
    at_low = Q.at_low;
    last_is = Q.last_is;
  }
    where
      go : (u : Placement) → (finish I u ≤ cm) ⊎ (finish I u ≡ get_or S.busy u.processor 0)
          → (finish I u ≤ x) ⊎ (finish I u ≡ get_or S.busy u.processor 0)
      go u (inl a) = inl (omega arith)
      go u (inr a) = inr a

  -- ---- all tasks are placed

  module _ (F : Plannable A) (H : Sound I cm ps) {k : ℕ} (few : k ≤ 2 * tasks I) (ran : run I k begin ≡ state cm ps)
      (done : low ≡ A.tasks) {starts₀ processors₀ arrivals₀ : List ℕ} (R : Room A.tasks starts₀ processors₀ arrivals₀)
      (N : Untouched A starts₀ processors₀ arrivals₀ S.starts S.processors arrivals) where
    plan_is : planned I ≡ ps
    plan_is =
        planned_by I (well F) k few (subst (λ st. Holds (complete I st.placements)) (sym ran) (complete_is F Q done))
        ∙ ap (λ st. st.placements) ran

    there : (T : ℕ) → T < tasks I → Holds (placed ps T)
    there = complete_at I ps (complete_is F Q done)

    opened : (T : ℕ) → T < tasks I → Opened I ps T
    opened T b =
        let t = placement_of_lem ps T (there T b) in
        subst (Opened I ps) t.1 (H.opened (placement_of ps T) t.0)

    -- each place of the scratch, by its row and its column
    module _ (x : ℕ) where
      abbrev T : ℕ
      T = x / 16

      abbrev P : ℕ
      P = x % 16

      place : x ≡ 16 * T + P
      place = omega arith

      -- a place of the plan's, or a spare one
      arrived : T < tasks I → P < I.processors → get_or arrivals x 0 ≡ scratch_at I x
      unfolding scratch_at
      arrived a b =
          ap (λ (y : ℕ). get_or arrivals y 0) place
          ∙ (arrival_is F Q T P a b (opened T a)
          ∙ (ap (λ qs. arrival I qs T P) (sym plan_is)
          ∙ sym (pick_yes (ltb T (tasks I) && ltb P I.processors) (arrival I (planned I) T P) 0
          (both (ltb T (tasks I)) (ltb P I.processors) (lt→ltb T (tasks I) a) (lt→ltb P I.processors b)))))

      spare : x < 4096 → (T < tasks I → P < I.processors → ⊥) → get_or arrivals (16 * T + P) 0 ≡ get_or arrivals₀ (16 * T + P) 0
          → get_or arrivals x 0 ≡ scratch_at I x
      unfolding scratch_at
      spare h off e =
          ap (λ (y : ℕ). get_or arrivals y 0) place
          ∙ (e ∙ (ap (λ (y : ℕ). get_or arrivals₀ y 0) (sym place) ∙ (R.zeros x h
          ∙ sym (pick_no (ltb T (tasks I) && ltb P I.processors) (arrival I (planned I) T P) 0
          (fails (ltb T (tasks I) && ltb P I.processors)
          (λ t. off (ltb→lt T (tasks I) (first (ltb T (tasks I)) (ltb P I.processors) t))
          (ltb→lt P I.processors (second (ltb T (tasks I)) (ltb P I.processors) t))))))))

      scratch_is : x < 4096 → get_or arrivals x 0 ≡ scratch_at I x
      scratch_is h = go (le_or_lt (tasks I) T) (le_or_lt I.processors P)
        where
          go : (tasks I ≤ T) ⊎ (T < tasks I) → (I.processors ≤ P) ⊎ (P < I.processors) → get_or arrivals x 0 ≡ scratch_at I x
          go (inl a) b = spare h (λ t p. omega arith) (N.spare_task T P a (omega arith))
          go (inr a) (inl b) = spare h (λ t p. omega arith) (N.spare_processor T P b (omega arith))
          go (inr a) (inr b) = arrived a b

      scratch_past : 4096 ≤ x → get_or arrivals x 0 ≡ get_or arrivals₀ x 0
      scratch_past h =
          ap (λ (y : ℕ). get_or arrivals y 0) place
          ∙ (N.spare_task T P (omega (arith, held_few F)) (omega arith) ∙ ap (λ (y : ℕ). get_or arrivals₀ y 0) (sym place))

    starts_are : S.starts ≡ filled (start_of I) (tasks I) starts₀
    unfolding start_of
    starts_are =
        is_filled (start_of I) (tasks I) starts₀ S.starts
        (omega (arith, R.for_starts, held_tasks F)) N.starts_size
        (λ T b. Q.start_at_lem T (there T b) ∙ ap (λ qs. (placement_of qs T).start) (sym plan_is)) N.starts_past

    processors_are : S.processors ≡ filled (processor_of I) (tasks I) processors₀
    unfolding processor_of
    processors_are =
        is_filled (processor_of I) (tasks I) processors₀ S.processors
        (omega (arith, R.for_processors, held_tasks F)) N.processors_size
        (λ T b. Q.processor_at_lem T (there T b) ∙ ap (λ qs. (placement_of qs T).processor) (sym plan_is)) N.processors_past

    arrivals_are : arrivals ≡ filled (scratch_at I) arrival_places arrivals₀
    arrivals_are = is_filled (scratch_at I) arrival_places arrivals₀ arrivals R.for_arrivals N.arrivals_size scratch_is scratch_past

    pub finished : called e S.starts S.processors arrivals ≡ run_call I starts₀ processors₀ arrivals₀
    unfolding laid_out_call last_of
    finished = rw (starts_are, processors_are, arrivals_are, Q.last_is, plan_is)
