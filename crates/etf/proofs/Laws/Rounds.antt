-- How many rounds place every task: each round brings down twice the number of unplaced tasks plus the number of finishes ahead.
use Rattle.std.specs.Prelude.{◌≡◌, ◌⊎◌, Bool, not, leb, ltb, eqb}
use Rattle.std.proofs.Math.Path.{refl, ap}
use Rattle.std.proofs.Common.{◌∙◌, inl, inr, zero-add, suc-add, lt→ltb, le→leb}
use mathlib.Core.List.{List, [], ◌∷◌}
use Prim.Native.Nat.{ℕ, zero, suc, ◌+◌, ◌-◌, ◌*◌, ◌≤◌, ◌<◌}
use native.Mathlib.Omega.{arith}
use Rattle.std.proofs.Math.Dec.{ltb→lt, T as Holds}
use Rattle.base.specs.Lists.{◌∈◌, here, there, upto}
use Rattle.base.specs.Rows.{one_if, sum}
use Rattle.base.specs.Laws.Tests.{either, not_both, not-not, fails, or_right, pick_yes, le_or_lt}
use Rattle.base.specs.Laws.Lists.{all_of, all_at, upto_in, upto_of}
use Rattle.base.specs.Laws.Sums.{one_if_yes, one_if_no, one_if_le, one_if_most, sum_le, sum_less, sum_ge, sum_each}
use Rattle.etf.specs.Instance.{Instance, WellFormed, tasks}
use Rattle.etf.specs.Schedule.{Placement, placed, placement_of, finish}
use Rattle.etf.specs.Rule.{State, begin, free, complete, round, run, planned}
use Rattle.etf.proofs.Laws.Placements.{placed_head, placed_more, placement_of_lem, into_of}
use Rattle.etf.proofs.Laws.Turn.{Ready, NewPlacement, Turn, rest, put, tick, stuck, turn}

module _ (I : Instance) where
  -- the number of tasks that are not placed
  unfoldable pub left : List Placement → ℕ
  left ps = sum (tasks I) (λ T. one_if (not (placed ps T)))

  -- the number of finishes after cm
  live : ℕ → List Placement → ℕ
  live cm [] = 0
  live cm (u ∷ ps) = live cm ps + one_if (ltb cm (finish I u))

  -- at the start all tasks are left, and no more
  pub left_start : left [] ≤ tasks I
  unfolding left
  left_start =
      omega (
        arith,
        sum_each (tasks I) 1,
        sum_le (tasks I) (λ T. one_if (not (placed [] T))) (λ T. 1) (λ T h. one_if_most (not (placed [] T))),
      )

  -- ---- a placing brings down `left`, a move of the clock `live`

  one_not : (a b : Bool) → (Holds b → Holds a) → one_if (not a) ≤ one_if (not b)
  one_not a b h = one_if_le (not a) (not b) (λ k. fails b (λ q. not_both a k (h q)))

  pub left_put : (cm : ℕ) (ps : List Placement) (u : Placement) → NewPlacement I cm ps u → left (u ∷ ps) < left ps
  unfolding left
  left_put cm ps u K =
      sum_less (tasks I) u.task (λ T. one_if (not (placed (u ∷ ps) T))) (λ T. one_if (not (placed ps T)))
      (λ T h. one_not (placed (u ∷ ps) T) (placed ps T) (placed_more u ps T))
      K.task_ready.below
      (omega (
        arith,
        one_if_no (not (placed (u ∷ ps) u.task)) (not-not (placed (u ∷ ps) u.task) (placed_head u ps)),
        one_if_yes (not (placed ps u.task)) K.task_ready.fresh,
      ))

  live_put : (cm : ℕ) (ps : List Placement) (u : Placement) → live cm (u ∷ ps) ≤ live cm ps + 1
  unfolding live
  live_put cm ps u = omega (arith, one_if_most (ltb cm (finish I u)))

  one_later : (cm x f : ℕ) → cm ≤ x → one_if (ltb x f) ≤ one_if (ltb cm f)
  one_later cm x f h = one_if_le (ltb x f) (ltb cm f) (λ k. lt→ltb cm f (omega (arith, ltb→lt x f k)))

  live_le : (cm x : ℕ) (ps : List Placement) → cm ≤ x → live x ps ≤ live cm ps
  unfolding live
  live_le cm x [] h = omega arith
  live_le cm x (u ∷ ps) h = omega (arith, live_le cm x ps h, one_later cm x (finish I u) h)

  live_tick : (cm x : ℕ) (ps : List Placement) (v : Placement) → v ∈ ps → cm < x → finish I v ≡ x → live x ps < live cm ps
  unfolding live
  live_tick cm x (u ∷ ps) v (here e) h k =
      omega (
        arith,
        live_le cm x ps (omega arith),
        one_if_no (ltb x (finish I u)) (fails (ltb x (finish I u)) (λ q. absurd (omega (arith, ltb→lt x (finish I u) q, ap (finish I) e)))),
        one_if_yes (ltb cm (finish I u)) (lt→ltb cm (finish I u) (omega (arith, ap (finish I) e))),
      )
  live_tick cm x (u ∷ ps) v (there q) h k = omega (arith, live_tick cm x ps v q h k, one_later cm x (finish I u) (omega arith))
  live_tick cm x [] v x4 h k = elim x4 [ ]

  -- ---- where nothing is left, or nothing can go on, all tasks are placed

  pub complete_at : (ps : List Placement) → Holds (complete I ps) → (T : ℕ) → T < tasks I → Holds (placed ps T)
  unfolding complete
  complete_at ps h T k = all_at (placed ps) (upto (tasks I)) h T (upto_in (tasks I) T k)

  pub complete_of : (ps : List Placement) → ((T : ℕ) → T < tasks I → Holds (placed ps T)) → Holds (complete I ps)
  unfolding complete
  complete_of ps f = all_of (placed ps) (upto (tasks I)) (λ T h. f T (upto_of (tasks I) T h))

  none_left : (ps : List Placement) → left ps ≤ 0 → Holds (complete I ps)
  unfolding left
  none_left ps z = complete_of ps (λ T h. go T h (either (placed ps T)))
    where
      go : (T : ℕ) → T < tasks I → Holds (placed ps T) ⊎ Holds (not (placed ps T)) → Holds (placed ps T)
      go T h (inl k) = k
      go T h (inr k) =
          absurd (omega (arith, sum_ge (tasks I) (λ S. one_if (not (placed ps S))) T h, one_if_yes (not (placed ps T)) k))

  module _ (W : WellFormed I) where
    -- were a task left when no finish is ahead, the lowest such task would be ready, and processor 0 free
    pub none_stuck : (cm : ℕ) (ps : List Placement) → ((v : Placement) → v ∈ ps → cm < finish I v → ⊥)
        → ((T P : ℕ) → Ready I cm ps T → P < I.processors → Holds (free I cm ps P) → ⊥) → Holds (complete I ps)
    unfolding free
    none_stuck cm ps y z = complete_of ps (λ T h. below (suc T) h T (omega arith))
      where
        ended : (v : Placement) → v ∈ ps → (finish I v ≤ cm) ⊎ (cm < finish I v) → finish I v ≤ cm
        ended v h (inl k) = k
        ended v h (inr k) = absurd (y v h k)

        free_all : (P : ℕ) → Holds (free I cm ps P)
        free_all P =
            all_of _ ps
            (λ v h. or_right (not (eqb v.processor P)) (leb (finish I v) cm)
            (le→leb (finish I v) cm (ended v h (le_or_lt (finish I v) cm))))

        at : (T : ℕ) → T < tasks I → ((S : ℕ) → S < T → Holds (placed ps S)) → Holds (placed ps T) ⊎ Holds (not (placed ps T))
            → Holds (placed ps T)
        at T b lower (inl k) = k
        at T b lower (inr k) =
            absurd (z T 0 record {
              below = b;
              fresh = k;
              waits = λ l h.
                  let i = into_of I T l h in
                  let p = lower l.from (omega (arith, W.goes_up l i.0, i.1)) in
                  let s = placement_of_lem ps l.from p in
                  (p, ended (placement_of ps l.from) s.0 (le_or_lt (finish I (placement_of ps l.from)) cm));
            } W.some_processor (free_all 0))

        below : (k : ℕ) → k ≤ tasks I → (T : ℕ) → T < k → Holds (placed ps T)
        below zero b T h = absurd (omega arith)
        below (suc k) b T h = pick (le_or_lt (suc T) k) (below k (omega arith))
          where
            pick : (T < k) ⊎ (k < suc T) → ((S : ℕ) → S < k → Holds (placed ps S)) → Holds (placed ps T)
            pick (inl q) r = r T q
            pick (inr q) r =
                let e : T ≡ k = omega arith in
                at T (omega arith) (λ S s. r S (omega arith)) (either (placed ps T))

    run_rest : (k : ℕ) (st : State) → Holds (complete I st.placements) → run I k st ≡ st
    unfolding run round
    run_rest zero st h = refl
    run_rest (suc k) st h = rw (pick_yes (complete I st.placements) st _ h) (run_rest k st h)

    run_complete : (k : ℕ) (st : State) → 2 * left st.placements + live st.clock st.placements ≤ suc k
        → Holds (complete I (run I k st).placements)
    unfolding run
    run_complete zero st h = none_left st.placements (omega arith)
    run_complete (suc k) st h = go (round I st) (turn I W st.clock st.placements) (λ nx q. run_complete k nx q)
      where
        kept : Holds (complete I st.placements) → Holds (complete I (run I k st).placements)
        kept c = rw (run_rest k st c) c

        go : (nx : State) → Turn I st.clock st.placements nx
            → ((s : State) → 2 * left s.placements + live s.clock s.placements ≤ suc k
            → Holds (complete I (run I k s).placements))
            → Holds (complete I (run I k nx).placements)
        go nx (rest c) r = kept c
        go nx (put u K) r =
            r (record { clock = st.clock; placements = u ∷ st.placements })
            (omega (arith, left_put st.clock st.placements u K, live_put st.clock st.placements u))
        go nx (tick x K) r =
            let w = K.whose in
            r (record { clock = x; placements = st.placements })
            (omega (arith, live_tick st.clock x st.placements w.0 w.1 K.ahead w.2))
        go nx (stuck y z) r = kept (none_stuck st.clock st.placements y z)

    -- 2m - 1 rounds, or more, place every task
    pub enough_rounds : (k : ℕ) → 2 * tasks I ≤ suc k → Holds (complete I (run I k begin).placements)
    unfolding live
    enough_rounds k h = run_complete k begin (omega (arith, left_start))

    -- every task is placed in the plan
    pub all_placed : (T : ℕ) → T < tasks I → Holds (placed (planned I) T)
    unfolding planned
    all_placed = complete_at (run I (2 * tasks I) begin).placements (enough_rounds (2 * tasks I) (omega arith))

    -- the last of suc k rounds
    pub run_last : (k : ℕ) (st : State) → run I (suc k) st ≡ round I (run I k st)
    unfolding run
    run_last zero st = refl
    run_last (suc k) st = run_last k (round I st)

    run_on : (a b : ℕ) (st : State) → run I (a + b) st ≡ run I b (run I a st)
    unfolding run
    run_on zero b st = rw (zero-add b) refl
    run_on (suc a) b st = rw (suc-add a b) (run_on a b (round I st))

    -- from 2m - 1 rounds on, further rounds change nothing
    pub settled : (k : ℕ) → 2 * tasks I ≤ suc k → run I k begin ≡ run I (2 * tasks I - 1) begin
    settled k h =
        let j = 2 * tasks I - 1 in
        let e : k ≡ j + (k - j) = omega arith in
        ap (λ (x : ℕ). run I x begin) e ∙ run_on j (k - j) begin ∙ run_rest (k - j) (run I j begin) (enough_rounds j (omega arith))

    -- once no task remains, the plan is what stands
    pub planned_by : (k : ℕ) → k ≤ 2 * tasks I → Holds (complete I (run I k begin).placements) → planned I ≡ (run I k begin).placements
    unfolding planned
    planned_by k h c =
        let e : 2 * tasks I ≡ k + (2 * tasks I - k) = omega arith in
        ap (λ (st : State). st.placements)
        (ap (λ (x : ℕ). run I x begin) e ∙ run_on k (2 * tasks I - k) begin ∙ run_rest (2 * tasks I - k) (run I k begin) c)
