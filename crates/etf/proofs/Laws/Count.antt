-- The rounds counted are those before every task is placed; in a chain placings and moves of the clock take turns: m tasks take 2m - 1.
use Rattle.std.specs.Prelude.{◌≡◌, ◌⊎◌, not, List, ◌∷◌}
use Rattle.std.proofs.Math.Path.{refl}
use Rattle.std.proofs.Common.{◌∙◌, inl, inr}
use Prim.Native.Nat.{ℕ, zero, suc, ◌+◌, ◌-◌, ◌*◌, ◌≤◌, ◌<◌}
use native.Mathlib.Omega.{arith}
use Rattle.std.proofs.Math.Dec.{T as Holds}
use Rattle.base.specs.Lists.{◌∈◌, any}
use Rattle.base.specs.Laws.Tests.{either, not_both, fails, pick_yes, pick_no, le_or_lt}
use Rattle.base.specs.Laws.Lists.{for_cons, in_nothing}
use Rattle.etf.specs.Instance.{Instance, WellFormed, tasks, TaskChain}
use Rattle.etf.specs.Schedule.{Placement, placed, placement_of, finish}
use Rattle.etf.specs.Rule.{State, begin, complete, round, run, rounds_in, rounds}
use Rattle.etf.proofs.Laws.Placements.{placement_head, placed_head, placed_more, placed_less, into_in}
use Rattle.etf.proofs.Laws.Turn.{Ready, NewPlacement, Tick, Turn, rest, put, tick, stuck, turn}
use Rattle.etf.proofs.Laws.Rounds.{complete_at, complete_of, none_stuck, enough_rounds}

module _ (I : Instance) where
  -- ---- the rounds of k that are counted

  count_none : (st : State) → rounds_in I 0 st ≡ 0
  unfolding rounds_in
  count_none st = refl

  count_done : (k : ℕ) (st : State) → Holds (complete I st.placements) → rounds_in I k st ≡ 0
  unfolding rounds_in
  count_done zero st c = refl
  count_done (suc k) st c = pick_yes (complete I st.placements) 0 (1 + rounds_in I k (round I st)) c

  count_one : (k : ℕ) (st : State) → Holds (not (complete I st.placements)) → rounds_in I (suc k) st ≡ suc (rounds_in I k (round I st))
  unfolding rounds_in
  count_one k st c =
      pick_no (complete I st.placements) 0 (1 + rounds_in I k (round I st)) c ∙ omega arith

  count_open : (k j : ℕ) (st : State) → j < rounds_in I k st → Holds (not (complete I (run I j st).placements))
  unfolding run
  count_open zero j st h = absurd (omega (arith, count_none st))
  count_open (suc k) j st h = go (either (complete I st.placements)) j h (λ i q. count_open k i (round I st) q)
    where
      go : Holds (complete I st.placements) ⊎ Holds (not (complete I st.placements)) → (j : ℕ) → j < rounds_in I (suc k) st
          → ((i : ℕ) → i < rounds_in I k (round I st) → Holds (not (complete I (run I i (round I st)).placements)))
          → Holds (not (complete I (run I j st).placements))
      go (inl c) j q r = absurd (omega (arith, count_done (suc k) st c))
      go (inr c) zero q r = c
      go (inr c) (suc j) q r = r j (omega (arith, count_one k st c))

  count_complete : (k : ℕ) (st : State) → Holds (complete I (run I k st).placements)
      → Holds (complete I (run I (rounds_in I k st) st).placements)
  unfolding run
  count_complete zero st h = rw (count_none st) h
  count_complete (suc k) st h = go (either (complete I st.placements)) (count_complete k (round I st) h)
    where
      go : Holds (complete I st.placements) ⊎ Holds (not (complete I st.placements))
          → Holds (complete I (run I (rounds_in I k (round I st)) (round I st)).placements)
          → Holds (complete I (run I (rounds_in I (suc k) st) st).placements)
      go (inl c) r = rw (count_done (suc k) st c) c
      go (inr c) r = rw (count_one k st c) r

  module _ (W : WellFormed I) where
    -- the rounds counted are at most 2m - 1
    pub rounds_most : suc (rounds I) ≤ 2 * tasks I
    unfolding rounds
    rounds_most = go (le_or_lt (suc (rounds I)) (2 * tasks I))
      where
        go : (suc (rounds I) ≤ 2 * tasks I) ⊎ (2 * tasks I < suc (rounds I)) → suc (rounds I) ≤ 2 * tasks I
        go (inl h) = h
        go (inr h) =
            absurd (not_both (complete I (run I (2 * tasks I - 1) begin).placements)
            (count_open (2 * tasks I) (2 * tasks I - 1) begin (omega (arith, W.some_task)))
            (enough_rounds I W (2 * tasks I - 1) (omega (arith, W.some_task))))

    -- before each of them a task remains
    pub rounds_open : (k : ℕ) → k < rounds I → Holds (not (complete I (run I k begin).placements))
    unfolding rounds
    rounds_open k h = count_open (2 * tasks I) k begin h

    -- after them none does
    pub rounds_complete : Holds (complete I (run I (rounds I) begin).placements)
    unfolding rounds
    rounds_complete = count_complete (2 * tasks I) begin (enough_rounds I W (2 * tasks I) (omega arith))

    -- ---- a chain

    -- tasks 0 .. k - 1 are placed, no other is, and all have finished
    record Still (k : ℕ) (st : State) : Type 0 where
      early : (T : ℕ) → T < k → Holds (placed st.placements T)
      late : (T : ℕ) → Holds (placed st.placements T) → T < k
      ended : (v : Placement) → v ∈ st.placements → finish I v ≤ st.clock

    -- tasks 0 .. k are placed, no other is, and all but the last have finished
    record Running (k : ℕ) (st : State) : Type 0 where
      early : (T : ℕ) → T < suc k → Holds (placed st.placements T)
      late : (T : ℕ) → Holds (placed st.placements T) → T < suc k
      ahead : st.clock < finish I (placement_of st.placements k)
      ended : (v : Placement) → v ∈ st.placements → (finish I v ≤ st.clock) ⊎ (finish I v ≡ finish I (placement_of st.placements k))

    still_open : (k : ℕ) (st : State) → k < tasks I → Still k st → Holds (complete I st.placements) → ⊥
    still_open k st h S c = absurd (omega (arith, S.late k (complete_at I st.placements c k h)))

    running_open : (k : ℕ) (st : State) → suc k < tasks I → Running k st → Holds (complete I st.placements) → ⊥
    running_open k st h R c = absurd (omega (arith, R.late (suc k) (complete_at I st.placements c (suc k) h)))

    running_complete : (k : ℕ) (st : State) → suc k ≡ tasks I → Running k st → Holds (complete I st.placements)
    running_complete k st e R = complete_of I st.placements (λ T h. R.early T (omega arith))

    module _ (C : TaskChain I) where
      -- of a ready task that is not the first, the one before it is placed and has finished
      before : (cm : ℕ) (ps : List Placement) (T : ℕ) → Ready I cm ps (suc T) → Holds (placed ps T) × (finish I (placement_of ps T) ≤ cm)
      before cm ps T R =
          let e = C T R.below in
          let w = R.waits e.0 (into_in I (suc T) e.0 e.1 e.3) in
          rw e.2 at w

      -- where tasks 0 .. k - 1 are placed, no other than k is ready
      next_task : (k cm : ℕ) (ps : List Placement) → ((T : ℕ) → T < k → Holds (placed ps T)) → ((T : ℕ) → Holds (placed ps T) → T < k)
          → (T : ℕ) → Ready I cm ps T → T ≡ k
      next_task k cm ps early late T R = go (le_or_lt k T)
        where
          low : (S : ℕ) → Ready I cm ps S → S ≤ k
          low zero Q = omega arith
          low (suc S) Q = late S (before cm ps S Q).0

          go : (k ≤ T) ⊎ (T < k) → T ≡ k
          go (inl h) = omega (arith, low T R)
          go (inr h) = absurd (not_both (placed ps T) R.fresh (early T h))

      -- a round between two tasks places the next
      still_put : (k : ℕ) (st : State) (u : Placement) → Still k st → NewPlacement I st.clock st.placements u
          → Running k (record { clock = st.clock; placements = u ∷ st.placements })
      still_put k st u S K = record {
        early = λ T h. one T h (le_or_lt (suc T) k);
        late = λ T q. two T q (le_or_lt (suc T) (suc k));
        ahead = rw (placement_head u st.placements k e) (omega (arith, K.when, W.takes_time u.task K.task_ready.below));
        ended = for_cons (λ v. (finish I v ≤ st.clock) ⊎ (finish I v ≡ finish I (placement_of (u ∷ st.placements) k)))
            (inr (rw (placement_head u st.placements k e))) (λ v q. inl (S.ended v q));
      }
        where
          e : u.task ≡ k
          e = next_task k st.clock st.placements S.early S.late u.task K.task_ready

          one : (T : ℕ) → T < suc k → (T < k) ⊎ (k < suc T) → Holds (placed (u ∷ st.placements) T)
          one T h (inl q) = placed_more u st.placements T (S.early T q)
          one T h (inr q) = let same : u.task ≡ T = omega (arith, e) in rw (← same) (placed_head u st.placements)

          two : (T : ℕ) → Holds (placed (u ∷ st.placements) T) → (T < suc k) ⊎ (suc k < suc T) → T < suc k
          two T h (inl q) = q
          two T h (inr q) =
              omega (arith, S.late T (placed_less u st.placements T (λ same. absurd (omega (arith, e, same))) h))

      still_next : (k : ℕ) (st : State) → k < tasks I → Still k st → Running k (round I st)
      still_next k st h S = go (round I st) (turn I W st.clock st.placements)
        where
          go : (nx : State) → Turn I st.clock st.placements nx → Running k nx
          go nx (rest c) = absurd (still_open k st h S c)
          go nx (put u K) = still_put k st u S K
          go nx (tick x K) = let w = K.whose in absurd (omega (arith, K.ahead, w.2, S.ended w.0 w.1))
          go nx (stuck y z) = absurd (still_open k st h S (none_stuck I W st.clock st.placements y z))

      -- a round while a task is running moves the clock to its finish
      running_next : (k : ℕ) (st : State) → suc k < tasks I → Running k st → Still (suc k) (round I st)
      running_next k st h R = go (round I st) (turn I W st.clock st.placements)
        where
          waits : (T : ℕ) → T ≡ suc k → Ready I st.clock st.placements T → ⊥
          waits T e Q = absurd (omega (arith, R.ahead, (before st.clock st.placements k (rw e at Q)).1))

          by : (x : ℕ) → Tick I st.clock st.placements x → finish I (placement_of st.placements k) ≡ x
          by x K =
              let w = K.whose in
              elim (R.ended w.0 w.1) [ inl q ↦ absurd (omega (arith, K.ahead, w.2)) | inr q ↦ omega (arith, w.2) ]

          go : (nx : State) → Turn I st.clock st.placements nx → Still (suc k) nx
          go nx (rest c) = absurd (running_open k st h R c)
          go nx (put u K) =
              absurd (waits u.task
              (next_task (suc k) st.clock st.placements R.early R.late u.task K.task_ready) K.task_ready)
          go nx (tick x K) = record {
            early = R.early;
            late = R.late;
            ended = λ v q. elim (R.ended v q) [ inl a ↦ omega (arith, K.ahead) | inr a ↦ omega (arith, by x K) ];
          }
          go nx (stuck y z) = absurd (running_open k st h R (none_stuck I W st.clock st.placements y z))

      -- suc d tasks left take a placing each, and a move of the clock between any two
      count_chain : (d k f : ℕ) (st : State) → Still k st → k + suc d ≡ tasks I → 2 * suc d ≤ suc f → suc (rounds_in I f st) ≡ 2 * suc d
      count_chain zero k zero st S e h = absurd (omega arith)
      count_chain zero k (suc f) st S e h =
          omega (
            arith,
            count_one f st (fails (complete I st.placements) (still_open k st (omega arith) S)),
            count_done f (round I st) (running_complete k (round I st) (omega arith) (still_next k st (omega arith) S)),
          )
      count_chain (suc d) k zero st S e h = absurd (omega arith)
      count_chain (suc d) k (suc zero) st S e h = absurd (omega arith)
      count_chain (suc d) k (suc (suc f)) st S e h =
          let R = still_next k st (omega arith) S in
          let N = running_next k (round I st) (omega arith) R in
          omega (
            arith,
            count_one (suc f) st (fails (complete I st.placements) (still_open k st (omega arith) S)),
            count_one f (round I st) (fails (complete I (round I st).placements) (running_open k (round I st) (omega arith) R)),
            count_chain d (suc k) f (round I (round I st)) N (omega arith) (omega arith),
          )

    -- a chain takes 2m - 1
    pub chain_rounds : TaskChain I → suc (rounds I) ≡ 2 * tasks I
    unfolding rounds placed any
    chain_rounds C = go (tasks I) refl W.some_task
      where
        still : Still 0 begin
        still = record { early = λ T h. absurd (omega arith); late = λ T h. absurd h; ended = λ v h. absurd (in_nothing h) }

        go : (m : ℕ) → tasks I ≡ m → 1 ≤ m → suc (rounds_in I (2 * tasks I) begin) ≡ 2 * tasks I
        go zero e h = absurd (omega arith)
        go (suc d) e h = omega (arith, count_chain C d 0 (2 * tasks I) begin still (omega arith) (omega arith))
