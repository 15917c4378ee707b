-- What the rounds come to: every task is placed exactly once, within 2m - 1 rounds.
use Rattle.std.specs.Prelude.{◌≡◌, not, ℕ, suc, ◌-◌, ◌*◌, ◌≤◌, ◌<◌, eqb, T as Holds, length}
use Rattle.std.proofs.Common.{sym, ◌∙◌, arith}
use Rattle.base.specs.Lists.{◌∈◌, filter}
use Rattle.base.specs.Laws.Tests.{not_both}
use Rattle.etf.specs.Instance.{Instance, WellFormed, TaskChain, tasks}
use Rattle.etf.specs.Schedule.{Placement}
use Rattle.etf.specs.Rule.{State, begin, complete, round, run, planned, rounds}
use Rattle.etf.proofs.Laws.Turn.{Turn, rest, put, tick, stuck, turn}
use Rattle.etf.proofs.Laws.Planned
use Rattle.etf.proofs.Laws.Rounds
use Rattle.etf.proofs.Laws.Count
use Rattle.etf.specs.Placing.{Round, places, moves}

module _ (I : Instance) (W : WellFormed I) where
  -- every task is placed exactly once
  pub each_once : (T : ℕ) → T < tasks I → length (filter (λ u. eqb u.task T) (planned I)) ≡ 1
  each_once = Planned.placed_once I W

  -- nothing else is placed
  pub only_tasks : (u : Placement) → u ∈ planned I → u.task < tasks I
  only_tasks u h = ((Planned.sound_plan I W).in_range_lem u h).0

  -- 2m - 1 rounds are enough: further rounds change nothing
  pub settled : (k : ℕ) → 2 * tasks I - 1 ≤ k → run I k begin ≡ run I (2 * tasks I) begin
  settled k h = Rounds.settled I W k (omega arith) ∙ sym (Rounds.settled I W (2 * tasks I) (omega arith))

  -- the rounds that the planner takes: before each of them a task remains
  pub rounds_open : (k : ℕ) → k < rounds I → Holds (not (complete I (run I k begin).placements))
  rounds_open = Count.rounds_open I W

  -- and after them none
  pub rounds_complete : Holds (complete I (run I (rounds I) begin).placements)
  rounds_complete = Count.rounds_complete I W

  -- each of them places a task or moves the clock
  pub each_round : (k : ℕ) → k < rounds I → Round I (run I k begin) (run I (suc k) begin)
  each_round k h = rw (Rounds.run_last I W k begin) (go (round I st) (turn I W st.clock st.placements))
    where
      st : State
      st = run I k begin

      none_left : Holds (complete I st.placements) → ⊥
      none_left = not_both (complete I st.placements) (rounds_open k h)

      go : (nx : State) → Turn I st.clock st.placements nx → Round I st nx
      go nx (rest c) = absurd (none_left c)
      go nx (put u K) = places u
      go nx (tick x K) = moves x K.moment K.ahead
      go nx (stuck y z) = absurd (none_left (Rounds.none_stuck I W st.clock st.placements y z))

  -- they are at most 2m - 1
  pub rounds_most : rounds I ≤ 2 * tasks I - 1
  rounds_most = omega (arith, Count.rounds_most I W)

  -- and exactly that many on a chain, whatever the number of processors (`ChainJob.antt` has one for each)
  pub chain_rounds : TaskChain I → rounds I ≡ 2 * tasks I - 1
  chain_rounds C = omega (arith, Count.chain_rounds I W C)
