-- The planning rule (01: "The planning rule"), round by round.
use Rattle.std.specs.Prelude.{Bool, true, not, ◌&&◌, ◌||◌, ℕ, zero, suc, ◌+◌, ◌*◌, max, leb, ltb, eqb}
use Rattle.std.proofs.Math.Option.{Option, none, some}
use mathlib.Core.List.{List, [], ◌∷◌, map, flat_map}
use Rattle.base.specs.Choice.{pick}
use Rattle.base.specs.Lists.{upto, all, filter, best}
use Rattle.job.specs.Job.{Edge}
use Rattle.etf.specs.Instance.{Instance, tasks, into}
use Rattle.etf.specs.Schedule.{Placement, placed, placement_of, finish, arrival}

-- the clock (01: CM), and the placements so far, newest first
pub record State : Type 0 where
  pub clock : ℕ
  pub placements : List Placement

-- 01: "The clock CM starts at 0"; nothing is placed
abbrev pub begin : State
begin = record { clock = 0; placements = [] }

-- start s is at most NM, which is none where 01 says endless
unfoldable pub at_most : ℕ → Option ℕ → Bool
at_most s none = true
at_most s (some x) = leb s x

-- 01: "CM becomes NM". Were NM endless the clock would stay; while tasks remain that does not happen (`Placing.antt`, `each_round`)
unfoldable pub move : State → Option ℕ → State
move st none = st
move st (some x) = record { clock = x; placements = st.placements }

-- 01: "If that start is at most NM, place the step .. If it is above NM, place nothing";
-- where nothing is placed, for want of a pair too, the clock moves
unfoldable pub settle : State → Option ℕ → Option Placement → State
settle st nm none = move st nm
settle st nm (some u) = pick (at_most u.start nm) (record { clock = st.clock; placements = u ∷ st.placements }) (move st nm)

module _ (I : Instance) where
  -- the next moment (01: "NM is the earliest finish after CM of a step already placed, or endless if there is none")
  unfoldable pub next_moment : ℕ → List Placement → Option ℕ
  next_moment cm ps = best ltb (filter (ltb cm) (map (finish I) ps))

  -- 01: "A board is free at CM if it has no placed step that finishes after CM"
  unfoldable pub free : ℕ → List Placement → ℕ → Bool
  free cm ps P = all (λ u. not (eqb u.processor P) || leb (finish I u) cm) ps

  -- the predecessor that sends along edge e has finished at or before cm
  unfoldable pub finished : ℕ → List Placement → Edge → Bool
  finished cm ps e = placed ps e.from && leb (finish I (placement_of ps e.from)) cm

  -- task T is not yet placed, and is ready (01: "A step is ready when all its predecessors have finished at or before CM")
  unfoldable pub ready : ℕ → List Placement → ℕ → Bool
  ready cm ps T = not (placed ps T) && all (finished cm ps) (into I T)

  -- task T on processor P (01: "each pair has the start max(CM, arrival)")
  unfoldable pub pair : ℕ → List Placement → ℕ → ℕ → Placement
  pair cm ps T P = record { task = T; processor = P; start = max cm (arrival I ps T P) }

  -- the pairs of a ready task and a free processor: by `order`, then by processor
  unfoldable pub pairs : ℕ → List Placement → List Placement
  pairs cm ps = flat_map (λ T. map (pair cm ps T) (filter (free cm ps) (upto I.processors))) (filter (ready cm ps) I.order)

  -- 01: "Take the smallest start; ties go to the lowest step number, then the lowest board":
  -- the first pair of smallest start, as a job's `order` is by number
  unfoldable pub choice : ℕ → List Placement → Option Placement
  choice cm ps = best (λ u v. ltb u.start v.start) (pairs cm ps)

  -- no task remains
  unfoldable pub complete : List Placement → Bool
  complete ps = all (placed ps) (upto (tasks I))

  -- a round while tasks remain: a placing, or a move of the clock
  unfoldable pub round : State → State
  round st =
      pick (complete st.placements) st (settle st (next_moment st.clock st.placements) (choice st.clock st.placements))

  -- k rounds
  unfoldable pub run : ℕ → State → State
  run zero st = st
  run (suc k) st = run k (round st)

  -- the planner's schedule (01: plan), newest placement first:
  -- 2m rounds place every task, and further rounds change nothing (`Placing.antt`)
  unfoldable pub planned : List Placement
  planned = (run (2 * tasks I) begin).placements

  -- the rounds of k that place or move: those while tasks remain
  unfoldable pub rounds_in : ℕ → State → ℕ
  rounds_in zero st = 0
  rounds_in (suc k) st = pick (complete st.placements) 0 (1 + rounds_in k (round st))

  -- the rounds that the planner takes (02 §14: "A round is a placing, or a move of the clock while steps remain unplaced")
  unfoldable pub rounds : ℕ
  rounds = rounds_in (2 * tasks I) begin
