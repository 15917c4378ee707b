-- `planner::skip`: the task of every place passed so far is marked as placed.
use Rattle.schedule.specs.Laws.Planner.Skipping.{Marked}
use Rattle.schedule.proofs.planner.skip.Given as goal

abbrev pub invariant-loop-i : goal.invariant-loop-i
invariant-loop-i g l = Marked (g.O.Order.at l.order) l.waiting l.low l.i
