-- `planner::choose`: the loop keeps that the search over the tasks that are left, from the best so far, gives the answer.
-- Nothing that is left beats a pair that starts at the clock.
use mathlib.Core.Path.{◌≡◌}
use mathlib.Core.List.{List}
use Prim.Native.Nat.{ℕ, ◌-◌, ◌<◌}
use lib.ListN.{length}
use Rattle.schedule.specs.declared.planner.Pair.{Pair}
use Rattle.schedule.specs.Pass.{no_pair, row_by, searched}
use Rattle.schedule.specs.Laws.Planner.SearchSteps.{search_from}
use Rattle.schedule.proofs.planner.choose.Given as goal

abbrev pub invariant-loop-i : goal.invariant-loop-i
invariant-loop-i g l =
    let order = g.O.Order.at l.order in
    let row : ℕ → List Pair = λ T. row_by l.progress.clock (g.A.Arrivals.arrival l.arrivals T) l.free (length l.free) T in
    (l.progress.clock < l.best.start)
    × (search_from l.progress.clock l.progress.waiting l.latest order row l.tasks l.i l.best
    ≡ searched l.progress.clock l.progress.waiting l.latest order row l.progress.low (l.tasks - l.progress.low) no_pair)
