-- `planner::raise`: before processor p the row is raised for the processors below p, and nothing else is changed; each turn adds one place.
use mathlib.Core.Path.{◌≡◌}
use lib.ListN.{length}
use Rattle.schedule.specs.Pass.{Raised}
use Rattle.schedule.proofs.planner.raise.Given as goal

abbrev pub invariant-loop-p : goal.invariant-loop-p
invariant-loop-p l = (length l.arrivals ≡ length l.initial.arrivals) × Raised l.p l.task l.finish l.count l.row
    l.initial.arrivals l.arrivals
