-- `planner::run` plans: after each round the arrays are in step with the rule (`Invariant`).
use Prim.Native.Nat.{ℕ}
use lib.ListN.{get_or}
use Rattle.schedule.specs.InArrays.{reordered}
use Rattle.schedule.specs.Handed.{in_arrays}
use Rattle.schedule.specs.Pass.{tables, inbox}
use Rattle.schedule.specs.Laws.Planner.Invariant.{Invariant}
use Rattle.schedule.specs.Laws.Planner.Ends.{to_go}
use Rattle.schedule.proofs.planner.run.Given as goal

-- ---- the invariant
abbrev pub invariant-loop-progress : goal.invariant-loop-progress
invariant-loop-progress l = (rounds : ℕ) × Invariant (reordered (λ i. get_or l.order i 0) (in_arrays l.instance)) l.initial.starts
    l.initial.processors l.initial.arrivals
    (tables l.starts l.processors l.progress.busy (inbox l.arrivals l.progress.waiting l.latest))
    l.progress.clock l.end l.progress.low rounds

-- what is left to do
abbrev pub decreases-loop-progress : goal.decreases-loop-progress
decreases-loop-progress l = to_go l.instance.tasks l.progress.waiting l.progress.clock
