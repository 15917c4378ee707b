-- `small::run` plans: after each round the slices and a table of arrivals, which no array holds, are in step with the rule (`Following`).
use Prim.Native.Nat.{ℕ}
use Rattle.schedule.specs.Handed.{in_arrays}
use Rattle.schedule.specs.SmallPass.{sheet}
use Rattle.schedule.specs.Laws.Planner.Ends.{to_go}
use Rattle.schedule.specs.Laws.Planner.WithoutTable.{Following}
use Rattle.schedule.proofs.small.run.Given as goal

-- ---- the invariant
abbrev pub invariant-loop-progress : goal.invariant-loop-progress
invariant-loop-progress l = (rounds : ℕ) × Following (in_arrays l.instance) l.initial.starts l.initial.processors l.initial.scratch
    (sheet l.starts l.processors l.progress.busy l.progress.waiting l.scratch) l.progress.clock l.end l.progress.low rounds

-- what is left to do
abbrev pub decreases-loop-progress : goal.decreases-loop-progress
decreases-loop-progress l = to_go l.instance.tasks l.progress.waiting l.progress.clock
