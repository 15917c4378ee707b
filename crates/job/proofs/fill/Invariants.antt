-- `fill`: the loop over the links keeps `Going`, the answer to the file with the job that the arrays hold so far.
use Prim.Native.Nat.{◌-◌}
use lib.ListN.{length}
use Rattle.job.specs.Laws.Taking.{Going}
use Rattle.job.proofs.fill.Given as goal

abbrev pub invariant-loop-least : goal.invariant-loop-least
invariant-loop-least l = Going l.file l.platform l.tasks l.arrays l.edges l.at l.least

abbrev pub decreases-loop-least : goal.decreases-loop-least
decreases-loop-least l = length l.file - l.at
