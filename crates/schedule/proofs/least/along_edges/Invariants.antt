-- `least::along_edges`: after k turns the sums are the least over the first k edges.
-- A turn lowers the sum of the task that the edge goes to, where its source's is lower (Laws/Walk/LeastByEdge).
use Rattle.schedule.specs.CoverPass.{LeastBy}
use Rattle.schedule.proofs.least.along_edges.Given as goal

abbrev pub invariant-loop-k : goal.invariant-loop-k
invariant-loop-k l = LeastBy l.table l.ticks l.k l.sums
