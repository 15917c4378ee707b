-- `Senders::is_beaten`: the loop goes through the edges into the task; where the messages of one are at no free processor before `start`,
-- the arrivals are not either.
use Prim.Native.Nat.{◌-◌}
use Rattle.schedule.specs.SmallPass.{sources_of}
use Rattle.schedule.specs.Laws.Planner.WorkedOut.{Into}
use Rattle.schedule.proofs.small.Senders.is_beaten.Given as goal

abbrev pub invariant-loop-k : goal.invariant-loop-k
invariant-loop-k l = Into (sources_of l.self) l.task l.k

abbrev pub decreases-loop-k : goal.decreases-loop-k
decreases-loop-k l = l.self.instance.now.edges - l.k
