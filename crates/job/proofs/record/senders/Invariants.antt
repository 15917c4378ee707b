-- `record::senders`: after k edges the flags are those of the tasks that one of the k comes from.
use mathlib.Core.Path.{◌≡◌}
use Rattle.base.specs.Lists.{values}
use Rattle.job.specs.Pass.{sends}
use Rattle.job.proofs.record.senders.Given as goal

abbrev pub invariant-loop-k : goal.invariant-loop-k
invariant-loop-k l = l.senders ≡ values (sends l.from l.k) 0 256
