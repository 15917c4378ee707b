-- `instance_of`: the arrays of the reading.
use Rattle.schedule.specs.Handed.{may_be_handed}
use Rattle.schedule.proofs.instance_of.Goals as goal

pub invariant_of-result : goal.invariant_of-result
invariant_of-result c = record { ready = rw c.from.ensures (may_be_handed c.requires) }

pub returns : goal.returns
returns c = rw c.from.ensures
