-- `cover_by_weight` is `cover_by` with ties by weight.
use Rattle.etf.specs.Instance.{ordered}
use Rattle.etf.specs.OfJob.{instance_by_weight}
use Rattle.priority.specs.Orders.{instance_by}
use Rattle.schedule.proofs.cover_by_weight.Goals as goal

pub returns : goal.returns
unfolding instance_by ordered instance_by_weight
returns c =
    c.cover_by.ensures
