-- `cover` is `cover_by` with ties by number.
use Rattle.etf.specs.Instance.{ordered}
use Rattle.etf.specs.OfJob.{instance}
use Rattle.priority.specs.Orders.{instance_by}
use Rattle.schedule.proofs.cover.Goals as goal

pub returns : goal.returns
unfolding instance_by ordered instance
returns c =
    c.cover_by.ensures
