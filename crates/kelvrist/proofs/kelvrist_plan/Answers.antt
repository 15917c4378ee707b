-- `kelvrist_plan` is `plan_by` with ties by number.
use Rattle.etf.specs.Instance.{ordered}
use Rattle.etf.specs.OfJob.{instance}
use Rattle.priority.specs.Orders.{instance_by}
use Rattle.kelvrist.proofs.kelvrist_plan.Goals as goal

pub returns : goal.returns
unfolding instance_by ordered instance
returns c =
    c.plan_by.ensures
