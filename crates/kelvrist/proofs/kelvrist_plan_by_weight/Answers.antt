-- `kelvrist_plan_by_weight` is `plan_by` with ties by weight.
use Rattle.etf.specs.Instance.{ordered}
use Rattle.etf.specs.OfJob.{instance_by_weight}
use Rattle.priority.specs.Orders.{instance_by}
use Rattle.kelvrist.proofs.kelvrist_plan_by_weight.Goals as goal

pub returns : goal.returns
unfolding instance_by ordered instance_by_weight
returns c =
    c.plan_by.ensures
