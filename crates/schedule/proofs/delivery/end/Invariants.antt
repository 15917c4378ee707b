-- `delivery::end`: the loop keeps the greatest of the last finish and of the arrivals looked at. A turn adds one; where a task has no
-- result, what would be added is its finish, which is no later than the last.
use Rattle.std.proofs.Common.{◌≡◌, max}
use Rattle.base.specs.Rows.{most}
use Rattle.schedule.specs.Pass.{delivered_at}
use Rattle.schedule.proofs.delivery.end.Given as goal

abbrev pub invariant-loop-t : goal.invariant-loop-t
invariant-loop-t l = l.end ≡ max l.last (most l.t (delivered_at l.instance.durations.now l.results l.instance.costs.now
    l.plan.starts.now l.plan.processors.now))
