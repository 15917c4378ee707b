-- `planner::skip`: the task of every place passed so far is marked as placed.
use borrow.Author.Rules.{rules}
use Rattle.schedule.specs.Laws.Planner.Skipping.{pass, stop, none, unpassed}
use Rattle.schedule.proofs.planner.skip.Goals as goal

pub loop-i-init : goal.loop-i-init
loop-i-init g c =
    unpassed _ _ _

pub returns-then-waiting-t : goal.returns-then-waiting-t
returns-then-waiting-t g c =
    stop (g.O.Order.at c.args.order.now) _ _ _ c.loop-i.invariant _ (search rules) (search rules)
    (rw c.task_at-t.ensures.value at c.if-waiting-t.true)

pub loop-i-preserved : goal.loop-i-preserved
loop-i-preserved g c =
    pass (g.O.Order.at c.args.order.now) _ _ _ c.loop-i.invariant
    (rw c.task_at-t.ensures.value at c.if-waiting-t.false)

pub returns : goal.returns
returns g c =
    none (g.O.Order.at c.args.order.now) _ _ _ c.loop-i.invariant _ (search rules) (search rules) (search rules)
