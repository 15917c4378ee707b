-- `lay_out` refuses where a slice is too short, and else leaves what `planner::run` leaves over a cleared scratch, by the order of the
-- rule.
use mathlib.Core.Path.{◌≡◌}
use native.Mathlib.Omega.{arith}
use lib.ListN.{get_or}
use Rattle.base.specs.Lists.{values}
use Rattle.base.specs.Laws.Filled.{filled_within}
use Rattle.priority.specs.Orders.{order_by}
use Rattle.schedule.specs.InArrays.{InArrays, instance_in, Plannable}
use Rattle.schedule.specs.Handed.{in_arrays, plannable}
use Rattle.schedule.specs.Laws.Held.{held_tasks}
use Rattle.schedule.specs.Laws.Ties.{tasks_in, ordering_in, plannable_by, same_in}
use Rattle.schedule.specs.Laws.Calls.{long_enough, cleared_room, laid_short, laid_end}
use Rattle.schedule.proofs.lay_out.Goals as goal
use Rattle.schedule.proofs.lay_out.Goals.{After-order-order}

-- the array has the tasks by the rule
module _ (o : After-order-order) where
  abbrev A : InArrays
  A = in_arrays o.args.instance.now

  F : Plannable A
  F = plannable o.args.instance.now

  by_place : values (λ i. get_or o.order-order.result i 0) 0 A.tasks ≡ order_by o.args.ties (instance_in A)
  by_place = o.order-order.ensures.tasks_value _ (tasks_in F) (held_tasks F)

pub returns-then-too_short : goal.returns-then-too_short
returns-then-too_short c =
    laid_short (plannable_by (plannable c.args.instance.now) c.args.ties) _ _ _ c.too_short.ensures c.if-too_short.true

pub run-requires : goal.run-requires
run-requires c =
    let F = plannable c.args.instance.now in
    let fits = long_enough c.too_short.ensures c.if-too_short.false in
    let scratch = c.args.scratch.now in
    record {
      ordered = ordering_in F c.args.ties _ (by_place (goal.at.run-requires c).After-order-order);
      tasks_in_bounds = (
        omega (arith, c.order-order.ensures.result_len, F.few_tasks),
        cleared_room scratch fits (filled_within (λ x. 0) 4096 scratch fits.2 c.clear.ensures),
      );
    }

pub returns : goal.returns
returns c =
    let F = plannable c.args.instance.now in
    let fits = long_enough c.too_short.ensures c.if-too_short.false in
    laid_end (plannable_by F c.args.ties) _ _ _
    (same_in F c.args.ties _ (by_place (goal.at.returns c).After-order-order)) c.too_short.ensures c.if-too_short.false
    (filled_within (λ x. 0) 4096 c.args.scratch.now fits.2 c.clear.ensures)
    c.run.ensures
