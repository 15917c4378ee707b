-- `plan_by` puts into bytes what `schedule::plan_by` answers and leaves in arrays of zeros.
use mathlib.Core.Path.{ap, ◌∙◌}
use native.Mathlib.Omega.{arith}
use Rattle.priority.specs.Orders.{tie_rule}
use Rattle.schedule.specs.Answers.Planned.{as_planned}
use Rattle.kelvrist.specs.Laws.InBytes.{larger_few, larger_in_bytes}
use Rattle.kelvrist.proofs.plan_by.Goals as goal

pub put_plan-requires : goal.put_plan-requires
put_plan-requires c =
    λ o h.
    let few = larger_few _ (tie_rule _) c.plan_by-planned.ensures (ap as_planned h) in
    (few, omega (arith, few, c.plan_by-planned.auto.starts), omega (arith, few, c.plan_by-planned.auto.processors))

pub returns : goal.returns
returns c =
    rw c.answer_number.ensures c.put_plan.ensures ∙ larger_in_bytes _ (tie_rule _) _ c.plan_by-planned.ensures
