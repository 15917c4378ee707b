-- `kelvrist_plan_small` puts into bytes what `plan_small` answers and leaves in arrays of zeros.
use mathlib.Core.Path.{ap, ◌∙◌}
use native.Mathlib.Omega.{arith}
use Rattle.schedule.specs.Answers.Planned.{as_planned}
use Rattle.kelvrist.specs.Laws.InBytes.{small_few, small_in_bytes}
use Rattle.kelvrist.proofs.kelvrist_plan_small.Goals as goal

pub put_plan-requires : goal.put_plan-requires
put_plan-requires c =
    λ o h.
    let few = small_few _ c.plan_small-planned.ensures (ap as_planned h) in
    (few, omega (arith, few, c.plan_small-planned.auto.starts), omega (arith, few, c.plan_small-planned.auto.processors))

pub returns : goal.returns
returns c =
    rw c.answer_number.ensures c.put_plan.ensures ∙ small_in_bytes _ c.plan_small-planned.ensures _
