-- `judge_into` hands on what was read; the checker's answer is that of `check`.
use Rattle.std.proofs.Common.{refl}
use Rattle.schedule.specs.Laws.Reading.{read_as, plannable, handed_held, handed_tasks}
use Rattle.schedule.specs.Laws.Calls.{check_passes_on, check_said, judged_as}
use Rattle.schedule.proofs.judge_into.Goals as goal

pub returns-in_default : goal.returns-in_default
returns-in_default c =
    let e = c.read_into-found.ensures in judged_as _ _ _ e (check_passes_on _ e c.in_default.is c.refusal.ensures _ _)

pub instance_of-instance-requires : goal.instance_of-instance-requires
instance_of-instance-requires c = plannable (read_as c.read_into-found.ensures c.in-Counts.is) refl c.fill_square.ensures

pub returns : goal.returns
returns c =
    let e = c.read_into-found.ensures in
    let read = read_as e c.in-Counts.is in
    let H = c.instance_of-instance.result in
    let is = c.instance_of-instance.ensures in
    judged_as _ _ _ e
    (check_said read (handed_held read H is c.fill_square.ensures) (handed_tasks read H is c.fill_square.ensures) _ _
    c.say-checked.ensures)
