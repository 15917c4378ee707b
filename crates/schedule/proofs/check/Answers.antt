-- `check` passes the reader's number on, and else answers what `say` says of the plan for the job's instance.
use Rattle.std.proofs.Common.{refl}
use Rattle.schedule.specs.Laws.Reading.{read_as, plannable, handed_held, handed_tasks}
use Rattle.schedule.specs.Laws.Calls.{check_passes_on, check_said}
use Rattle.schedule.proofs.check.Goals as goal

pub returns-in_default : goal.returns-in_default
returns-in_default c = check_passes_on _ c.read_into-found.ensures c.in_default.is c.refusal.ensures _ _

pub instance_of-instance-requires : goal.instance_of-instance-requires
instance_of-instance-requires c = plannable (read_as c.read_into-found.ensures c.in-Counts.is) refl c.fill_square.ensures

pub returns : goal.returns
returns c =
    let read = read_as c.read_into-found.ensures c.in-Counts.is in
    let H = c.instance_of-instance.result in
    let is = c.instance_of-instance.ensures in
    check_said read (handed_held read H is c.fill_square.ensures) (handed_tasks read H is c.fill_square.ensures) _ _ c.say.ensures
