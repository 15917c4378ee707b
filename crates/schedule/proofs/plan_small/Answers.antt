-- `plan_small` passes the reader's number on, refuses by 9 where `lay_small` finds a slice too short, and else answers with the end of what
-- it laid out.
use Rattle.std.proofs.Common.{refl, ap}
use Rattle.etf.proofs.Jobs.{by_number}
use Rattle.etf.specs.OfJob.{instance, result_of}
use Rattle.schedule.specs.Answers.Laid.{as_laid}
use Rattle.schedule.specs.Answers.Planned.{Plan, Refused}
use Rattle.schedule.specs.Plan.{outcome}
use Rattle.schedule.specs.Small.{small_places, laid_small, small_call}
use Rattle.schedule.specs.Handed.{plannable}
use Rattle.schedule.specs.Laws.Reading.{read_as, plannable as may_plan, handed_held, handed_near}
use Rattle.schedule.specs.Laws.Calls.{passes_on, planned_right}
use Rattle.schedule.specs.Laws.SmallCalls.{small_holds, call_small_short, call_small_end}
use Rattle.schedule.specs.Laws.Delivery.{deliverable, end_found}
use Rattle.schedule.proofs.plan_small.Goals as goal

pub returns-in_default : goal.returns-in_default
unfolding small_call
returns-in_default c =
    passes_on _ c.read_into-found.ensures c.in_default.is c.refusal.ensures
    small_places Refused (λ j. laid_small (Plan (outcome j)) (instance j)) _ _ _

pub instance_of-instance-requires : goal.instance_of-instance-requires
instance_of-instance-requires c = may_plan (read_as c.read_into-found.ensures c.in-Counts.is) refl c.fill_square.ensures

pub returns-in_default-lay_small : goal.returns-in_default-lay_small
returns-in_default-lay_small c =
    let read = read_as c.read_into-found.ensures c.in-Counts.is in
    let same = handed_held read c.instance_of-instance.result c.instance_of-instance.ensures c.fill_square.ensures in
    call_small_short read same _ _ _ (ap as_laid c.in_default-lay_small.is) c.lay_small.ensures

pub end-reported-requires : goal.end-reported-requires
end-reported-requires c =
    let read = read_as c.read_into-found.ensures c.in-Counts.is in
    let given = plannable c.instance_of-instance.result in
    let held = small_holds given _ _ _ (ap as_laid c.in-Some.is) c.lay_small.ensures in
    deliverable given held.0 held.1 _ (handed_near read c.instance_of-instance.result c.instance_of-instance.ensures c.fill_square.ensures)

pub returns : goal.returns
returns c =
    let read = read_as c.read_into-found.ensures c.in-Counts.is in
    let same = handed_held read c.instance_of-instance.result c.instance_of-instance.ensures c.fill_square.ensures in
    let given = plannable c.instance_of-instance.result in
    let laid = ap as_laid c.in-Some.is in
    let held = small_holds given _ _ _ laid c.lay_small.ensures in
    call_small_end read same _ _ _ laid c.lay_small.ensures
    (planned_right read by_number same (end_found given held.0 held.1 _ (result_of read.job) read.results_are c.end-reported.ensures))
