-- `plan_by` passes the reader's number on, refuses by 9 where `lay_out` finds a slice too short, and else answers with the end of what it
-- laid out.
use Rattle.std.proofs.Common.{refl, ap}
use Rattle.job.specs.Job.{Job}
use Rattle.etf.specs.OfJob.{result_of}
use Rattle.priority.specs.declared.Ties.{Ties}
use Rattle.priority.specs.Orders.{instance_by, tie_rule}
use Rattle.schedule.specs.Answers.Laid.{as_laid}
use Rattle.schedule.specs.Answers.Planned.{Planned, Plan, Refused}
use Rattle.schedule.specs.Call.{arrival_places, plan_by}
use Rattle.schedule.specs.Plan.{outcome_by, plan_call_by}
use Rattle.schedule.specs.Handed.{plannable}
use Rattle.schedule.specs.Laws.Ties.{plannable_by}
use Rattle.schedule.specs.Laws.Reading.{read_as, plannable as may_plan, handed_by, handed_near}
use Rattle.schedule.specs.Laws.Calls.{passes_on, call_short, call_end, laid_holds, laid_last, planned_right}
use Rattle.schedule.specs.Laws.Delivery.{deliverable, end_found}
use Rattle.schedule.proofs.plan_by.Goals as goal

-- the answer to an accepted job
abbrev answer : Ties → Job → Planned
answer ties j = Plan (outcome_by (instance_by ties) j)

pub returns-in_default : goal.returns-in_default
unfolding plan_call_by
returns-in_default c =
    let ties = c.args.ties in
    passes_on _ c.read_into-found.ensures c.in_default.is c.refusal.ensures
    arrival_places Refused (plan_by (instance_by ties) (answer ties)) _ _ _

pub instance_of-instance-requires : goal.instance_of-instance-requires
instance_of-instance-requires c = may_plan (read_as c.read_into-found.ensures c.in-Counts.is) refl c.fill_square.ensures

pub returns-in_default-lay_out : goal.returns-in_default-lay_out
unfolding plan_call_by
returns-in_default-lay_out c =
    let ties = c.args.ties in
    let read = read_as c.read_into-found.ensures c.in-Counts.is in
    let same = handed_by read c.instance_of-instance.result c.instance_of-instance.ensures c.fill_square.ensures ties in
    call_short read (tie_rule ties) same Refused (answer ties) _ _ _ (ap as_laid c.in_default-lay_out.is) c.lay_out.ensures

pub end-end-requires : goal.end-end-requires
end-end-requires c =
    let read = read_as c.read_into-found.ensures c.in-Counts.is in
    let H = c.instance_of-instance.result in
    let given = plannable_by (plannable H) c.args.ties in
    let laid = ap as_laid c.in-Some.is in
    deliverable given (laid_holds given _ _ _ laid c.lay_out.ensures) (laid_last given _ _ _ laid c.lay_out.ensures) _
    (handed_near read H c.instance_of-instance.ensures c.fill_square.ensures)

pub returns : goal.returns
unfolding plan_call_by
returns c =
    let ties = c.args.ties in
    let read = read_as c.read_into-found.ensures c.in-Counts.is in
    let H = c.instance_of-instance.result in
    let given = plannable_by (plannable H) ties in
    let same = handed_by read H c.instance_of-instance.ensures c.fill_square.ensures ties in
    let laid = ap as_laid c.in-Some.is in
    let holds = laid_holds given _ _ _ laid c.lay_out.ensures in
    let last_is = laid_last given _ _ _ laid c.lay_out.ensures in
    call_end read (tie_rule ties) same Refused (answer ties) _ _ _ laid c.lay_out.ensures
    (λ e. planned_right read (tie_rule ties) same
    (end_found given holds last_is _ (result_of read.job) read.results_are c.end-end.ensures))
