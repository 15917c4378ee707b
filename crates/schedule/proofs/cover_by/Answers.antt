-- `cover_by` passes the reader's number on, refuses by 9 where `lay_out` finds a slice too short, and else measures what it laid out.
use Rattle.std.proofs.Common.{refl, ap}
use Rattle.job.specs.Job.{Job}
use Rattle.priority.specs.declared.Ties.{Ties}
use Rattle.priority.specs.Orders.{instance_by, tie_rule}
use Rattle.schedule.specs.Answers.Laid.{as_laid}
use Rattle.schedule.specs.Answers.Covered.{Covered, Cover, Refused}
use Rattle.schedule.specs.Call.{arrival_places, plan_by}
use Rattle.schedule.specs.Cover.{figures, cover_call_by}
use Rattle.schedule.specs.Handed.{plannable}
use Rattle.schedule.specs.Laws.Ties.{plannable_by, held_in}
use Rattle.schedule.specs.Laws.Reading.{read_as, plannable as may_plan, handed_by}
use Rattle.schedule.specs.Laws.Calls.{passes_on, call_short, call_end, laid_holds, measured_right}
use Rattle.schedule.proofs.cover_by.Goals as goal

-- the answer to an accepted job
abbrev answer : Ties → Job → Covered
answer ties j = Cover (figures (instance_by ties j))

pub returns-in_default : goal.returns-in_default
unfolding cover_call_by
returns-in_default c =
    let ties = c.args.ties in
    passes_on _ c.read_into-found.ensures c.in_default.is c.refusal.ensures
    arrival_places Refused (plan_by (instance_by ties) (answer ties)) _ _ _

pub instance_of-instance-requires : goal.instance_of-instance-requires
instance_of-instance-requires c = may_plan (read_as c.read_into-found.ensures c.in-Counts.is) refl c.fill_square.ensures

pub returns-in_default-lay_out : goal.returns-in_default-lay_out
unfolding cover_call_by
returns-in_default-lay_out c =
    let ties = c.args.ties in
    let read = read_as c.read_into-found.ensures c.in-Counts.is in
    let same = handed_by read c.instance_of-instance.result c.instance_of-instance.ensures c.fill_square.ensures ties in
    call_short read (tie_rule ties) same Refused (answer ties) _ _ _ (ap as_laid c.in_default-lay_out.is) c.lay_out.ensures

pub measure-requires : goal.measure-requires
measure-requires c =
    let F = plannable c.instance_of-instance.result in
    let ties = c.args.ties in
    (_, held_in F ties (laid_holds (plannable_by F ties) _ _ _ (ap as_laid c.in-Some.is) c.lay_out.ensures))

pub returns : goal.returns
unfolding cover_call_by
returns c =
    let ties = c.args.ties in
    let read = read_as c.read_into-found.ensures c.in-Counts.is in
    let H = c.instance_of-instance.result in
    let F = plannable H in
    let same = handed_by read H c.instance_of-instance.ensures c.fill_square.ensures ties in
    let laid = ap as_laid c.in-Some.is in
    let holds = held_in F ties (laid_holds (plannable_by F ties) _ _ _ laid c.lay_out.ensures) in
    call_end read (tie_rule ties) same Refused (answer ties) _ _ _ laid c.lay_out.ensures
    (λ e-is. measured_right same (c.measure.ensures _ holds))
