-- The checker accepts what the planner leaves in the slices, for every file and whatever they held before.
use Rattle.std.specs.Prelude.{true, false, ◌≡◌, List, ℕ}
use Rattle.base.specs.Laws.Tests.{impossible}
use Rattle.job.specs.Job.{Job}
use Rattle.job.specs.Accepted.{accepted_job}
use Rattle.etf.specs.Instance.{Instance}
use Rattle.etf.specs.OfJob.{TieRule}
use Rattle.schedule.specs.declared.Outcome.{Outcome}
use Rattle.schedule.specs.Answers.Planned.{Planned, Plan, Refused}
use Rattle.schedule.specs.Answers.Checked.{Yes}
use Rattle.schedule.specs.Call.{laid_out_call}
use Rattle.schedule.specs.Plan.{outcome_by, plan_call_by}
use Rattle.schedule.specs.Check.{check_call}
use Rattle.schedule.specs.Answered.{accepted_as}
use Rattle.schedule.specs.Laws.Checker.OwnPlan.{filled_yes}

-- where a planner plans, by any tie rule, the checker says yes to its starts and processors
pub slices_accepted : {by : Job → Instance} → TieRule by → (file starts processors scratch : List ℕ) (o : Outcome)
    → (plan_call_by by file starts processors scratch).answer ≡ Plan o
    → check_call file (plan_call_by by file starts processors scratch).starts
    (plan_call_by by file starts processors scratch).processors ≡ Yes
unfolding plan_call_by check_call laid_out_call
slices_accepted {by} rule file starts processors scratch o h =
    let answer : Job → Planned = λ j. Plan (outcome_by by j) in
    let P = accepted_as file starts processors scratch by Refused answer (Plan o) (λ k e. let z : false ≡ true = cc in impossible z) h in
    rw (P.call_is, P.says)
    (filled_yes rule P.job (accepted_job file P.job P.says) starts processors
    P.has_room.for_starts P.has_room.for_processors)
