-- A call of the planner: its answer, and what the borrowed slices hold afterwards.
use Rattle.std.specs.Prelude.{List, ℕ}
use Rattle.job.specs.Job.{Job}
use Rattle.job.specs.Read.{read_job}
use Rattle.etf.specs.Instance.{Instance, tasks}
use Rattle.etf.specs.Schedule.{last_finish, end}
use Rattle.etf.specs.Rule.{planned}
use Rattle.etf.specs.OfJob.{instance, instance_by_weight, result_of}
use Rattle.schedule.specs.declared.Outcome.{Outcome}
use Rattle.schedule.specs.Answers.Planned.{Planned, Plan, Refused}
use Rattle.schedule.specs.Call.{Call, arrival_places, plan_by, call_for}

-- the last finish of the planner's schedule
unfoldable pub last_of : Instance → ℕ
last_of I = last_finish I (planned I)

-- the end of the planner's schedule for a job; `by` is the job's instance, with its tie rule
unfoldable pub end_by : (Job → Instance) → Job → ℕ
end_by by j = end (by j) (result_of j) (planned (by j))

-- 01: "the planner m and the end"
unfoldable pub outcome_by : (Job → Instance) → Job → Outcome
outcome_by by j = record { tasks = tasks (instance j); end = end_by by j }

-- a planner's call for a file and the borrowed slices
unfoldable pub plan_call_by : (Job → Instance) → List ℕ → List ℕ → List ℕ → List ℕ → Call Planned
plan_call_by by file starts processors scratch =
    call_for arrival_places Refused (plan_by by (λ j. Plan (outcome_by by j))) (read_job file) starts processors scratch

-- ---- document 01's planner: ties in start go to the lowest task

abbrev pub end_of : Job → ℕ
end_of = end_by instance

abbrev pub outcome : Job → Outcome
outcome = outcome_by instance

abbrev pub plan_call : List ℕ → List ℕ → List ℕ → List ℕ → Call Planned
plan_call = plan_call_by instance

-- ---- 02 §6: "A new entry, with the larger entry's slices and refusals .. breaks ties in start by greater weight, then lower step number,
-- then lower board"

abbrev pub weight_call : List ℕ → List ℕ → List ℕ → List ℕ → Call Planned
weight_call = plan_call_by instance_by_weight
