-- The planners over arrays of zeros: what they answer and leave, in bytes, is the planner's call from C, and has few tasks.
use Rattle.std.specs.Prelude.{true, false, ◌≡◌, List, [], ℕ, ◌≤◌, length, replicate}
use Rattle.std.proofs.Common.{ap, sym, ◌∙◌, arith}
use Rattle.std.proofs.lemmas.List.{length-replicate}
use Rattle.base.specs.Laws.Tests.{impossible}
use Rattle.job.specs.Limits.{most_tasks}
use Rattle.job.specs.Job.{Job}
use Rattle.job.specs.Accepted.{accepted_job}
use Rattle.etf.specs.Instance.{Instance}
use Rattle.etf.specs.OfJob.{instance, TieRule}
use Rattle.etf.proofs.Jobs.{by_number}
use Rattle.etf.proofs.Laws.OfJob.{few}
use Rattle.schedule.specs.declared.Outcome.{Outcome}
use Rattle.schedule.specs.Answers.Planned.{Planned, Plan, Refused}
use Rattle.schedule.specs.Call.{Call, called, arrival_places}
use Rattle.schedule.specs.Answered.{accepted_as}
use Rattle.schedule.specs.Plan.{outcome_by, plan_call_by, plan_call}
use Rattle.schedule.specs.Small.{small_places, small_call}
use Rattle.schedule.specs.SmallPlan.{SameAs, same_plan}
use Rattle.kelvrist.specs.PlanBytes.{plan_bytes_call_by, plan_bytes_call}
use Rattle.kelvrist.specs.Numbers.{in_bytes, plan_in_bytes}

-- no job that is planned has more tasks than a job may have
few_planned : (by : Job → Instance) (file starts processors scratch : List ℕ) (o : Outcome)
    → (plan_call_by by file starts processors scratch).answer ≡ Plan o → o.tasks ≤ most_tasks
unfolding plan_call_by outcome_by
few_planned by file starts processors scratch o h =
    let answer : Job → Planned = λ j. Plan (outcome_by by j) in
    let P = accepted_as file starts processors scratch by Refused answer (Plan o) (λ k d. let z : false ≡ true = cc in impossible z) h in
    let same : o ≡ outcome_by by P.job = let d = P.answer_is in cc in
    omega (arith, ap (λ (x : Outcome). x.tasks) same, few P.job (accepted_job file P.job P.says))

-- ---- the planners over arrays of zeros, the larger by any tie rule: the answer r, and what they hold afterwards

abbrev zeros : ℕ → List ℕ
zeros n = replicate n 0

module _ (file : List ℕ) where
  larger_bytes : {by : Job → Instance} → TieRule by → (plan : List ℕ)
      → in_bytes (plan_call_by by file (zeros most_tasks) (zeros most_tasks) (zeros arrival_places)) plan ≡ plan_bytes_call_by by file plan
  larger_bytes rule plan =
      let room : most_tasks ≤ length (zeros most_tasks) = omega (arith, length-replicate {A = ℕ} most_tasks 0) in
      sym (plan_in_bytes rule file plan (zeros most_tasks) (zeros most_tasks) (zeros arrival_places) room room
      (omega (arith, length-replicate {A = ℕ} arrival_places 0)))

  -- the smaller one tells what the larger one would
  same : SameAs (small_call file (zeros most_tasks) (zeros most_tasks) (zeros small_places))
      (plan_call file (zeros most_tasks) (zeros most_tasks) (zeros arrival_places))
  same =
      same_plan file (zeros most_tasks) (zeros most_tasks) (zeros small_places) (zeros arrival_places)
      (omega (arith, length-replicate {A = ℕ} small_places 0)) (omega (arith, length-replicate {A = ℕ} arrival_places 0))

module _ (file : List ℕ) {r : Planned} {s p t : List ℕ} where
  module _ {by : Job → Instance} (rule : TieRule by) where
    pub larger_few : {o : Outcome} → called r s p t ≡ plan_call_by by file (zeros most_tasks) (zeros most_tasks) (zeros arrival_places)
        → r ≡ Plan o → o.tasks ≤ most_tasks
    larger_few {o} e h = few_planned by file _ _ _ o (ap (λ (c : Call Planned). c.answer) (sym e) ∙ h)

    pub larger_in_bytes : (plan : List ℕ)
        → called r s p t ≡ plan_call_by by file (zeros most_tasks) (zeros most_tasks) (zeros arrival_places)
        → in_bytes (called r s p []) plan ≡ plan_bytes_call_by by file plan
    larger_in_bytes plan e = ap (λ (x : Call Planned). in_bytes x plan) e ∙ larger_bytes file rule plan

  module _ (e : called r s p t ≡ small_call file (zeros most_tasks) (zeros most_tasks) (zeros small_places)) where
    pub small_few : {o : Outcome} → r ≡ Plan o → o.tasks ≤ most_tasks
    small_few {o} h = few_planned instance file _ _ _ o (sym (ap (λ (c : Call Planned). c.answer) e ∙ (same file).answers) ∙ h)

    pub small_in_bytes : (plan : List ℕ) → in_bytes (called r s p []) plan ≡ plan_bytes_call file plan
    small_in_bytes plan =
        ap (λ (x : Call Planned). in_bytes x plan) e
        ∙ rw ((same file).answers, (same file).starts_are, (same file).processors_are) (larger_bytes file by_number plan)
