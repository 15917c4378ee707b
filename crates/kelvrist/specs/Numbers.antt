-- The calls from C over the calls on slices: the numbers that the answers stand for, and the plan as bytes.
use Rattle.std.proofs.Math.Option.{Option, none, some}
use Rattle.std.specs.Prelude.{◌≡◌, Result, Ok, Err, refl, List, ◌++◌, ℕ, ◌*◌, ◌≤◌, ◌<◌, ltb, length, drop}
use Rattle.std.proofs.Common.{ap, sym, ◌∙◌, arith}
use borrow.Author.Tests.{lt-ltb, le-ltb}
use Rattle.std.proofs.Math.ListN.{get_or}
use Rattle.base.specs.Choice.{pick}
use Rattle.base.specs.Slices.{filled}
use Rattle.base.specs.Laws.Filled.{filled_at}
use Rattle.job.specs.declared.table.Refusal.{Refusal}
use Rattle.job.specs.Limits.{most_tasks}
use Rattle.job.specs.Job.{Job}
use Rattle.job.specs.Read.{Answer, accepted, refused, read_job}
use Rattle.job.specs.Accepted.{Accepted, accepted_job}
use Rattle.etf.specs.Instance.{Instance, tasks}
use Rattle.etf.specs.OfJob.{instance, TieRule}
use Rattle.etf.proofs.Jobs.{same_tasks}
use Rattle.etf.proofs.Laws.OfJob.{few}
use Rattle.schedule.specs.Answers.Planned.{Planned, Plan, Refused, as_planned}
use Rattle.schedule.specs.Answers.Number.{answer_number}
use Rattle.schedule.specs.Answers.Checked.{Checked, Yes, Refused as NotChecked, as_checked}
use Rattle.schedule.specs.declared.Outcome.{Outcome}
use Rattle.schedule.specs.Call.{Call, start_of, processor_of, arrival_places, laid_out_call, plan_by, is_too_short, call_for}
use Rattle.schedule.specs.Plan.{outcome_by, plan_call_by}
use Rattle.schedule.specs.Check.{check_of, checked_as, number_of, check_for, check_call}
use Rattle.schedule.specs.Laws.Checker.Answer.{check_of_same}
use Rattle.kelvrist.specs.PlanBytes.{BytesCall, returned, plan_bytes, processor_in, start_in}
use Rattle.kelvrist.specs.PlanBytes.{plan_bytes_for, plan_bytes_call_by, check_bytes_for, check_bytes_call}
use Rattle.kelvrist.specs.Laws.Encoded.{plan_bytes_same}

-- 01: "Each returns 0 or the refusal's number": of the planner's answer, an outcome or a refusal, ..
abbrev pub plan_number : Planned → ℕ
plan_number (Plan o) = 0
plan_number (Refused k) = k

-- .. and of the checker's, a yes or a refusal
abbrev pub check_number : Checked → ℕ
check_number Yes = 0
check_number (NotChecked k) = k

-- a result has the number of the answer that it is read as
pub planned_number : (r : Result Outcome Refusal) → answer_number r ≡ plan_number (as_planned r)
planned_number (Ok o) = refl
planned_number (Err e) = refl

pub checked_number : (r : Result Unit Refusal) → answer_number r ≡ check_number (as_checked r)
checked_number (Ok x) = refl
checked_number (Err e) = refl

-- the planner's answer with its starts and processors, as a call from C that is lent these bytes for the plan
abbrev answer_in_bytes : Planned → List ℕ → List ℕ → List ℕ → BytesCall
answer_in_bytes (Plan o) starts processors plan =
    pick (ltb (length plan) (5 * o.tasks)) (returned 9 plan)
    (returned 0 (plan_bytes o.tasks (λ T. get_or processors T 0) (λ T. get_or starts T 0) ++ drop (5 * o.tasks) plan))
answer_in_bytes (Refused k) starts processors plan = returned k plan

abbrev pub in_bytes : Call Planned → List ℕ → BytesCall
in_bytes c plan = answer_in_bytes c.answer c.starts c.processors plan

-- what the checker says has one number
same_number : (o : Option ℕ) → number_of o ≡ check_number (checked_as o)
unfolding number_of checked_as
same_number none = refl
same_number (some k) = refl

-- whatever the order, there are as many tasks as the job has
pub as_many : {by : Job → Instance} → TieRule by → (j : Job) → Accepted j → tasks (by j) ≡ tasks (instance j)
unfolding instance
as_many rule j a = same_tasks rule j a

-- over slices with places for every job's tasks a planner from C, by any tie rule, is the planner
pub plan_in_bytes : {by : Job → Instance} → TieRule by → (file plan starts processors scratch : List ℕ)
    → most_tasks ≤ length starts → most_tasks ≤ length processors → arrival_places ≤ length scratch
    → plan_bytes_call_by by file plan ≡ in_bytes (plan_call_by by file starts processors scratch) plan
unfolding plan_bytes_call_by plan_call_by plan_bytes_for call_for laid_out_call is_too_short outcome_by
plan_in_bytes {by} rule file plan starts processors scratch a b c = go (read_job file) refl
  where
    call : Answer → Call Planned
    call x = call_for arrival_places Refused (plan_by by (λ j. Plan (outcome_by by j))) x starts processors scratch

    held : (j : Job) → tasks (instance j) ≤ most_tasks → tasks (by j) ≡ tasks (instance j)
        → plan_bytes_for by (accepted j) plan ≡ in_bytes (call (accepted j)) plan
    held j small many =
        let I = by j in
        let m = tasks (instance j) in
        let same = plan_bytes_same m (λ T. get_or (filled (processor_of I) (tasks I) processors) T 0) (processor_of I)
        (λ T. get_or (filled (start_of I) (tasks I) starts) T 0) (start_of I)
        (λ T h. filled_at (processor_of I) (tasks I) processors T (omega (arith, many)))
        (λ T h. filled_at (start_of I) (tasks I) starts T (omega (arith, many))) in
        simp (
          le-ltb (length starts) m (omega arith),
          le-ltb (length processors) m (omega arith),
          le-ltb (length scratch) arrival_places c,
        )
        (ap (λ (l : List ℕ). pick (ltb (length plan) (5 * m)) (returned 9 plan) (returned 0 (l ++ drop (5 * m) plan))) (sym same))

    go : (x : Answer) → read_job file ≡ x → plan_bytes_for by x plan ≡ in_bytes (call x) plan
    go (accepted j) e = held j (few j (accepted_job file j e)) (as_many rule j (accepted_job file j e))
    go (refused k) e = refl

-- the checker from C: a refused file's own number, ..
pub check_passes_on : (file plan : List ℕ) (k : ℕ) → read_job file ≡ refused k → check_bytes_call file plan ≡ k
unfolding check_bytes_call check_bytes_for
check_passes_on file plan k e = rw e

module _ (file plan : List ℕ) (j : Job) (e : read_job file ≡ accepted j) where
  -- .. 9 for a plan too short for the job, ..
  pub check_short : length plan < 5 * tasks (instance j) → check_bytes_call file plan ≡ 9
  unfolding check_bytes_call check_bytes_for
  check_short h = rw e (simp (lt-ltb (length plan) (5 * tasks (instance j)) h))

  -- .. else the checker's number for slices that hold the plan's tasks
  pub check_number_lem : (starts processors : List ℕ) → 5 * tasks (instance j) ≤ length plan → tasks (instance j) ≤ length starts
      → tasks (instance j) ≤ length processors
      → ((T : ℕ) → T < tasks (instance j) → (get_or starts T 0 ≡ start_in plan T) × (get_or processors T 0 ≡ processor_in plan T))
      → check_bytes_call file plan ≡ check_number (check_call file starts processors)
  unfolding check_bytes_call check_call check_bytes_for check_for
  check_number_lem starts processors h s p same =
      let I = instance j in
      rw e
      (simp (le-ltb (length plan) (5 * tasks I) h, le-ltb (length starts) (tasks I) s, le-ltb (length processors) (tasks I) p)
      (ap number_of
      (sym (check_of_same I (λ T. get_or processors T 0) (processor_in plan) (λ T. get_or starts T 0) (start_in plan)
      (λ T k. (same T k).1) (λ T k. (same T k).0)))
      ∙ same_number (check_of I (λ T. get_or processors T 0) (λ T. get_or starts T 0))))
