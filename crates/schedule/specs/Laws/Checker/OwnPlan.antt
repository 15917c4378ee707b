-- The planner's plan, read off the slices that it filled, is the schedule that the checker is known to accept.
use Rattle.std.specs.Prelude.{false, ◌≡◌, List, ℕ, ◌≤◌, ltb, length}
use Rattle.std.proofs.Math.Option.{none}
use Rattle.std.proofs.Common.{ap, ◌∙◌, arith, le-ltb}
use Rattle.std.proofs.Math.ListN.{get_or}
use Rattle.base.specs.Slices.{filled}
use Rattle.base.specs.Laws.Filled.{filled_at, filled-length}
use Rattle.job.specs.Job.{Job}
use Rattle.job.specs.Read.{accepted}
use Rattle.job.specs.Accepted.{Accepted}
use Rattle.etf.specs.Instance.{Instance, tasks}
use Rattle.etf.specs.Schedule.{schedule_of, by_task}
use Rattle.etf.specs.OfJob.{instance, TieRule}
use Rattle.etf.proofs.Jobs.{same_tasks, planned_accepted}
use Rattle.schedule.specs.Answers.Checked.{Yes}
use Rattle.schedule.specs.Call.{start_of, processor_of}
use Rattle.schedule.specs.Check.{check_of, checked_as, check_for}
use Rattle.schedule.specs.Laws.Checker.Answer.{check_of_same}

module _ {by : Job → Instance} (rule : TieRule by) (j : Job) (a : Accepted j) where
  abbrev I : Instance
  I = by j

  -- the plan is as long as the checker's
  many : tasks I ≡ tasks (instance j)
  unfolding instance
  many = same_tasks rule j a

  -- the checker's answer to the planner's processors and starts
  pub own : check_of (instance j) (processor_of I) (start_of I) ≡ none
  unfolding check_of by_task schedule_of start_of processor_of
  own = rw (← many) (planned_accepted rule j a)

  -- room for the tasks, as the checker asks for it
  room : (f : ℕ → ℕ) (slice : List ℕ) → tasks I ≤ length slice → ltb (length (filled f (tasks I) slice)) (tasks (instance j)) ≡ false
  room f slice h = le-ltb (length (filled f (tasks I) slice)) (tasks (instance j)) (omega (arith, many, filled-length f (tasks I) slice h))

  -- slices with room that the planner filled
  pub filled_yes : (starts processors : List ℕ) → tasks (instance j) ≤ length starts → tasks (instance j) ≤ length processors
      → check_for (accepted j) (filled (start_of I) (tasks I) starts) (filled (processor_of I) (tasks I) processors) ≡ Yes
  unfolding check_for checked_as
  filled_yes starts processors a b =
      simp (room (start_of I) starts (omega (arith, many)), room (processor_of I) processors (omega (arith, many)))
      (ap checked_as
      (check_of_same (instance j) (λ T. get_or (filled (processor_of I) (tasks I) processors) T 0) (processor_of I)
      (λ T. get_or (filled (start_of I) (tasks I) starts) T 0) (start_of I)
      (λ T h. filled_at (processor_of I) (tasks I) processors T (omega (arith, many)))
      (λ T h. filled_at (start_of I) (tasks I) starts T (omega (arith, many))) ∙ own))
