-- `take_plan` refuses as the reader does, by 9 for a plan too short for the job, and else has put the plan's tasks into the arrays.
use mathlib.Core.Path.{◌≡◌}
use mathlib.Core.List.{List}
use Prim.Native.Nat.{ℕ, ◌*◌, ◌≤◌, ◌<◌}
use native.Mathlib.Omega.{arith}
use borrow.Author.Tests.{lt-ltb, le-ltb}
use lib.ListN.{length, get_or}
use Rattle.std.proofs.lemmas.Result.{err_from_is_err_and}
use Rattle.job.specs.Limits.{most_tasks}
use Rattle.job.specs.Job.{Job}
use Rattle.job.specs.Read.{accepted, refused, read_job}
use Rattle.job.specs.Accepted.{accepted_job}
use Rattle.job.specs.Refusal.{read_numbers, reader_number_some}
use Rattle.etf.specs.Instance.{tasks}
use Rattle.etf.specs.OfJob.{instance}
use Rattle.kelvrist.specs.PlanBytes.{processor_in, start_in}
use Rattle.kelvrist.specs.Pass.{taken_number, Taken}
use Rattle.kelvrist.proofs.take_plan.Goals as goal

-- a refused file ..
refuses : (file plan : List ℕ) {k : ℕ} {starts processors : List ℕ} → read_job file ≡ refused k → Taken file plan k starts processors
unfolding taken_number
refuses file plan {k} says =
    record { number_is = rw says; held = λ z. absurd (omega (arith, reader_number_some (read_numbers file k says))) }

-- .. or one of a job of m tasks
module _ (file : List ℕ) {m : ℕ} (found : (j : Job) × (read_job file ≡ accepted j) × (tasks (instance j) ≡ m)) where
  few : m ≤ most_tasks
  unfolding instance
  few = omega (arith, found.2, (accepted_job file found.0 found.1).few_tasks)

  too_short : (plan : List ℕ) {starts processors : List ℕ} → length plan < 5 * m → Taken file plan 9 starts processors
  unfolding taken_number
  too_short plan h = record {
    number_is = rw found.1 (simp (found.2, lt-ltb (length plan) (5 * m) h));
    held = λ z. absurd (omega arith);
  }

  -- the tasks that were decoded are the job's
  takes : (plan starts processors : List ℕ) → 5 * m ≤ length plan → most_tasks ≤ length starts → most_tasks ≤ length processors
      → ((T : ℕ) → T < m → (get_or starts T 0 ≡ start_in plan T) × (get_or processors T 0 ≡ processor_in plan T))
      → Taken file plan 0 starts processors
  unfolding taken_number
  takes plan starts processors h a b got = record {
    number_is = rw found.1 (simp (found.2, le-ltb (length plan) (5 * m) h));
    held = λ z. record {
      job = found.0;
      says = found.1;
      has_bytes = omega (arith, found.2);
      has_starts = omega (arith, found.2, few);
      has_processors = omega (arith, found.2, few);
      starts_are = λ T i. (got T (omega (arith, found.2))).0;
      processors_are = λ T i. (got T (omega (arith, found.2))).1;
    };
  }

pub returns-in_err-tasks : goal.returns-in_err-tasks
returns-in_err-tasks c =
    let p = err_from_is_err_and c.from_residual.result c.from_residual.ensures.1 in rw (p.1, p.2) (refuses _ _ c.in_err-tasks.ensures)

pub overflow_mul-bytes : goal.overflow_mul-bytes
overflow_mul-bytes c = record { fits = omega (arith, few _ c.in_ok-tasks.ensures) }

pub returns-then-plan-bytes : goal.returns-then-plan-bytes
returns-then-plan-bytes c = too_short _ c.in_ok-tasks.ensures _ (omega (arith, c.if-plan-bytes.true))

pub get-requires : goal.get-requires
get-requires c =
    let small = few _ c.in_ok-tasks.ensures in
    (omega (arith, small), omega (arith, small), omega (arith, c.if-plan-bytes.false))

pub returns : goal.returns
returns c =
    let room = c.requires in
    let starts-kept = c.get.auto.starts in
    let processors-kept = c.get.auto.processors in
    takes _ c.in_ok-tasks.ensures _ _ _ (omega (arith, c.if-plan-bytes.false))
    (omega (arith, room.0, starts-kept)) (omega (arith, room.1, processors-kept)) c.get.ensures
