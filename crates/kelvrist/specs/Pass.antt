-- What private functions promise one another.
use Rattle.std.specs.Prelude.{◌≡◌, Result, MatchResult, List, ℕ, ◌*◌, ◌≤◌, ◌<◌, ltb, length, get_or}
use Rattle.base.specs.Choice.{pick}
use Rattle.job.specs.declared.table.Refusal.{Refusal}
use Rattle.job.specs.Job.{Job}
use Rattle.job.specs.Read.{Answer, accepted, refused, read_job}
use Rattle.job.specs.Table.{number_of}
use Rattle.etf.specs.Instance.{tasks}
use Rattle.etf.specs.OfJob.{instance}
use Rattle.kelvrist.specs.PlanBytes.{processor_in, start_in}

-- the answer to a file: accepted as a job of so many tasks, or refused
abbrev pub HasTasks : Answer → Result ℕ Refusal → Type 0
HasTasks a r = MatchResult r (λ m. (j : Job) × (a ≡ accepted j) × (tasks (instance j) ≡ m)) (λ e. a ≡ refused (number_of e))

-- the number by which a plan's bytes are refused before the plan is judged: a refused job's own, 9 for fewer than 5m bytes; else 0
unfoldable pub taken_number : Answer → List ℕ → ℕ
taken_number (accepted j) plan = pick (ltb (length plan) (5 * tasks (instance j))) 9 0
taken_number (refused k) plan = k

-- the file is accepted as a job, the plan has its 5m bytes, and the first m places of `starts` and `processors` hold the plan's tasks
pub record PlanHeld (file plan starts processors : List ℕ) : Type 0 where
  pub job : Job
  pub says : read_job file ≡ accepted job
  pub has_bytes : 5 * tasks (instance job) ≤ length plan
  pub has_starts : tasks (instance job) ≤ length starts
  pub has_processors : tasks (instance job) ≤ length processors
  pub starts_are : (T : ℕ) → T < tasks (instance job) → get_or starts T 0 ≡ start_in plan T
  pub processors_are : (T : ℕ) → T < tasks (instance job) → get_or processors T 0 ≡ processor_in plan T

-- a plan taken off its bytes: the number that is returned, and what the arrays hold where that is 0
pub record Taken (file plan : List ℕ) (number : ℕ) (starts processors : List ℕ) : Type 0 where
  pub number_is : number ≡ taken_number (read_job file) plan
  pub held : number ≡ 0 → PlanHeld file plan starts processors
