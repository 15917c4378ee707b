-- A call of the checker: its answer.
use Rattle.std.specs.Prelude.{◌||◌, ◌⊎◌, List, ℕ, ◌≤◌, ltb, length, get_or}
use Rattle.std.proofs.Math.Option.{Option, none, some}
use Rattle.base.specs.Choice.{pick}
use Rattle.job.specs.Read.{Answer, accepted, refused, read_job, reading_of}
use Rattle.etf.specs.Instance.{Instance, tasks}
use Rattle.etf.specs.Schedule.{schedule_of}
use Rattle.etf.specs.Checker.{check}
use Rattle.etf.specs.OfJob.{instance}
use Rattle.schedule.specs.Answers.Checked.{Checked, Yes, Refused, Judgement}
use Rattle.schedule.specs.Call.{CallNumber}

-- what the checker says of a plan, a processor and a start for each task; none is a yes.
-- 01: "A plan gives each step a board .. and a start"
unfoldable pub check_of : Instance → (ℕ → ℕ) → (ℕ → ℕ) → Option ℕ
check_of I processor start = check I (schedule_of I processor start)

-- 01: "the checker a yes", or the refusal's number
unfoldable pub checked_as : Option ℕ → Checked
checked_as none = Yes
checked_as (some k) = Refused k

-- and as a number, 0 for a yes
unfoldable pub number_of : Option ℕ → ℕ
number_of none = 0
number_of (some k) = k

-- the checker's numbers: any call's, and 10 to 13 for a rule that a plan breaks
abbrev pub CheckerNumber : ℕ → Type 0
CheckerNumber k = CallNumber k ⊎ ((10 ≤ k) × (k ≤ 13))

-- 01: "A plan slice of the checker shorter than m is 9; places past m are not read";
-- a refused job "is passed on with the reader's own number"
unfoldable pub check_for : Answer → List ℕ → List ℕ → Checked
check_for (accepted j) starts processors =
    pick (ltb (length starts) (tasks (instance j)) || ltb (length processors) (tasks (instance j))) (Refused 9)
    (checked_as (check_of (instance j) (λ T. get_or processors T 0) (λ T. get_or starts T 0)))
check_for (refused k) starts processors = Refused k

-- the checker's call for a file and a plan's two slices
unfoldable pub check_call : List ℕ → List ℕ → List ℕ → Checked
check_call file starts processors = check_for (read_job file) starts processors

-- what the reader finds in a file, and the checker's call for it
unfoldable pub judge_call : List ℕ → List ℕ → List ℕ → Judgement
judge_call file starts processors = record { reading = reading_of (read_job file); checked = check_call file starts processors }
