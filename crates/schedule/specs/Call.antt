-- A call on a file and three lent slices: what it returns and what the slices hold afterwards, whatever it answers on acceptance.
use Rattle.std.specs.Prelude.{Bool, ◌&&◌, ◌||◌, ◌⊎◌, ◌≡◌, List, ℕ, ◌/◌, ◌%◌, ltb, length}
use Rattle.base.specs.Slices.{filled}
use Rattle.base.specs.Choice.{pick}
use Rattle.job.specs.Job.{Job}
use Rattle.job.specs.Read.{Answer, accepted, refused}
use Rattle.job.specs.Cause.{ReaderNumber}
use Rattle.etf.specs.Instance.{Instance, tasks}
use Rattle.etf.specs.Schedule.{placement_of, arrival}
use Rattle.etf.specs.Rule.{planned}
use Rattle.etf.specs.OfJob.{instance}

-- what a call returns, and the last content of the starts, the processors and the scratch that it was lent
pub record Call (A : Type 0) : Type 0 where
  pub answer : A
  pub starts : List ℕ
  pub processors : List ℕ
  pub scratch : List ℕ

-- a call that returns r and leaves these in the slices
abbrev pub called : {A : Type 0} → A → List ℕ → List ℕ → List ℕ → Call A
called r starts processors scratch = record { answer = r; starts = starts; processors = processors; scratch = scratch }

module _ (I : Instance) where
  -- the start (01: "start ticks") of task T in the planner's schedule, and its processor (01: "boards")
  unfoldable pub start_of : ℕ → ℕ
  start_of T = (placement_of (planned I) T).start

  unfoldable pub processor_of : ℕ → ℕ
  processor_of T = (placement_of (planned I) T).processor

  -- 01: "at place 16T + P the arrival of step T at board P, and 0 in every other of the first 4,096 places"
  unfoldable pub scratch_at : ℕ → ℕ
  scratch_at x = pick (ltb (x / 16) (tasks I) && ltb (x % 16) I.processors) (arrival I (planned I) (x / 16) (x % 16)) 0

-- the places of scratch that hold the arrivals
abbrev pub arrival_places : ℕ
arrival_places = 4096

-- the planner's schedule of an instance laid out in the slices, and an answer; places past tasks and arrivals keep their content
unfoldable pub laid_out_call : {A : Type 0} → A → Instance → List ℕ → List ℕ → List ℕ → Call A
laid_out_call answer I starts processors scratch =
    called answer
    (filled (start_of I) (tasks I) starts) (filled (processor_of I) (tasks I) processors) (filled (scratch_at I) arrival_places scratch)

-- the planner's schedule of a job laid out in the slices, and an answer about the job; `by` is the job's instance, with its tie rule
abbrev pub plan_by : {A : Type 0} → (Job → Instance) → (Job → A) → Job → List ℕ → List ℕ → List ℕ → Call A
plan_by by answer j = laid_out_call (answer j) (by j)

-- 01: 9, "a lent slice too short": fewer than m starts, m processors or so many places of scratch
unfoldable pub is_too_short : ℕ → ℕ → List ℕ → List ℕ → List ℕ → Bool
is_too_short places m starts processors scratch = ltb (length starts) m || (ltb (length processors) m || ltb (length scratch) places)

-- a call's numbers: the reader's, and 9
abbrev pub CallNumber : ℕ → Type 0
CallNumber k = ReaderNumber k ⊎ (k ≡ 9)

-- a call by the reader's answer. 01: a refused job "is passed on with the reader's own number"; 9 for a slice too short; else it accepts.
-- 01: "Every refusal returns its number alone and alters no lent slice"
unfoldable pub call_for : {A : Type 0} → ℕ → (ℕ → A) → (Job → List ℕ → List ℕ → List ℕ → Call A)
    → Answer → List ℕ → List ℕ → List ℕ → Call A
call_for places refuse accept (accepted j) starts processors scratch =
    pick (is_too_short places (tasks (instance j)) starts processors scratch)
    (called (refuse 9) starts processors scratch)
    (accept j starts processors scratch)
call_for places refuse accept (refused k) starts processors scratch = called (refuse k) starts processors scratch
