-- Schedules (01: plans), whole or begun: which task stands on which processor from when, when it finishes, when messages arrive.
use Rattle.std.specs.Prelude.{Bool, List, [], ◌∷◌, map, ℕ, ◌+◌, ◌*◌, eqb}
use Rattle.base.specs.Choice.{pick}
use Rattle.base.specs.Lists.{upto, any, greatest}
use Rattle.job.specs.Job.{Edge}
use Rattle.etf.specs.Instance.{Instance, tasks, duration, into, message_time}

-- a task, its processor (01: board) and its start
pub record Placement : Type 0 where
  pub task : ℕ
  pub processor : ℕ
  pub start : ℕ

-- task T is placed
unfoldable pub placed : List Placement → ℕ → Bool
placed ps T = any (λ u. eqb u.task T) ps

-- the placement of task T.
-- Of a task that is not placed it is processor 0 at 0: the planning rule asks `placed` first, and walks are of whole schedules
unfoldable pub placement_of : List Placement → ℕ → Placement
placement_of [] T = record { task = T; processor = 0; start = 0 }
placement_of (u ∷ ps) T = pick (eqb u.task T) u (placement_of ps T)

module _ (I : Instance) where
  -- the finish of a placed task: its start plus its duration
  abbrev pub finish : Placement → ℕ
  finish u = u.start + duration I u.task

  -- the time of edge e's messages from its predecessor's processor to P (01: "bundle time to P")
  unfoldable pub message_time_to : List Placement → ℕ → Edge → ℕ
  message_time_to ps P e = message_time I e (placement_of ps e.from).processor P

  -- when the messages of edge e are at processor P (01: "predecessor's finish plus bundle time to P")
  abbrev pub reach : List Placement → ℕ → Edge → ℕ
  reach ps P e = finish (placement_of ps e.from) + message_time_to ps P e

  -- the arrival of task T at processor P (01: "0 with no predecessors, else the greatest of predecessor's finish plus bundle time to P")
  unfoldable pub arrival : List Placement → ℕ → ℕ → ℕ
  arrival ps T P = greatest (reach ps P) (into I T)

  -- the greatest finish; the walk and the bounds on times are stated with it
  unfoldable pub last_finish : List Placement → ℕ
  last_finish ps = greatest finish ps

  -- the schedule that gives each task a processor and a start, by task number (01: "A plan gives each step a board .. and a start")
  unfoldable pub schedule_of : (ℕ → ℕ) → (ℕ → ℕ) → List Placement
  schedule_of processor start = map (λ T. record { task = T; processor = processor T; start = start T }) (upto (tasks I))

  -- a schedule of all tasks, listed by task number
  unfoldable pub by_task : List Placement → List Placement
  by_task ps = schedule_of (λ T. (placement_of ps T).processor) (λ T. (placement_of ps T).start)

-- with results: `result T` is the count of task T's result, 0 where it has none
module _ (I : Instance) (result : ℕ → ℕ) where
  -- the time of a placed task's result to processor 0 (02 §2: "its count times the cost from its board to board 0")
  unfoldable pub result_time : Placement → ℕ
  result_time u = result u.task * I.cost u.processor 0

  -- the end of a schedule (02 §2: "the greatest of all finishes and of each result's finish plus its count times the cost from its board
  -- to board 0"; over a list of results it is that sentence: `end_is` in Results.antt)
  unfoldable pub end : List Placement → ℕ
  end ps = greatest (λ u. finish I u + result_time u) ps

  -- 02 §2: "the dearest result time (a count times that cost) of our plan", 0 without results
  unfoldable pub dearest_result : List Placement → ℕ
  dearest_result ps = greatest result_time ps
