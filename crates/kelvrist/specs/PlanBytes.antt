-- The calls from C, on job bytes and plan bytes (01: "it calls planner and checker with job bytes and a plan of 5 bytes a step").
use mathlib.Core.List.{List, ◌∷◌, ◌++◌, flat_map}
use Rattle.std.specs.Prelude.{ℕ, ◌+◌, ◌*◌, ltb, length, get_or, take, drop}
use Rattle.base.specs.Choice.{pick}
use Rattle.base.specs.Number.{number, bytes}
use Rattle.base.specs.Lists.{upto}
use Rattle.job.specs.Job.{Job}
use Rattle.job.specs.Read.{Answer, accepted, refused, read_job}
use Rattle.etf.specs.Instance.{Instance, tasks}
use Rattle.etf.specs.OfJob.{instance, instance_by_weight}
use Rattle.schedule.specs.Call.{start_of, processor_of}
use Rattle.schedule.specs.Check.{check_of, number_of}

-- what a call returns, 0 or the refusal's number, and the last content of the plan
pub record BytesCall : Type 0 where
  pub number : ℕ
  pub plan : List ℕ

-- a call that returns k and leaves these bytes in the plan
abbrev pub returned : ℕ → List ℕ → BytesCall
returned k plan = record { number = k; plan = plan }

-- 01: "board then start (4 bytes, little-endian)"
unfoldable pub task_bytes : ℕ → ℕ → List ℕ
task_bytes processor start = processor ∷ bytes 4 start

-- the bytes of a plan (01: "a plan of 5 bytes a step"), task by task
unfoldable pub plan_bytes : ℕ → (ℕ → ℕ) → (ℕ → ℕ) → List ℕ
plan_bytes m processor start = flat_map (λ T. task_bytes (processor T) (start T)) (upto m)

-- the processor (01: board) and the start of task T in a plan's bytes
unfoldable pub processor_in : List ℕ → ℕ → ℕ
processor_in plan T = get_or plan (5 * T) 0

unfoldable pub start_in : List ℕ → ℕ → ℕ
start_in plan T = number (take 4 (drop (5 * T + 1) plan))

-- 01: "9 if that is shorter than 5m"; "the planner fills the first 5m bytes"; `by` is the job's instance, with its tie rule
unfoldable pub plan_bytes_for : (Job → Instance) → Answer → List ℕ → BytesCall
plan_bytes_for by (accepted j) plan =
    pick (ltb (length plan) (5 * tasks (instance j))) (returned 9 plan)
    (returned 0 (plan_bytes (tasks (instance j)) (processor_of (by j)) (start_of (by j)) ++ drop (5 * tasks (instance j)) plan))
plan_bytes_for by (refused k) plan = returned k plan

-- a planner's call from C, for job bytes and plan bytes
unfoldable pub plan_bytes_call_by : (Job → Instance) → List ℕ → List ℕ → BytesCall
plan_bytes_call_by by file plan = plan_bytes_for by (read_job file) plan

-- document 01's
abbrev pub plan_bytes_call : List ℕ → List ℕ → BytesCall
plan_bytes_call = plan_bytes_call_by instance

-- 02 §6: the new entry from C, "with the larger entry's slices and refusals"
abbrev pub weight_bytes_call : List ℕ → List ℕ → BytesCall
weight_bytes_call = plan_bytes_call_by instance_by_weight

-- 01: "Each returns 0 or the refusal's number": 9 "if that is shorter than 5m", a refused job's own number, else what the checker says
-- of the plan's first 5m bytes
unfoldable pub check_bytes_for : Answer → List ℕ → ℕ
check_bytes_for (accepted j) plan =
    pick (ltb (length plan) (5 * tasks (instance j))) 9 (number_of (check_of (instance j) (processor_in plan) (start_in plan)))
check_bytes_for (refused k) plan = k

-- the checker's call from C, for job bytes and plan bytes
unfoldable pub check_bytes_call : List ℕ → List ℕ → ℕ
check_bytes_call file plan = check_bytes_for (read_job file) plan
