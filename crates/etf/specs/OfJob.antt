-- The instance of a job: what the planner plans.
use Rattle.std.specs.Prelude.{◌≡◌, List, ℕ, ◌<◌, length}
use Rattle.base.specs.Lists.{◌∈◌, upto}
use Rattle.job.specs.Job.{wire_cost, result_count, Job}
use Rattle.etf.specs.Instance.{Instance, ordered}
use Rattle.etf.specs.Weight.{tasks_by_weight}
use Rattle.etf.specs.Topology.{cost, entry, square}

-- what one message of a job takes from p to q
abbrev pub cost_in : Job → ℕ → ℕ → ℕ
cost_in j = cost j.platform (wire_cost j.wires)

-- the link costs of a job (01: "Before planning, the costs are laid out as a square")
unfoldable pub costs_of : Job → List (List ℕ)
costs_of j = square j.platform.processors (cost_in j)

-- a job's processors, tasks and edges, its link costs as laid out, and the tasks by number (01: "ties go to the lowest step number")
unfoldable pub instance : Job → Instance
instance j = record {
  processors = j.platform.processors;
  durations = j.tasks;
  edges = j.edges;
  cost = entry (costs_of j);
  order = upto (length j.tasks);
}

-- the same with the tasks by weight (02 §6: "breaks ties in start by greater weight, then lower step number")
unfoldable pub instance_by_weight : Job → Instance
instance_by_weight j = ordered (tasks_by_weight (instance j)) (instance j)

-- a tie rule: `by` is the job's instance, its tasks in a priority order that has every task and nothing else
pub record TieRule (by : Job → Instance) : Type 0 where
  pub order : Job → List ℕ
  pub is_by : (j : Job) → by j ≡ ordered (order j) (instance j)
  pub has_all : (j : Job) (T : ℕ) → T < length j.tasks → T ∈ order j
  pub has_only : (j : Job) (T : ℕ) → T ∈ order j → T < length j.tasks

-- the counts of a job's results by task
abbrev pub result_of : Job → ℕ → ℕ
result_of j = result_count j.results
