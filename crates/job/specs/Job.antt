-- What a job is (01: "A job is its rack, steps and links"; 02 §1 and §2: and its wires and results).
use Rattle.std.specs.Prelude.{◌&&◌, List, [], ◌∷◌, ◌++◌, ℕ, ◌<◌, eqb}
use Rattle.base.specs.Choice.{pick}
use Rattle.base.specs.Lists.{◌∈◌}
use Rattle.job.specs.declared.Platform.{Platform}

-- an edge of the task graph (01: a link): task `from` sends `count` messages to task `to`
pub record Edge : Type 0 where
  pub from : ℕ
  pub to : ℕ
  pub count : ℕ

-- 02 §1: a wire: what one message takes from processor `from` to processor `to`
pub record Wire : Type 0 where
  pub from : ℕ
  pub to : ℕ
  pub cost : ℕ

-- the pair of processors that a wire is for
abbrev pub ends : Wire → ℕ × ℕ
ends w = (w.from, w.to)

-- the cost of the wire from p to q, 0 where there is none
unfoldable pub wire_cost : List Wire → ℕ → ℕ → ℕ
wire_cost [] p q = 0
wire_cost (w ∷ ws) p q = pick (eqb w.from p && eqb w.to q) w.cost (wire_cost ws p q)

-- 02 §2: a result: task `task` sends `count` messages to processor 0, where the reject gate hangs
pub record Result : Type 0 where
  pub task : ℕ
  pub count : ℕ

-- the count of task T's result, 0 where it has none
unfoldable pub result_count : List Result → ℕ → ℕ
result_count [] T = 0
result_count (r ∷ rs) T = pick (eqb r.task T) r.count (result_count rs T)

-- 02 §2: results stand "rising strictly by step"
abbrev pub RiseByTask : List Result → Type 0
RiseByTask [] = Unit {0}
RiseByTask (r ∷ rs) = ((x : Result) → x ∈ rs → r.task < x.task) × RiseByTask rs

-- a job: its platform (01: the rack), its wires, edges and results in file order, the durations of its tasks (01: steps) from task 0 on
pub record Job : Type 0 where
  pub platform : Platform
  pub wires : List Wire
  pub tasks : List ℕ
  pub edges : List Edge
  pub results : List Result

-- nothing read yet: no rack (its n is 1 to 16, so 0 stands for none), no wires, no steps, no links, no results
unfoldable pub blank : Job
blank = record { platform = record { processors = 0; topology = 0; unit = 0 }; wires = []; tasks = []; edges = []; results = [] }

-- a job with this rack
abbrev pub with_rack : Job → Platform → Job
with_rack j p = record { platform = p; wires = j.wires; tasks = j.tasks; edges = j.edges; results = j.results }

-- a job with these wires more
abbrev pub with_wires : Job → List Wire → Job
with_wires j ws = record {
  platform = j.platform;
  wires = j.wires ++ ws;
  tasks = j.tasks;
  edges = j.edges;
  results = j.results;
}

-- a job with these steps more
abbrev pub with_tasks : Job → List ℕ → Job
with_tasks j ts = record {
  platform = j.platform;
  wires = j.wires;
  tasks = j.tasks ++ ts;
  edges = j.edges;
  results = j.results;
}

-- a job with these links more
abbrev pub with_edges : Job → List Edge → Job
with_edges j es = record {
  platform = j.platform;
  wires = j.wires;
  tasks = j.tasks;
  edges = j.edges ++ es;
  results = j.results;
}

-- a job with these results more
abbrev pub job_with_results : Job → List Result → Job
job_with_results j rs = record {
  platform = j.platform;
  wires = j.wires;
  tasks = j.tasks;
  edges = j.edges;
  results = j.results ++ rs;
}
