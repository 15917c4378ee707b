-- What is to be planned: tasks and their edges, processors and the cost of a message between any two of them.
use Rattle.std.specs.Prelude.{◌≡◌, List, ℕ, suc, ◌*◌, ◌≤◌, ◌<◌, eqb, length, get_or}
use Rattle.base.specs.Lists.{◌∈◌, filter}
use Rattle.job.specs.Job.{Edge}

-- an instance of the planning problem:
-- n `processors` (01: boards), the `durations` of the tasks (01: steps) from task 0 on, the `edges` (01: links).
-- `cost p q` is what one message takes from processor p to q, any function: the two ways may differ, and nothing is said of p to p.
-- `order` has the tasks by priority: of two that could start at one tick the one that stands first goes first.
pub record Instance : Type 0 where
  pub processors : ℕ
  pub durations : List ℕ
  pub edges : List Edge
  pub cost : ℕ → ℕ → ℕ
  pub order : List ℕ

-- the same instance, its tasks by another priority
unfoldable pub ordered : List ℕ → Instance → Instance
ordered order I = record { processors = I.processors; durations = I.durations; edges = I.edges; cost = I.cost; order = order }

module _ (I : Instance) where
  -- the number of tasks (01: m)
  abbrev pub tasks : ℕ
  tasks = length I.durations

  -- the duration of task T
  unfoldable pub duration : ℕ → ℕ
  duration T = get_or I.durations T 0

  -- the edges from the predecessors of task T
  unfoldable pub into : ℕ → List Edge
  into T = filter (λ e. eqb e.to T) I.edges

  -- the edges to the successors of task T
  unfoldable pub out_of : ℕ → List Edge
  out_of T = filter (λ e. eqb e.from T) I.edges

  -- the time of an edge's messages from processor p to q
  -- (01: "A message bundle takes its count times the cost from the sender's board to the receiver's")
  unfoldable pub message_time : Edge → ℕ → ℕ → ℕ
  message_time e p q = e.count * I.cost p q

  -- the tasks are a chain: each but the first has the one before it among its predecessors
  abbrev pub TaskChain : Type 0
  TaskChain = (T : ℕ) → suc T < tasks → (e : Edge) × (e ∈ I.edges) × (e.from ≡ T) × (e.to ≡ suc T)

  -- at least one processor and one task, durations of at least 1, edges from lower to higher tasks;
  -- and `order` has every task and nothing else
  pub record WellFormed : Type 0 where
    pub some_processor : 1 ≤ I.processors
    pub some_task : 1 ≤ tasks
    pub takes_time : (T : ℕ) → T < tasks → 1 ≤ duration T
    pub goes_up : (e : Edge) → e ∈ I.edges → (e.from < e.to) × (e.to < tasks)
    pub has_all : (T : ℕ) → T < tasks → T ∈ I.order
    pub has_only : (T : ℕ) → T ∈ I.order → T < tasks
