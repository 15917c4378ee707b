-- An instance in arrays: what planner, walk, chains and checker are handed. Their promises are about the instance that the arrays hold.
-- They ask plain facts of the numbers; that these come from a file is the entries' matter.
use Rattle.std.specs.Prelude.{◌≡◌, List, [], ℕ, suc, ◌*◌, ◌≤◌, ◌<◌, length, get_or}
use Rattle.base.specs.Lists.{values}
use Rattle.job.specs.Limits.{most_duration}
use Rattle.job.specs.Accepted.{Before}
use Rattle.job.specs.Write.{edge_held}
use Rattle.etf.specs.Instance.{Instance}
use Rattle.etf.specs.Topology.{entry}
use Rattle.etf.specs.Bounds.{most_message_time}

-- the numbers of processors, tasks and edges, and the arrays that hold what is known of each; `order` has
-- the task at each place of the priority order
pub record InArrays : Type 0 where
  pub processors : ℕ
  pub tasks : ℕ
  pub edges : ℕ
  pub durations : List ℕ
  pub from : List ℕ
  pub to : List ℕ
  pub counts : List ℕ
  pub costs : List (List ℕ)
  pub order : ℕ → ℕ

-- the same arrays, the tasks in another order
abbrev pub reordered : (ℕ → ℕ) → InArrays → InArrays
reordered order A = record {
  processors = A.processors;
  tasks = A.tasks;
  edges = A.edges;
  durations = A.durations;
  from = A.from;
  to = A.to;
  counts = A.counts;
  costs = A.costs;
  order = order;
}

-- with the tasks by number (01: "ties go to the lowest step number")
abbrev pub in_number_order : ℕ → ℕ → ℕ → List ℕ → List ℕ → List ℕ → List ℕ → List (List ℕ) → InArrays
in_number_order n m l durations from to counts costs = record {
  processors = n;
  tasks = m;
  edges = l;
  durations = durations;
  from = from;
  to = to;
  counts = counts;
  costs = costs;
  order = λ i. i;
}

-- with the tasks in the order of an array
abbrev pub in_given_order : List ℕ → ℕ → ℕ → ℕ → List ℕ → List ℕ → List ℕ → List ℕ → List (List ℕ) → InArrays
in_given_order order n m l durations from to counts costs =
    reordered (λ i. get_or order i 0) (in_number_order n m l durations from to counts costs)

-- the instance that arrays hold; spare places are not read
unfoldable pub instance_in : InArrays → Instance
instance_in A = record {
  processors = A.processors;
  durations = values (λ T. get_or A.durations T 0) 0 A.tasks;
  edges = values (edge_held A.from A.to A.counts) 0 A.edges;
  cost = entry A.costs;
  order = values A.order 0 A.tasks;
}

-- each of m tasks stands at a place of the order, and nothing else does
pub record Ordering (m : ℕ) (order : ℕ → ℕ) : Type 0 where
  pub within : (i : ℕ) → i < m → order i < m
  pub each : (T : ℕ) → T < m → (i : ℕ) × (i < m) × (order i ≡ T)

-- what is asked of the arrays: the numbers are as many and as great as 32 bits and the arrays' places allow, and the edges rise
pub record Plannable (A : InArrays) : Type 0 where
  pub some_processor : 1 ≤ A.processors
  pub few_processors : A.processors ≤ 16
  pub some_task : 1 ≤ A.tasks
  pub few_tasks : A.tasks ≤ 256
  pub few_edges : A.edges ≤ 1024
  pub takes_time : (T : ℕ) → T < A.tasks → 1 ≤ get_or A.durations T 0
  pub short : (T : ℕ) → T < A.tasks → get_or A.durations T 0 ≤ most_duration
  pub forward : (k : ℕ) → k < A.edges → get_or A.from k 0 < get_or A.to k 0
  pub within : (k : ℕ) → k < A.edges → get_or A.to k 0 < A.tasks
  pub rising : (k : ℕ) → suc k < A.edges
      → Before (edge_held A.from A.to A.counts k) (edge_held A.from A.to A.counts (suc k))
  -- messages of one edge take at most 800,000, whatever the count and the cost
  pub near : (k p q : ℕ) → k < A.edges → get_or A.counts k 0 * entry A.costs p q ≤ most_message_time
  pub ordered : Ordering A.tasks A.order
  pub durations_size : length A.durations ≡ 256
  pub from_size : length A.from ≡ 1024
  pub to_size : length A.to ≡ 1024
  pub counts_size : length A.counts ≡ 1024
  pub row_size : (p : ℕ) → p < 16 → length (get_or A.costs p []) ≡ 16

-- arrays that can be planned, the tasks in another order
pub plannable_in_order : {A : InArrays} → Plannable A → {order : ℕ → ℕ} → Ordering A.tasks order → Plannable (reordered order A)
plannable_in_order F ordered = record {
  some_processor = F.some_processor;
  few_processors = F.few_processors;
  some_task = F.some_task;
  few_tasks = F.few_tasks;
  few_edges = F.few_edges;
  takes_time = F.takes_time;
  short = F.short;
  forward = F.forward;
  within = F.within;
  rising = F.rising;
  near = F.near;
  ordered = ordered;
  durations_size = F.durations_size;
  from_size = F.from_size;
  to_size = F.to_size;
  counts_size = F.counts_size;
  row_size = F.row_size;
}

-- the same but for the order, each fact with one proof at most: what stands beside an instance that is handed on
pub record Ready (A : InArrays) : Type 0 where
  pub some_processor : 1 ≤ A.processors
  pub few_processors : A.processors ≤ 16
  pub some_task : 1 ≤ A.tasks
  pub few_tasks : A.tasks ≤ 256
  pub few_edges : A.edges ≤ 1024
  pub takes_time : (T : ℕ) → T < A.tasks → 1 ≤ get_or A.durations T 0
  pub short : (T : ℕ) → T < A.tasks → get_or A.durations T 0 ≤ most_duration
  pub forward : (k : ℕ) → k < A.edges → get_or A.from k 0 < get_or A.to k 0
  pub within : (k : ℕ) → k < A.edges → get_or A.to k 0 < A.tasks
  pub rising : (k : ℕ) → suc k < A.edges
      → (get_or A.from k 0 ≤ get_or A.from (suc k) 0)
      × (get_or A.from k 0 ≡ get_or A.from (suc k) 0 → get_or A.to k 0 < get_or A.to (suc k) 0)
  -- messages of one edge take at most 800,000, whatever the count and the cost
  pub near : (k p q : ℕ) → k < A.edges → get_or A.counts k 0 * entry A.costs p q ≤ most_message_time
  pub durations_size : length A.durations ≡ 256
  pub from_size : length A.from ≡ 1024
  pub to_size : length A.to ≡ 1024
  pub counts_size : length A.counts ≡ 1024
  pub row_size : (p : ℕ) → p < 16 → length (get_or A.costs p []) ≡ 16
