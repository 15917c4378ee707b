-- What the private functions of the cover call promise one another, in terms of the arrays that they are handed.
-- A reader of the public contracts needs nothing of this file.
use Rattle.std.specs.Prelude.{Bool, not, ◌⊎◌, ◌≡◌, List, [], ℕ, zero, suc, ◌+◌, ◌*◌, ◌^◌, ◌/◌, ◌%◌, ◌≤◌, ◌<◌, max, ltb, eqb, T as Holds}
use Rattle.std.specs.Prelude.{length, get_or}
use Rattle.std.specs.Int.Count.{count_trailing_zeros}
use Rattle.base.specs.Choice.{pick}
use Rattle.base.specs.Rows.{most}
use Rattle.etf.specs.Instance.{Instance}
use Rattle.etf.specs.Topology.{entry}
use Rattle.etf.specs.Bounds.{most_message_time, most_finish, most_chain}
use Rattle.schedule.specs.declared.timetable.Timetable.{Timetable}
use Rattle.schedule.specs.declared.walk.Stretches.{Stretches}
use Rattle.schedule.specs.declared.walk.Ticks.{Ticks}
use Rattle.schedule.specs.declared.walk.Steps.{Steps}
use Rattle.schedule.specs.declared.least.Prices.{Prices}
use Rattle.schedule.specs.InArrays.{InArrays, reordered, instance_in, Plannable}
use Rattle.schedule.specs.Handed.{in_arrays}
use Rattle.schedule.specs.Call.{start_of, processor_of}
use Rattle.schedule.specs.Pass.{message_at, reach_at}

-- r is the first of the n places whose value is the greatest; `none` where each is 0
pub record FirstMost (none n : ℕ) (f : ℕ → ℕ) (r : ℕ) : Type 0 where
  pub no_place : most n f ≡ 0 → r ≡ none
  pub below : 0 < most n f → r < n
  pub at_most : 0 < most n f → f r ≡ most n f
  pub first : 0 < most n f → (i : ℕ) → i < r → f i < most n f

-- ---- a set of processors, as the bits of a number

-- processor P is in it
unfoldable pub has : ℕ → ℕ → Bool
has set zero = eqb (set % 2) 1
has set (suc P) = has (set / 2) P

-- the lowest processor in the set of each task; 32 where it is empty
unfoldable pub lowest_in : List ℕ → ℕ → ℕ
lowest_in sets T = count_trailing_zeros 32 (get_or sets T 0)

-- a set has those of the first n processors that pass a test
pub record SetOf (n : ℕ) (p : ℕ → Bool) (set : ℕ) : Type 0 where
  pub few_bits : set < 2 ^ n
  pub members : (P : ℕ) → P < n → has set P ≡ p P

-- ---- the latest short tick

-- from when on a processor is busy up to `start`: from `start` itself if it is idle right before, else since its stretch began, which is no
-- later
unfoldable pub busy_from : List ℕ → List ℕ → ℕ → ℕ → ℕ
busy_from until since start P = max (pick (ltb (get_or until P 0) start) start 0) (get_or since P 0)

-- `latest` is the greatest of the n values, or 1 where each is 0, and the set is that of the processors that have it
pub record LatestOf (n : ℕ) (f : ℕ → ℕ) (latest set : ℕ) : Type 0 where
  pub from_one : 1 ≤ latest
  pub to_latest : (P : ℕ) → P < n → f P ≤ latest
  pub those : SetOf n (λ P. eqb (f P) latest) set
  pub nowhere : set ≡ 0 → latest ≡ 1

module _ (m : ℕ) (durations starts processors : List ℕ) where
  -- no two of m tasks are at one time on one processor
  abbrev pub Apart : Type 0
  Apart = (T U : ℕ) → T < m → U < m → ¬ (T ≡ U) → get_or processors T 0 ≡ get_or processors U 0
      → (get_or starts T 0 + get_or durations T 0 ≤ get_or starts U 0) ⊎ (get_or starts U 0 + get_or durations U 0 ≤ get_or starts T 0)

  -- a schedule of m tasks on n processors, all done by tick `late`, no two at one time on one
  pub record ScheduledBy (late n : ℕ) : Type 0 where
    pub few : m ≤ 256
    pub few_processors : n ≤ 16
    pub has_durations : m ≤ length durations
    pub has_starts : m ≤ length starts
    pub has_processors : m ≤ length processors
    pub takes_time : (T : ℕ) → T < m → 1 ≤ get_or durations T 0
    pub in_time : (T : ℕ) → T < m → get_or starts T 0 + get_or durations T 0 ≤ late
    pub on_processor : (T : ℕ) → T < m → get_or processors T 0 < n
    pub apart : Apart

  -- .. by the latest tick at which a plan of the planner ends
  abbrev pub Scheduled : ℕ → Type 0
  Scheduled n = ScheduledBy most_finish n

  -- a task that runs on processor P in tick t
  pub record Running (P t : ℕ) : Type 0 where
    pub task : ℕ
    pub below : task < m
    pub there : get_or processors task 0 ≡ P
    pub begun : get_or starts task 0 ≤ t
    pub unfinished : t < get_or starts task 0 + get_or durations task 0

  -- the latest tick before s in which one of n processors is idle is the one before `latest`, and `idle` is the set of those that are;
  -- it is empty where no tick before s is short
  pub record ShortBefore (n s latest idle : ℕ) : Type 0 where
    pub few_bits : idle < 2 ^ 16
    pub none_short : idle ≡ 0 → (Q t : ℕ) → Q < n → t < s → Running Q t
    pub before : 0 < idle → (0 < latest) × (latest ≤ s)
    pub rests : (Q t : ℕ) → suc t ≡ latest → Holds (has idle Q) → Running Q t → ⊥
    pub runs : (Q t : ℕ) → Q < n → suc t ≡ latest → t < s → Holds (not (has idle Q)) → Running Q t
    pub runs_after : (Q t : ℕ) → Q < n → latest ≤ t → t < s → Running Q t
    pub within : (Q : ℕ) → Holds (has idle Q) → Q < n

  -- that of each task that has predecessors, by how many these are; an empty set for a task without
  pub record ShortTicks (n : ℕ) (predecessors : ℕ → ℕ) (latest idle : List ℕ) : Type 0 where
    pub has_latest : length latest ≡ 256
    pub has_idle : length idle ≡ 256
    pub found : (T : ℕ) → T < m → 0 < predecessors T → ShortBefore n (get_or starts T 0) (get_or latest T 0) (get_or idle T 0)
    pub none : (T : ℕ) → T < m → predecessors T ≡ 0 → get_or idle T 0 ≡ 0
    pub past : (T : ℕ) → m ≤ T → get_or idle T 0 ≡ 0

-- ---- the moves back

module _ (durations from to counts : List ℕ) (costs : List (List ℕ)) (starts processors : List ℕ) where
  -- when the messages of an edge to task T are at processor P; of another edge 0
  unfoldable pub reach_into : ℕ → ℕ → ℕ → ℕ
  reach_into T P k = pick (eqb (get_or to k 0) T) (reach_at durations from counts costs starts processors P k) 0

  -- the walk goes back from task T to `back`, along the first of those of the first l edges whose messages are at P the latest;
  -- `back` is 256 where there is none
  pub record MovesBack (l T P back time : ℕ) : Type 0 where
    pub edge : ℕ
    pub is_first : FirstMost 1024 l (reach_into T P) edge
    pub stops : most l (reach_into T P) ≡ 0 → back ≡ 256
    pub goes : 0 < most l (reach_into T P)
        → (back ≡ get_or from edge 0) × (time ≡ message_at durations from counts costs starts processors P edge)

-- the moves back from each of m tasks, through the processors that `through` has
pub record Moves (m l : ℕ) (durations from to counts : List ℕ) (costs : List (List ℕ))
    (starts processors : List ℕ) (through : ℕ → ℕ) (back time : List ℕ) : Type 0 where
  pub moves : (T : ℕ) → T < m → through T < 16
      → MovesBack durations from to counts costs starts processors l T (through T) (get_or back T 0) (get_or time T 0)
  pub stays : (T : ℕ) → T < m → 16 ≤ through T → get_or back T 0 ≡ 256

-- what k moves back from task T take
unfoldable pub along_back : List ℕ → List ℕ → ℕ → ℕ → ℕ
along_back back time zero T = 0
along_back back time (suc k) T = pick (ltb (get_or back T 0) 256) (get_or time T 0 + along_back back time k (get_or back T 0)) 0

-- ---- the least walks

-- r is the smallest of `low` and of the values of f where P holds
pub record SmallestOf {A : Type 0} (P : A → Type 0) (f : A → ℕ) (low r : ℕ) : Type 0 where
  pub to_low : r ≤ low
  pub to_each : (a : A) → P a → r ≤ f a
  pub is_one : (r ≡ low) ⊎ ((a : A) × P a × (r ≡ f a))

-- a processor serves: it is in the set, and messages are there at `latest` or after
abbrev pub Served : ℕ → ℕ → (ℕ → ℕ) → ℕ → Type 0
Served idle latest reach P = Holds (has idle P) × (latest ≤ reach P)

-- the messages of edge k to a processor of the set cost no more than `most`, each
pub record AtMost (durations from counts : List ℕ) (costs : List (List ℕ)) (starts processors : List ℕ) (most set k : ℕ) : Type 0 where
  pub near : get_or counts k 0 * most ≤ most_message_time
  pub to_most : (P : ℕ) → Holds (has set P) → message_at durations from counts costs starts processors P k ≤ get_or counts k 0 * most

-- r is no more than `most`, nor than what each of the first n places of a row has, but for place p where that has nothing
pub record NoMore (row : List ℕ) (n p most r : ℕ) : Type 0 where
  pub to_most : r ≤ most
  pub to_each : (q : ℕ) → q < n → ((q ≡ p) × (get_or row q 0 ≡ 0) → ⊥) → r ≤ get_or row q 0

-- `least` has, of each of the first k processors, no more than what a message to another of n costs, or to itself where that is not free,
-- nor than `most`
pub record Nearest (costs : List (List ℕ)) (n most k : ℕ) (least : List ℕ) : Type 0 where
  pub has_least : length least ≡ 16
  pub no_more : (p : ℕ) → p < k → NoMore (get_or costs p []) n p most (get_or least p 0)

-- what the messages of edge k cost, each: to a processor of the set no more than `most`, and no less than what `nearest` has of their
-- sender's own, but to that itself where it is free
module _ (durations from counts : List ℕ) (costs : List (List ℕ)) (starts processors : List ℕ) (most : ℕ) (nearest : List ℕ) where
  pub record Between (set k : ℕ) : Type 0 where
    pub at_most : AtMost durations from counts costs starts processors most set k
    pub has_nearest : length nearest ≡ 16
    pub nearest_most : get_or nearest (get_or processors (get_or from k 0) 0) 0 ≤ most
    pub to_other : (P : ℕ) → Holds (has set P)
        → ((P ≡ get_or processors (get_or from k 0) 0) × (entry costs (get_or processors (get_or from k 0) 0) P ≡ 0) → ⊥)
        → get_or counts k 0 * get_or nearest (get_or processors (get_or from k 0) 0) 0
        ≤ message_at durations from counts costs starts processors P k

-- what the walks from each task take, before an edge was looked at: 0 where no tick before its start is short, else what none passes
pub record Unwalked (idle sums : List ℕ) : Type 0 where
  pub has_sums : length sums ≡ 256
  pub none_short : (T : ℕ) → T < 256 → get_or idle T 0 ≡ 0 → get_or sums T 0 ≡ 0
  pub short : (T : ℕ) → T < 256 → 0 < get_or idle T 0 → get_or sums T 0 ≡ most_chain

-- the least that a walk from each task takes, which goes back along one of the first l edges through a processor that serves
module _ (durations from to counts : List ℕ) (costs : List (List ℕ)) (starts processors latest idle : List ℕ) where
  -- a move back from task T: the place of its edge, and its processor
  pub record Move (l T : ℕ) (move : ℕ × ℕ) : Type 0 where
    pub below : move.0 < l
    pub is_into : get_or to move.0 0 ≡ T
    pub serves : Served (get_or idle T 0) (get_or latest T 0) (λ P. reach_at durations from counts costs starts processors P move.0) move.1

  -- what it takes, and what the walks from the task that it goes to take
  unfoldable pub sum_by_move : List ℕ → ℕ × ℕ → ℕ
  sum_by_move sums move = message_at durations from counts costs starts processors move.1 move.0 + get_or sums (get_or from move.0 0) 0

  pub record LeastSums (l : ℕ) (sums : List ℕ) : Type 0 where
    pub has_sums : length sums ≡ 256
    pub none_short : (T : ℕ) → T < 256 → get_or idle T 0 ≡ 0 → get_or sums T 0 ≡ 0
    pub short : (T : ℕ) → T < 256 → 0 < get_or idle T 0 → SmallestOf (Move l T) (sum_by_move sums) most_chain (get_or sums T 0)

-- r is the smallest sum of the tasks that finish last
pub record LeastOfLast (m : ℕ) (finish sums : ℕ → ℕ) (r : ℕ) : Type 0 where
  pub to_each : (T : ℕ) → T < m → finish T ≡ most m finish → r ≤ sums T
  pub is_one : 0 < m → (T : ℕ) × (T < m) × (finish T ≡ most m finish) × (r ≡ sums T)

-- ---- the dearest chain

-- the greatest cost between two of the first n processors
unfoldable pub greatest_in : List (List ℕ) → ℕ → ℕ
greatest_in costs n = most n (λ p. most n (λ q. entry costs p q))

-- what a chain takes whose last edge is edge k, by what the chains to its predecessor take
unfoldable pub chain_by : List ℕ → List ℕ → ℕ → (ℕ → ℕ) → ℕ → ℕ
chain_by from counts cost sums k = sums (get_or from k 0) + get_or counts k 0 * cost

-- what the dearest chain of at most j edges to task T takes, of the first l edges
unfoldable pub chain_to : List ℕ → List ℕ → List ℕ → ℕ → ℕ → ℕ → ℕ → ℕ
chain_to from to counts l cost zero T = 0
chain_to from to counts l cost (suc j) T =
    most l (λ k. pick (eqb (get_or to k 0) T) (chain_by from counts cost (chain_to from to counts l cost j) k) 0)

-- the dearest chain of the first l edges: one to a task below 256 has at most 255
unfoldable pub dearest_in : List ℕ → List ℕ → List ℕ → ℕ → ℕ → ℕ
dearest_in from to counts l cost = most l (chain_by from counts cost (chain_to from to counts l cost 256))

-- ---- a plan in arrays

-- the first m places of `starts` and `processors` hold the planner's schedule
pub record HoldsPlan (I : Instance) (m : ℕ) (starts processors : List ℕ) : Type 0 where
  pub has_starts : m ≤ length starts
  pub has_processors : m ≤ length processors
  pub starts_are : (T : ℕ) → T < m → get_or starts T 0 ≡ start_of I T
  pub processors_are : (T : ℕ) → T < m → get_or processors T 0 ≡ processor_of I T

-- the slices hold the planner's schedule of an instance in arrays, its tasks in this order
pub record HoldsIn (A : InArrays) (starts processors : List ℕ) (order : ℕ → ℕ) : Type 0 where
  pub plannable : Plannable (reordered order A)
  pub plan : HoldsPlan (instance_in (reordered order A)) A.tasks starts processors

-- ---- the same of the structs that the code hands on

-- from when on a processor is busy up to `start`
abbrev pub busy_since : Stretches → ℕ → ℕ → ℕ
busy_since s = busy_from s.until s.since

module _ (x : Timetable) where
  -- no two tasks are at one time on one processor
  abbrev pub ApartIn : Type 0
  ApartIn = Apart x.instance.tasks x.instance.durations.now x.plan.starts.now x.plan.processors.now

  -- the latest short tick before each task that has predecessors, by how many these are
  abbrev pub TicksBy : (ℕ → ℕ) → Ticks → Type 0
  TicksBy predecessors ticks = ShortTicks x.instance.tasks x.instance.durations.now x.plan.starts.now x.plan.processors.now
      x.instance.processors predecessors ticks.latest ticks.idle

  -- the moves back through the processors that `through` has
  abbrev pub StepsBy : (ℕ → ℕ) → Steps → Type 0
  StepsBy through steps = Moves 256 x.instance.edges x.instance.durations.now x.instance.from.now x.instance.to.now x.instance.counts.now
      x.instance.costs.now x.plan.starts.now x.plan.processors.now through steps.back steps.time

  -- what the messages of an edge cost, each
  abbrev pub PricesOf : Prices → ℕ → ℕ → Type 0
  PricesOf prices = Between x.instance.durations.now x.instance.from.now x.instance.counts.now x.instance.costs.now x.plan.starts.now
      x.plan.processors.now prices.most prices.nearest

  -- the least that a walk from each task takes, by the first l edges
  abbrev pub LeastBy : Ticks → ℕ → List ℕ → Type 0
  LeastBy ticks = LeastSums x.instance.durations.now x.instance.from.now x.instance.to.now x.instance.counts.now x.instance.costs.now
      x.plan.starts.now x.plan.processors.now ticks.latest ticks.idle

  -- it is the planner's schedule, the tasks in this order
  abbrev pub PlannedIn : (ℕ → ℕ) → Type 0
  PlannedIn = HoldsIn (in_arrays x.instance) x.plan.starts.now x.plan.processors.now
