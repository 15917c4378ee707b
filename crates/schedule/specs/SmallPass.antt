-- What the parts of the planner that works arrivals out (02 §4) promise one another, in terms of the arrays that they are handed.
-- A reader of the public contracts needs nothing of this file.
-- Of the scratch, place T has the latest finish among the placed predecessors of task T, and place 256 + T the finish of T once placed.
use Rattle.std.specs.Prelude.{◌≡◌, List, [], ℕ, ◌+◌, ◌*◌, ◌≤◌, ◌<◌, max, eqb, length, get_or, set}
use Rattle.base.specs.Choice.{pick}
use Rattle.base.specs.Rows.{sum, one_if, most}
use Rattle.base.specs.Slices.{filled}
use Rattle.graph.specs.Graph.{NextTo}
use Rattle.etf.specs.Instance.{Instance, tasks}
use Rattle.etf.specs.Bounds.{most_message_time, most_finish}
use Rattle.etf.specs.Topology.{entry}
use Rattle.schedule.specs.Answers.Laid.{Laid, Last, Short}
use Rattle.schedule.specs.declared.planner.Pair.{Pair}
use Rattle.schedule.specs.declared.small.Senders.{Senders}
use Rattle.schedule.specs.Call.{Call, called, start_of, processor_of, is_too_short}
use Rattle.schedule.specs.Plan.{last_of}
use Rattle.schedule.specs.Small.{small_places, laid_small}
use Rattle.schedule.specs.Pass.{sent_to, placed_mark, Skipped}

-- ---- an arrival worked out

-- what arrivals are worked out from: the edges, the costs, and what is written down of each placed task
pub record Sources : Type 0 where
  pub edges : ℕ
  pub from : List ℕ
  pub to : List ℕ
  pub counts : List ℕ
  pub costs : List (List ℕ)
  pub processors : List ℕ
  pub scratch : List ℕ

abbrev pub sources : ℕ → List ℕ → List ℕ → List ℕ → List (List ℕ) → List ℕ → List ℕ → Sources
sources edges from to counts costs processors scratch = record {
  edges = edges;
  from = from;
  to = to;
  counts = counts;
  costs = costs;
  processors = processors;
  scratch = scratch;
}

abbrev pub sources_of : Senders → Sources
sources_of x =
    sources x.instance.now.edges x.instance.now.from.now x.instance.now.to.now x.instance.now.counts.now x.instance.now.costs.now
    x.processors.now x.scratch.now

-- edge k can be read, its sender is placed, and no sum passes 32 bits
pub record Known (from counts : List ℕ) (costs : List (List ℕ)) (processors scratch : List ℕ) (k : ℕ) : Type 0 where
  pub has_from : k < length from
  pub has_count : k < length counts
  pub has_processor : get_or from k 0 < length processors
  pub has_finish : 256 + get_or from k 0 < length scratch
  pub on_processor : get_or processors (get_or from k 0) 0 < 16
  pub row_size : length (get_or costs (get_or processors (get_or from k 0) 0) []) ≡ 16
  pub in_time : get_or scratch (256 + get_or from k 0) 0 ≤ most_finish
  pub near : (P : ℕ) → get_or counts k 0 * entry costs (get_or processors (get_or from k 0) 0) P ≤ most_message_time

module _ (S : Sources) where
  -- when the messages of edge k are at processor P
  unfoldable pub sent_at : ℕ → ℕ → ℕ
  sent_at P k =
      get_or S.scratch (256 + get_or S.from k 0) 0
      + get_or S.counts k 0 * entry S.costs (get_or S.processors (get_or S.from k 0) 0) P

  -- the same where edge k goes to task T, and 0 where it does not
  unfoldable pub sent_for : ℕ → ℕ → ℕ → ℕ
  sent_for T P k = pick (eqb (get_or S.to k 0) T) (sent_at P k) 0

  -- the arrival of task T at processor P: over the edges into T
  unfoldable pub worked_out : ℕ → ℕ → ℕ
  worked_out T P = most S.edges (sent_for T P)

  -- the edges into task T can be gone through: the first is edge k, and `next` has the next of each edge
  pub record Walkable (next : List ℕ) (T k : ℕ) : Type 0 where
    pub few_edges : S.edges ≤ 1024
    pub has_next : S.edges ≤ length next
    pub begins : NextTo S.to S.edges T 0 k
    pub goes_on : (i : ℕ) → i < S.edges → NextTo S.to S.edges (get_or S.to i 0) (i + 1) (get_or next i 0)
    pub known : (i : ℕ) → i < S.edges → get_or S.to i 0 ≡ T
        → Known S.from S.counts S.costs S.processors S.scratch i

-- the same of what the functions are handed
abbrev pub KnownBy : Senders → ℕ → Type 0
KnownBy x k = Known x.instance.now.from.now x.instance.now.counts.now x.instance.now.costs.now x.processors.now x.scratch.now k

abbrev pub WalkableBy : Senders → ℕ → Type 0
WalkableBy x T = Walkable (sources_of x) x.next.now T (get_or x.first.now T 0)

-- ---- placing a task

-- what telling the successors asks, along the edges `first` to before `last`
pub record ToTell (first last : ℕ) (to waiting scratch : List ℕ) : Type 0 where
  pub rises : first ≤ last
  pub has_to : last ≤ length to
  pub enough : (T : ℕ) → sum last (λ k. one_if (sent_to to first T k)) ≤ get_or waiting T 0
  pub waiting_size : length waiting ≡ 256
  pub scratch_room : 512 ≤ length scratch

-- waiting counts and scratch before and after: each successor waits for one less, and its latest finish is raised
pub record Told (first last finish : ℕ) (to waiting scratch waiting' scratch' : List ℕ) : Type 0 where
  pub waiting_at : (T : ℕ) → get_or waiting' T 0 + sum last (λ k. one_if (sent_to to first T k)) ≡ get_or waiting T 0
  pub latest_at : (T : ℕ) → T < 256
      → get_or scratch' T 0 ≡ max (get_or scratch T 0) (most last (λ k. pick (sent_to to first T k) finish 0))
  pub kept : (x : ℕ) → 256 ≤ x → get_or scratch' x 0 ≡ get_or scratch x 0

-- the plan so far, until when each processor is busy, the waiting counts and the scratch
pub record Sheet : Type 0 where
  pub starts : List ℕ
  pub processors : List ℕ
  pub busy : List ℕ
  pub waiting : List ℕ
  pub scratch : List ℕ

abbrev pub sheet : List ℕ → List ℕ → List ℕ → List ℕ → List ℕ → Sheet
sheet starts processors busy waiting scratch =
    record { starts = starts; processors = processors; busy = busy; waiting = waiting; scratch = scratch }

-- what placing a pair asks
pub record ToEnter (pair : Pair) (first last low m : ℕ) (to : List ℕ) (H : Sheet) : Type 0 where
  pub has_start : pair.task < length H.starts
  pub has_processor : pair.task < length H.processors
  pub task_below : pair.task < 256
  pub processor_below : pair.processor < 16
  pub low_most : low ≤ m
  pub few_tasks : m ≤ 256
  pub busy_size : length H.busy ≡ 16
  pub telling : ToTell first last to (set H.waiting pair.task placed_mark) H.scratch

-- a pair placed: written down, its successors told, and the first place of the order that is left
pub record Entered (pair : Pair) (finish first last low m : ℕ) (order : ℕ → ℕ) (to : List ℕ) (H H' : Sheet) (r : ℕ) : Type 0 where
  pub starts_are : H'.starts ≡ set H.starts pair.task pair.start
  pub processors_are : H'.processors ≡ set H.processors pair.task pair.processor
  pub busy_are : H'.busy ≡ set H.busy pair.processor finish
  pub told : Told first last finish to (set H.waiting pair.task placed_mark) (set H.scratch (256 + pair.task) finish)
      H'.waiting H'.scratch
  pub skipped : Skipped H'.waiting order low m r

-- ---- the slices

-- the borrowed slices have room, and the scratch begins with 512 zeros
pub record SmallRoom (m : ℕ) (starts processors scratch : List ℕ) : Type 0 where
  pub for_starts : m ≤ length starts
  pub for_processors : m ≤ length processors
  pub for_scratch : 512 ≤ length scratch
  pub zeros : (x : ℕ) → x < 512 → get_or scratch x 0 ≡ 0

-- the plan of an instance in the slices, with its last finish; the scratch past 512 is as it was
pub record SmallRun (I : Instance) (starts processors scratch : List ℕ) (r : ℕ) (starts' processors' scratch' : List ℕ) : Type 0 where
  pub last_is : r ≡ last_of I
  pub starts_are : starts' ≡ filled (start_of I) (tasks I) starts
  pub processors_are : processors' ≡ filled (processor_of I) (tasks I) processors
  pub rest : (x : ℕ) → 512 ≤ x → get_or scratch' x 0 ≡ get_or scratch x 0

-- the plan of an instance laid out with a small scratch, where there is room
unfoldable pub lay_small : Instance → List ℕ → List ℕ → List ℕ → Call Laid
lay_small I starts processors scratch =
    pick (is_too_short small_places (tasks I) starts processors scratch)
    (called Short starts processors scratch)
    (laid_small (Last (last_of I)) I starts processors scratch)
