-- What the private functions promise one another, in terms of the arrays that they are handed.
-- A reader of the public contracts needs nothing of this file.
use Rattle.std.specs.Prelude.{Bool, false, not, ◌&&◌, ◌||◌, ◌≡◌, List, [], ◌∷◌, ℕ, zero, suc, ◌+◌, ◌*◌, ◌-◌, ◌≤◌, ◌<◌, max, min, leb, ltb}
use Rattle.std.specs.Prelude.{eqb, length, get_or, set}
use Rattle.base.specs.Choice.{pick}
use Rattle.base.specs.Lists.{values, upto, filter}
use Rattle.base.specs.Rows.{sum, one_if, most}
use Rattle.etf.specs.Instance.{Instance, tasks}
use Rattle.priority.specs.declared.Ties.{Ties}
use Rattle.priority.specs.Orders.{order_by}
use Rattle.etf.specs.Bounds.{most_message_time, most_finish}
use Rattle.etf.specs.Topology.{entry}
use Rattle.etf.specs.Checker.{latest_start}
use Rattle.schedule.specs.Answers.Checked.{Checked, Refused}
use Rattle.schedule.specs.Answers.Laid.{Laid, Last, Short}
use Rattle.schedule.specs.declared.planner.Pair.{Pair}
use Rattle.schedule.specs.declared.planner.Moment.{Moment}
use Rattle.schedule.specs.declared.planner.Choice.{Choice}
use Rattle.schedule.specs.declared.timetable.Timetable.{Timetable}
use Rattle.schedule.specs.InArrays.{InArrays, reordered, instance_in}
use Rattle.schedule.specs.Call.{Call, called, arrival_places, laid_out_call, is_too_short}
use Rattle.schedule.specs.Plan.{last_of}
use Rattle.schedule.specs.Check.{check_of, checked_as}

-- ---- numbers and tests over a row of places

-- one of f i .. f (i + k - 1) is true
unfoldable pub some_in_places : (ℕ → Bool) → ℕ → ℕ → Bool
some_in_places f i zero = false
some_in_places f i (suc k) = f i || some_in_places f (suc i) k

-- ---- the search for a pair

-- later than every start and every finish
abbrev pub never : ℕ
never = 4294967295

abbrev pub no_pair : Pair
no_pair = record { start = never; task = 0; processor = 0 }

-- the least finish after the clock among the first k processors
unfoldable pub soonest : List ℕ → ℕ → ℕ → ℕ
soonest busy clock zero = never
soonest busy clock (suc k) = pick (leb (get_or busy k 0) clock) (soonest busy clock k) (min (soonest busy clock k) (get_or busy k 0))

-- the first k processors that are free at the clock
unfoldable pub free_among : List ℕ → ℕ → ℕ → List ℕ
free_among busy clock k = filter (λ P. leb (get_or busy P 0) clock) (upto k)

-- what a look over n processors gives: the next moment, and the free processors listed from the front of `free`
pub record Surveyed (busy : List ℕ) (n clock : ℕ) (free : List ℕ) (r : Moment) : Type 0 where
  pub next : r.next ≡ soonest busy clock n
  pub few : r.free ≤ n
  pub listed : values (λ i. get_or free i 0) 0 r.free ≡ free_among busy clock n

-- the pair of task T and the processor P, by the arrivals
unfoldable pub pair_at : ℕ → List ℕ → ℕ → ℕ → Pair
pair_at clock arrivals T P = record { start = max clock (get_or arrivals (16 * T + P) 0); task = T; processor = P }

-- the first of smallest start among b and, after it, a list
unfoldable pub first_best : Pair → List Pair → Pair
first_best b [] = b
first_best b (x ∷ xs) = first_best (pick (ltb x.start b.start) x b) xs

-- task T on each of the first k processors of a list
unfoldable pub row_of : ℕ → List ℕ → List ℕ → ℕ → ℕ → List Pair
row_of clock arrivals free k T = values (λ i. pair_at clock arrivals T (get_or free i 0)) 0 k

-- the same by the arrival at each processor, wherever it is kept
unfoldable pub row_by : ℕ → (ℕ → ℕ) → List ℕ → ℕ → ℕ → List Pair
row_by clock arrival free k T = values
    (λ i. record { start = max clock (arrival (get_or free i 0)); task = T; processor = get_or free i 0 }) 0 k

-- the waiting count of a placed task
abbrev pub placed_mark : ℕ
placed_mark = 65535

-- task T can start: nothing is waited for, and what it waited for has finished
unfoldable pub can_start : ℕ → List ℕ → List ℕ → ℕ → Bool
can_start clock waiting latest T = eqb (get_or waiting T 0) 0 && leb (get_or latest T 0) clock

-- an array of tasks has m places, and each task in them is below 256
pub record OrderIn (m : ℕ) (order : List ℕ) : Type 0 where
  pub places : m ≤ length order
  pub below : (i : ℕ) → i < m → get_or order i 0 < 256

-- the search over k places of the order, from place i on, with b the best so far
unfoldable pub searched : ℕ → List ℕ → List ℕ → (ℕ → ℕ) → (ℕ → List Pair) → ℕ → ℕ → Pair → Pair
searched clock waiting latest order row i zero b = b
searched clock waiting latest order row i (suc k) b =
    searched clock waiting latest order row (suc i) k (pick (can_start clock waiting latest (order i)) (first_best b (row (order i))) b)

-- ---- what the planner keeps

-- what has been sent to the tasks: the arrivals, how many predecessors each task waits for, and when the latest of the others finished
pub record Inbox : Type 0 where
  pub arrivals : List ℕ
  pub waiting : List ℕ
  pub latest : List ℕ

abbrev pub inbox : List ℕ → List ℕ → List ℕ → Inbox
inbox arrivals waiting latest = record { arrivals = arrivals; waiting = waiting; latest = latest }

-- the plan so far, until when each processor is busy, and what has been sent
pub record Tables : Type 0 where
  pub starts : List ℕ
  pub processors : List ℕ
  pub busy : List ℕ
  pub inbox : Inbox

abbrev pub tables : List ℕ → List ℕ → List ℕ → Inbox → Tables
tables starts processors busy sent = record { starts = starts; processors = processors; busy = busy; inbox = sent }

-- task T marked as placed
abbrev pub marked : ℕ → Inbox → Inbox
marked T B = inbox B.arrivals (set B.waiting T placed_mark) B.latest

-- the arrivals of the tasks in a table
abbrev pub table_arrival : List ℕ → ℕ → ℕ → ℕ
table_arrival arrivals T P = get_or arrivals (16 * T + P) 0

-- a look over processors and tasks, by the arrival of each task at each processor: the next moment and, with the free processors listed
-- somewhere, the pair
pub record Looked (clock low m n : ℕ) (order : ℕ → ℕ) (arrival : ℕ → ℕ → ℕ) (waiting latest busy : List ℕ) (r : Choice) : Type 0 where
  pub free : List ℕ
  pub count : ℕ
  pub next : r.next ≡ soonest busy clock n
  pub listed : values (λ i. get_or free i 0) 0 count ≡ free_among busy clock n
  pub found : r.pair ≡ searched clock waiting latest order (λ T. row_by clock (arrival T) free count T) low (m - low) no_pair

-- ---- placing a task

-- the arrivals of task T raised by what one predecessor sends to n processors
pub record Raised (n T finish count : ℕ) (row before after : List ℕ) : Type 0 where
  pub in_row : (P : ℕ) → P < n → get_or after (16 * T + P) 0 ≡ max (get_or before (16 * T + P) 0) (finish + count * get_or row P 0)
  pub left_of : (x : ℕ) → x < 16 * T → get_or after x 0 ≡ get_or before x 0
  pub right_of : (x : ℕ) → 16 * T + n ≤ x → get_or after x 0 ≡ get_or before x 0

-- edge k is one of those from `first` on, and goes to task T
unfoldable pub sent_to : List ℕ → ℕ → ℕ → ℕ → Bool
sent_to to first T k = leb first k && eqb (get_or to k 0) T

-- what sending asks, along the edges `first` to before `last`, of a task that finishes at `finish`; `row` has the costs from its processor
pub record ToSend (first last finish n : ℕ) (row to counts : List ℕ) (B : Inbox) : Type 0 where
  pub rises : first ≤ last
  pub has_to : last ≤ length to
  pub has_counts : last ≤ length counts
  pub few_processors : n ≤ 16
  pub in_time : finish ≤ most_finish
  pub near : (k P : ℕ) → k < last → get_or counts k 0 * get_or row P 0 ≤ most_message_time
  pub enough : (T : ℕ) → sum last (λ k. one_if (sent_to to first T k)) ≤ get_or B.waiting T 0
  pub row_size : length row ≡ 16
  pub arrivals_room : 4096 ≤ length B.arrivals
  pub waiting_size : length B.waiting ≡ 256
  pub latest_size : length B.latest ≡ 256

-- what the inbox is before and after
pub record Sent (first last finish n : ℕ) (row to counts : List ℕ) (B B' : Inbox) : Type 0 where
  pub arrivals_at : (T P : ℕ) → P < n → get_or B'.arrivals (16 * T + P) 0 ≡
      max (get_or B.arrivals (16 * T + P) 0) (most last (λ k. pick (sent_to to first T k) (finish + get_or counts k 0 * get_or row P 0) 0))
  pub arrivals_spare : (T P : ℕ) → n ≤ P → P < 16 → get_or B'.arrivals (16 * T + P) 0 ≡ get_or B.arrivals (16 * T + P) 0
  pub waiting_at : (T : ℕ) → get_or B'.waiting T 0 + sum last (λ k. one_if (sent_to to first T k)) ≡ get_or B.waiting T 0
  pub latest_at : (T : ℕ) → get_or B'.latest T 0 ≡ max (get_or B.latest T 0) (most last (λ k. pick (sent_to to first T k) finish 0))

-- the first place of the order from `low` on, below m, whose task is not marked as placed
pub record Skipped (waiting : List ℕ) (order : ℕ → ℕ) (low m r : ℕ) : Type 0 where
  pub from_low : low ≤ r
  pub to_most : r ≤ m
  pub passed : (i : ℕ) → low ≤ i → i < r → get_or waiting (order i) 0 ≡ placed_mark
  pub left : r < m → get_or waiting (order r) 0 ≡ placed_mark → ⊥

-- what placing a pair asks
pub record ToPlace (pair : Pair) (finish first last low m n : ℕ) (row to counts : List ℕ) (S : Tables) : Type 0 where
  pub has_start : pair.task < length S.starts
  pub has_processor : pair.task < length S.processors
  pub task_below : pair.task < 256
  pub processor_below : pair.processor < 16
  pub low_most : low ≤ m
  pub few_tasks : m ≤ 256
  pub busy_size : length S.busy ≡ 16
  pub sending : ToSend first last finish n row to counts (marked pair.task S.inbox)

-- a pair placed: written down, its edges sent along, and the first place of the order that is left
pub record Placed (pair : Pair) (finish first last low m n : ℕ) (order : ℕ → ℕ) (row to counts : List ℕ)
    (S S' : Tables) (r : ℕ) : Type 0 where
  pub starts_are : S'.starts ≡ set S.starts pair.task pair.start
  pub processors_are : S'.processors ≡ set S.processors pair.task pair.processor
  pub busy_are : S'.busy ≡ set S.busy pair.processor finish
  pub sent : Sent first last finish n row to counts (marked pair.task S.inbox) S'.inbox
  pub skipped : Skipped S'.inbox.waiting order low m r

-- ---- the end

-- when the result of task T is at processor 0, by the arrays; its finish where it has none
unfoldable pub delivered_at : List ℕ → List ℕ → List (List ℕ) → List ℕ → List ℕ → ℕ → ℕ
delivered_at durations results costs starts processors T =
    get_or starts T 0 + get_or durations T 0 + get_or results T 0 * entry costs (get_or processors T 0) 0

-- a schedule of m tasks of which the end can be told: `last` is no earlier than any finish, and no sum passes 32 bits
pub record ToDeliver (m last : ℕ) (durations results : List ℕ) (costs : List (List ℕ)) (starts processors : List ℕ) : Type 0 where
  pub few : m ≤ 256
  pub has_starts : m ≤ length starts
  pub has_processors : m ≤ length processors
  pub on_processor : (T : ℕ) → T < m → get_or processors T 0 < 16
  pub finished : (T : ℕ) → T < m → get_or starts T 0 + get_or durations T 0 ≤ last
  pub in_time : last ≤ most_finish
  pub near : (T : ℕ) → T < m → get_or results T 0 * entry costs (get_or processors T 0) 0 ≤ most_message_time

-- ---- tie rules

-- the instance in arrays, its tasks by a tie rule
abbrev pub tied_by : Ties → InArrays → InArrays
tied_by ties A = reordered (λ i. get_or (order_by ties (instance_in A)) i 0) A

-- ---- the slices

-- the borrowed slices have room, and the arrivals begin with 4,096 zeros
pub record Room (m : ℕ) (starts processors arrivals : List ℕ) : Type 0 where
  pub for_starts : m ≤ length starts
  pub for_processors : m ≤ length processors
  pub for_arrivals : 4096 ≤ length arrivals
  pub zeros : (x : ℕ) → x < 4096 → get_or arrivals x 0 ≡ 0

-- one of three slices of these lengths is too short for m tasks, and so many places of scratch
unfoldable pub short_of : ℕ → ℕ → ℕ → ℕ → ℕ → Bool
short_of places m starts processors scratch = ltb starts m || (ltb processors m || ltb scratch places)

-- the plan of an instance laid out, with its last finish
abbrev pub run_call : Instance → List ℕ → List ℕ → List ℕ → Call ℕ
run_call I = laid_out_call (last_of I) I

-- the plan of an instance laid out, where there is room
unfoldable pub lay_call : Instance → List ℕ → List ℕ → List ℕ → Call Laid
lay_call I starts processors scratch =
    pick (is_too_short arrival_places (tasks I) starts processors scratch)
    (called Short starts processors scratch)
    (laid_out_call (Last (last_of I)) I starts processors scratch)

-- ---- the messages of an edge, in a plan that the arrays hold

module _ (durations from counts : List ℕ) (costs : List (List ℕ)) (starts processors : List ℕ) where
  -- the time of edge k's messages to processor P, and when they are there
  unfoldable pub message_at : ℕ → ℕ → ℕ
  message_at P k = get_or counts k 0 * entry costs (get_or processors (get_or from k 0) 0) P

  unfoldable pub reach_at : ℕ → ℕ → ℕ
  reach_at P k = get_or starts (get_or from k 0) 0 + get_or durations (get_or from k 0) 0 + message_at P k

-- ---- the same of a schedule that has a place for each task

module _ (x : Timetable) where
  -- when task T finishes
  abbrev pub finish_in : ℕ → ℕ
  finish_in T = get_or x.plan.starts.now T 0 + get_or x.instance.durations.now T 0

  -- what edge k's messages take to processor P, and when they are there
  abbrev pub time_to : ℕ → ℕ → ℕ
  time_to = message_at x.instance.durations.now x.instance.from.now x.instance.counts.now x.instance.costs.now x.plan.starts.now
      x.plan.processors.now

  abbrev pub there_at : ℕ → ℕ → ℕ
  there_at = reach_at x.instance.durations.now x.instance.from.now x.instance.counts.now x.instance.costs.now x.plan.starts.now
      x.plan.processors.now

-- ---- the checker, in terms of the arrays

-- 10 or 11 for task T, or 0
unfoldable pub place_trouble : ℕ → List ℕ → List ℕ → ℕ → ℕ
place_trouble n starts processors T = pick (not (ltb (get_or processors T 0) n)) 10 (pick (ltb latest_start (get_or starts T 0)) 11 0)

-- the first trouble of k tasks from task T on, or 0
unfoldable pub place_troubles : ℕ → List ℕ → List ℕ → ℕ → ℕ → ℕ
place_troubles n starts processors T zero = 0
place_troubles n starts processors T (suc k) =
    pick (eqb (place_trouble n starts processors T) 0) (place_troubles n starts processors (suc T) k) (place_trouble n starts processors T)

module _ (durations starts processors : List ℕ) where
  -- tasks T and U overlap on one processor
  unfoldable pub overlap_at : ℕ → ℕ → Bool
  overlap_at T U =
      eqb (get_or processors U 0) (get_or processors T 0)
      && (ltb (get_or starts U 0) (get_or starts T 0 + get_or durations T 0)
      && ltb (get_or starts T 0) (get_or starts U 0 + get_or durations U 0))

  -- task T overlaps a later one
  unfoldable pub overlaps_later : ℕ → ℕ → Bool
  overlaps_later m T = some_in_places (overlap_at T) (suc T) (m - suc T)

  -- the messages of edge k are not there in time
  unfoldable pub early_at : List ℕ → List ℕ → List ℕ → List (List ℕ) → ℕ → Bool
  early_at from to counts costs k =
      ltb (get_or starts (get_or to k 0) 0) (reach_at durations from counts costs starts processors (get_or processors (get_or to k 0) 0) k)

-- the same of a schedule that has a place for each task
module _ (x : Timetable) where
  abbrev pub overlaps_in : ℕ → Bool
  overlaps_in = overlaps_later x.instance.durations.now x.plan.starts.now x.plan.processors.now x.instance.tasks

  abbrev pub early_in : ℕ → Bool
  early_in = early_at x.instance.durations.now x.plan.starts.now x.plan.processors.now x.instance.from.now x.instance.to.now
      x.instance.counts.now x.instance.costs.now

-- ---- the checker's answer

-- what the checker says of the plan in two slices for an instance of m tasks: 9 for a slice too short for them, a rule's number, or a yes
unfoldable pub said : Instance → ℕ → List ℕ → List ℕ → Checked
said I m starts processors =
    pick (ltb (length starts) m || ltb (length processors) m) (Refused 9)
    (checked_as (check_of I (λ T. get_or processors T 0) (λ T. get_or starts T 0)))
