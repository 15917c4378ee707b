-- The simulation relation: how the planner's arrays stand to the rule's clock and placements after each round.
use Rattle.std.specs.Prelude.{Bool, not, ◌&&◌, ◌⊎◌, ◌≡◌, List, ℕ, ◌+◌, ◌*◌, ◌≤◌, ◌<◌, eqb, T as Holds, length, get_or}
use Rattle.std.proofs.Math.Option.{Option, none, some}
use Rattle.base.specs.Choice.{pick}
use Rattle.base.specs.Lists.{◌∈◌}
use Rattle.base.specs.Rows.{sum, one_if, most}
use Rattle.job.specs.Write.{edge_held}
use Rattle.etf.specs.Instance.{Instance, tasks}
use Rattle.etf.specs.Schedule.{Placement, placed, placement_of, finish, reach, last_finish}
use Rattle.etf.specs.Rule.{State}
use Rattle.schedule.specs.declared.planner.Pair.{Pair}
use Rattle.schedule.specs.InArrays.{InArrays, instance_in}
use Rattle.schedule.specs.Pass.{never, no_pair, placed_mark, Tables}

-- ---- what the rule gives, as the planner holds it

abbrev pub state : ℕ → List Placement → State
state cm ps = record { clock = cm; placements = ps }

-- the next moment
abbrev pub never_or : Option ℕ → ℕ
never_or none = never
never_or (some x) = x

-- the choice
abbrev pub pair_of : Option Placement → Pair
pair_of none = no_pair
pair_of (some u) = record { start = u.start; task = u.task; processor = u.processor }

-- ---- the arrays

-- edge k goes to task T, from a task that is placed, or from one that is not
abbrev pub sends : List ℕ → List ℕ → List Placement → ℕ → ℕ → Bool
sends from to ps T k = placed ps (get_or from k 0) && eqb (get_or to k 0) T

abbrev pub awaits : List ℕ → List ℕ → List Placement → ℕ → ℕ → Bool
awaits from to ps T k = eqb (get_or to k 0) T && not (placed ps (get_or from k 0))

-- 1 for an edge that T waits for
unfoldable pub awaited : List ℕ → List ℕ → List Placement → ℕ → ℕ → ℕ
awaited from to ps T k = one_if (awaits from to ps T k)

module _ (A : InArrays) where
  abbrev I : Instance
  I = instance_in A

  -- of an edge that a placed task sends along to T: when its messages reach P, and when that task finishes; of another 0
  unfoldable pub reached : List Placement → ℕ → ℕ → ℕ → ℕ
  reached ps T P k = pick (sends A.from A.to ps T k) (reach I ps P (edge_held A.from A.to A.counts k)) 0

  unfoldable pub finished_by : List Placement → ℕ → ℕ → ℕ
  finished_by ps T k = pick (sends A.from A.to ps T k) (finish I (placement_of ps (get_or A.from k 0))) 0

  -- the simulation relation: the clock cm and the placements ps of the rule, and the planner's tables, place in the order and last finish
  pub record InStep (cm : ℕ) (ps : List Placement) (S : Tables) (low e : ℕ) : Type 0 where
    -- the starts and processors of the placed tasks
    pub start_at_lem : (T : ℕ) → Holds (placed ps T) → get_or S.starts T 0 ≡ (placement_of ps T).start
    pub processor_at_lem : (T : ℕ) → Holds (placed ps T) → get_or S.processors T 0 ≡ (placement_of ps T).processor
    -- what the placed predecessors have sent
    pub arrival_at : (T P : ℕ) → T < tasks I → P < I.processors
        → get_or S.inbox.arrivals (16 * T + P) 0 ≡ most A.edges (reached ps T P)
    pub latest_at : (T : ℕ) → T < tasks I → get_or S.inbox.latest T 0 ≡ most A.edges (finished_by ps T)
    -- the predecessors that are not placed, or the mark of a placed task
    pub waiting_placed : (T : ℕ) → Holds (placed ps T) → get_or S.inbox.waiting T 0 ≡ placed_mark
    pub waiting_open : (T : ℕ) → T < tasks I → Holds (not (placed ps T))
        → get_or S.inbox.waiting T 0 ≡ sum A.edges (awaited A.from A.to ps T)
    -- the last finish on each processor: every other has passed
    pub busy_last : (u : Placement) → u ∈ ps → (finish I u ≤ cm) ⊎ (finish I u ≡ get_or S.busy u.processor 0)
    pub busy_whose : (P : ℕ) → P < I.processors → (get_or S.busy P 0 ≡ 0)
        ⊎ ((u : Placement) × (u ∈ ps) × (u.processor ≡ P) × (finish I u ≡ get_or S.busy P 0))
    -- the first place of the order whose task is not placed
    pub low_most : low ≤ A.tasks
    pub below_low : (i : ℕ) → i < low → Holds (placed ps (A.order i))
    pub at_low : low < A.tasks → Holds (not (placed ps (A.order low)))
    -- the greatest finish
    pub last_is : e ≡ last_finish I ps

  -- what a round leaves alone: the places past the tasks, and the arrivals where there is no task or no processor
  pub record Untouched (starts₀ processors₀ arrivals₀ starts processors arrivals : List ℕ) : Type 0 where
    pub starts_size : length starts ≡ length starts₀
    pub processors_size : length processors ≡ length processors₀
    pub arrivals_size : length arrivals ≡ length arrivals₀
    pub starts_past : (T : ℕ) → tasks I ≤ T → get_or starts T 0 ≡ get_or starts₀ T 0
    pub processors_past : (T : ℕ) → tasks I ≤ T → get_or processors T 0 ≡ get_or processors₀ T 0
    pub spare_task : (T P : ℕ) → tasks I ≤ T → P < 16 → get_or arrivals (16 * T + P) 0 ≡ get_or arrivals₀ (16 * T + P) 0
    pub spare_processor : (T P : ℕ) → I.processors ≤ P → P < 16 → get_or arrivals (16 * T + P) 0 ≡ get_or arrivals₀ (16 * T + P) 0
