-- The cover C (01: "The cover C"): what the messages take along a chain of tasks that covers the idle ticks.
use Rattle.std.specs.Prelude.{Bool, not, ◌&&◌, ◌||◌, ◌≡◌, List, ℕ, zero, suc, ◌+◌, ◌<◌, leb, ltb, eqb}
use Rattle.std.proofs.Math.Option.{Option, none, some, bind}
use Rattle.base.specs.Choice.{pick}
use Rattle.base.specs.Lists.{◌∈◌, upto, any, filter, best}
use Rattle.job.specs.Job.{Edge}
use Rattle.etf.specs.Instance.{Instance, tasks, duration, into}
use Rattle.etf.specs.Schedule.{Placement, placement_of, finish, message_time_to, reach, last_finish}
use Rattle.etf.specs.Rule.{planned}

-- something that starts at s and takes d is running in tick t, from t to t + 1
unfoldable pub running : ℕ → ℕ → ℕ → Bool
running s d t = leb s t && ltb t (s + d)

-- one move of the walk: the edge that it goes back along, and the idle processor that it goes through
pub record Back : Type 0 where
  pub edge : Edge
  pub through : ℕ

module _ (I : Instance) (ps : List Placement) where
  -- processor P runs a task in tick t
  unfoldable pub busy : ℕ → ℕ → Bool
  busy P t = any (λ u. eqb u.processor P && running u.start (duration I u.task) t) ps

  -- the processors that are idle in tick t, lowest first
  unfoldable pub idle : ℕ → List ℕ
  idle t = filter (λ P. not (busy P t)) (upto I.processors)

  -- 01: "A tick t is short if some board runs nothing from t to t + 1"
  unfoldable pub some_idle : ℕ → Bool
  some_idle t = any (λ P. not (busy P t)) (upto I.processors)

  -- the latest short tick before s; none if no tick before s is short
  unfoldable pub latest_idle_tick : ℕ → Option ℕ
  latest_idle_tick zero = none
  latest_idle_tick (suc t) = pick (some_idle t) (some t) (latest_idle_tick t)

  -- ---- any walk (02 §7)

  -- 02 §7: "each idle board at that tick, and each predecessor whose bundle would reach it after that tick, would serve":
  -- what the walk may do at task T; `tick` is the latest short tick before its start
  pub record MayGoBack (T : ℕ) (b : Back) : Type 0 where
    pub tick : ℕ
    pub is_latest : latest_idle_tick (placement_of ps T).start ≡ some tick
    pub is_idle : b.through ∈ idle tick
    pub is_into : b.edge ∈ into I T
    pub reaches_after : tick < reach I ps b.through b.edge

  -- a walk from task T whose message times sum to C; it stops where no tick before the start is short
  pub data Walk : ℕ → ℕ → Type 0 where
    stops : (T : ℕ) → latest_idle_tick (placement_of ps T).start ≡ none → Walk T 0
    goes : (T : ℕ) (b : Back) (C : ℕ) → MayGoBack T b → Walk b.edge.from C → Walk T (message_time_to I ps b.through b.edge + C)

  -- a task that finishes last, by which a walk begins
  pub record FinishesLast (T : ℕ) : Type 0 where
    pub below : T < tasks I
    pub at_last : finish I (placement_of ps T) ≡ last_finish I ps

  -- ---- the walk of document 01

  -- 01: "P the lowest board idle in it"
  unfoldable pub lowest_idle : ℕ → Option ℕ
  lowest_idle t = best ltb (idle t)

  -- edge d is later at processor P than edge e, or as late with a lower predecessor
  unfoldable pub later : ℕ → Edge → Edge → Bool
  later P d e =
      ltb (reach I ps P e) (reach I ps P d) || (eqb (reach I ps P d) (reach I ps P e) && ltb d.from e.from)

  -- 01: "the predecessor with the greatest arrival at P (lowest number on a tie)"
  unfoldable pub latest_into : ℕ → ℕ → Option Edge
  latest_into T P = best (later P) (into I T)

  -- how the walk goes back from task T; none where it stops
  unfoldable pub back : ℕ → Option Back
  back T =
      bind (latest_idle_tick (placement_of ps T).start)
      (λ t. bind (lowest_idle t) (λ P. bind (latest_into T P) (λ e. some (record { edge = e; through = P }))))

  -- what the walk from task T adds to C, in at most k moves (01: "add its bundle time to P, and repeat")
  unfoldable pub walk : ℕ → ℕ → ℕ
  walk zero T = 0
  walk (suc k) T = elim (back T) [ none ↦ 0 | some b ↦ message_time_to I ps b.through b.edge + walk k b.edge.from ]

  -- 01: "the step that finishes last, lowest number on a tie"
  unfoldable pub last_task : Option ℕ
  last_task = best (λ S T. ltb (finish I (placement_of ps T)) (finish I (placement_of ps S))) (upto (tasks I))

-- C of the planner's schedule: the walk from its last task.
-- Edges go from lower to higher tasks, so it goes back fewer than m times (`Walks.antt`).
unfoldable pub cover : Instance → ℕ
cover I = elim (last_task I (planned I)) [ none ↦ 0 | some T ↦ walk I (planned I) (tasks I) T ]
