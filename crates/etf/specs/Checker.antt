-- The checker (01: "The checker" and its part of the refusal table): the rules as relations, and its answer.
use Rattle.std.specs.Prelude.{Bool, not, ◌&&◌, ◌||◌, ◌⊎◌, ◌≡◌, List, [], ◌∷◌, ℕ, ◌+◌, ◌≤◌, ◌<◌, leb, ltb, eqb}
use Rattle.std.proofs.Math.Option.{Option, none, some, or_else}
use Rattle.base.specs.Choice.{pick}
use Rattle.base.specs.Lists.{◌∈◌, any}
use Rattle.job.specs.Job.{Edge}
use Rattle.etf.specs.Instance.{Instance, message_time}
use Rattle.etf.specs.Schedule.{Placement, finish}

-- the greatest start that is taken
abbrev pub latest_start : ℕ
latest_start = 600000000

-- the first answer that f gives on a list
unfoldable pub first_answer : {A : Type 0} → (A → Option ℕ) → List A → Option ℕ
first_answer f [] = none
first_answer f (x ∷ xs) = or_else (f x) (first_answer f xs)

module _ (I : Instance) where
  -- ---- the rules, between the placements of a schedule, whole or begun

  -- one finishes at or before the other's start (01: "Two steps on one board must not overlap (finish equal to start is allowed)")
  abbrev pub Apart : Placement → Placement → Type 0
  Apart u v = (finish I u ≤ v.start) ⊎ (finish I v ≤ u.start)

  -- the messages of edge e, from u's task to v's, are there (01: "the start is at least the predecessor's finish plus bundle time")
  abbrev pub InTime : Edge → Placement → Placement → Type 0
  InTime e u v = finish I u + message_time I e u.processor v.processor ≤ v.start

  -- the placements of a schedule keep the rules among themselves.
  -- A plan that is handed in is a `schedule_of`, which gives each task one placement
  pub record Keeps (ps : List Placement) : Type 0 where
    -- 01: "a board below n and a start of at most 600,000,000"
    pub on_processor : (u : Placement) → u ∈ ps → u.processor < I.processors
    pub not_late : (u : Placement) → u ∈ ps → u.start ≤ latest_start
    pub apart : (u v : Placement) → u ∈ ps → v ∈ ps → ¬ (u.task ≡ v.task) → u.processor ≡ v.processor → Apart u v
    pub in_time : (e : Edge) → e ∈ I.edges → (u v : Placement) → u ∈ ps → v ∈ ps → u.task ≡ e.from → v.task ≡ e.to → InTime e u v

  -- ---- the answer

  -- 01: 10, "board not below n", then 11, "start above 600,000,000", of one task
  unfoldable pub misplaced : Placement → Option ℕ
  misplaced u = pick (not (ltb u.processor I.processors)) (some 10) (pick (ltb latest_start u.start) (some 11) none)

  -- 01: 12, "overlap on a board": two tasks on one processor, neither of which finishes by the other's start
  unfoldable pub overlap : Placement → Placement → Bool
  overlap u v =
      not (eqb u.task v.task)
      && (eqb u.processor v.processor && not (leb (finish I u) v.start || leb (finish I v) u.start))

  -- 01: 13, "start before a bundle is there": of edge e from u's task to v's
  unfoldable pub early : Edge → Placement → Placement → Bool
  early e u v =
      eqb u.task e.from && (eqb v.task e.to && ltb v.start (finish I u + message_time I e u.processor v.processor))

  -- the checker's answer to a schedule listed by task number: none is a yes, else the refusal
  -- (01: "The checker goes on with steps by number (10, then 11), then 12, then 13")
  unfoldable pub check : List Placement → Option ℕ
  check ps =
      or_else (first_answer misplaced ps)
      (pick (any (λ u. any (overlap u) ps) ps) (some 12)
      (pick (any (λ e. any (λ u. any (early e u) ps) ps) I.edges) (some 13)
      none))

-- the conditions of the refusal table (01: "no number comes without its condition")
pub data Because (I : Instance) (ps : List Placement) : ℕ → Type 0 where
  no_processor : (u : Placement) → u ∈ ps → I.processors ≤ u.processor → Because I ps 10
  too_late : (u : Placement) → u ∈ ps → latest_start < u.start → Because I ps 11
  overlaps : (u v : Placement) → u ∈ ps → v ∈ ps → ¬ (u.task ≡ v.task) → u.processor ≡ v.processor
      → v.start < finish I u → u.start < finish I v → Because I ps 12
  too_early : (e : Edge) → e ∈ I.edges → (u v : Placement) → u ∈ ps → v ∈ ps → u.task ≡ e.from → v.task ≡ e.to
      → v.start < finish I u + message_time I e u.processor v.processor → Because I ps 13
