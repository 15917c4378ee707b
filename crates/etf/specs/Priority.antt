-- What a priority order does: how a row stands by a relation, and what the planning rule's choice is in terms of it.
use Rattle.std.specs.Prelude.{◌⊎◌, ◌≡◌, List, [], ◌∷◌, ℕ, suc, ◌≤◌, ◌<◌, eqb}
use Rattle.std.proofs.Math.Option.{Option, none, some}
use Rattle.base.specs.Choice.{pick}
use Rattle.base.specs.Lists.{◌∈◌}
use Rattle.etf.specs.Instance.{Instance}
use Rattle.etf.specs.Schedule.{Placement}
use Rattle.etf.specs.Rule.{pairs}

-- each member of a row stands so to every one after it
abbrev pub InOrder : {A : Type 0} → (A → A → Type 0) → List A → Type 0
InOrder Before [] = Unit {0}
InOrder {A} Before (x ∷ l) = ((y : A) → y ∈ l → Before x y) × InOrder Before l

-- the place of task T in a row; the row's length if it is not there
unfoldable pub position : List ℕ → ℕ → ℕ
position [] T = 0
position (S ∷ l) T = pick (eqb S T) 0 (suc (position l T))

-- 02 §6: "greater weight, then lower step number", of any weight
abbrev pub HeavierFirst : (ℕ → ℕ) → ℕ → ℕ → Type 0
HeavierFirst w S T = (w T < w S) ⊎ ((w S ≡ w T) × (S < T))

-- pair u goes before pair v, or is the same: the smaller start; of one start the task that stands `Before` the other; of one task the
-- lower processor
abbrev pub GoesFirst : (ℕ → ℕ → Type 0) → Placement → Placement → Type 0
GoesFirst Before u v =
    (u.start < v.start)
    ⊎ ((u.start ≡ v.start) × (Before u.task v.task ⊎ ((u.task ≡ v.task) × (u.processor ≤ v.processor))))

module _ (I : Instance) (Before : ℕ → ℕ → Type 0) (cm : ℕ) (ps : List Placement) where
  -- of the pairs of a ready task and a free processor u is the first
  pub record FirstPair (u : Placement) : Type 0 where
    pub is-pair : u ∈ pairs I cm ps
    pub first : (v : Placement) → v ∈ pairs I cm ps → GoesFirst Before u v

  -- what the rule chooses: nothing if there is no pair, else the first
  pub data ChoiceIs : Option Placement → Type 0 where
    nothing : ((v : Placement) → v ∈ pairs I cm ps → ⊥) → ChoiceIs none
    chosen : (u : Placement) → FirstPair u → ChoiceIs (some u)
