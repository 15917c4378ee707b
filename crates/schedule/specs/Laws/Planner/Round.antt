-- How a round goes, told by the start of the choice and the next moment.
-- The state after it comes from the rule's definition, what is known of that state from the view of a round.
use Rattle.std.specs.Prelude.{◌≡◌, not, List, ◌∷◌, ℕ, ◌≤◌, ◌<◌, leb, T as Holds, length, get_or}
use Rattle.std.proofs.Math.Path.{refl}
use Rattle.std.proofs.Common.{sym, ap, ◌∙◌, subst, arith, le→leb}
use Rattle.std.proofs.Math.Option.{Option, none, some}
use Rattle.std.proofs.Math.Dec.{leb→le}
use Rattle.base.specs.Lists.{◌∈◌}
use Rattle.base.specs.Laws.Tests.{not_both, fails, pick_yes, pick_no}
use Rattle.etf.specs.Instance.{Instance, WellFormed}
use Rattle.etf.specs.Schedule.{Placement, finish}
use Rattle.etf.specs.Rule.{State, at_most, move, settle, next_moment, choice, complete, round}
use Rattle.etf.proofs.Laws.Turn.{NewPlacement, Tick, Turn, rest, put, tick, stuck, turn, Next, endless, at, next_is}
use Rattle.etf.proofs.Laws.Rounds.{none_stuck}
use Rattle.etf.specs.Bounds.{most_finish}
use Rattle.schedule.specs.Pass.{never}
use Rattle.schedule.specs.Laws.Planner.Simulation.{state, never_or, pair_of}

module _ (I : Instance) (W : WellFormed I) (cm : ℕ) (ps : List Placement) (h : Holds (not (complete I ps)))
    (low : (u : Placement) → u ∈ ps → finish I u ≤ most_finish) where
  -- ---- the view of the round, read by its state

  -- a task is left
  open_still : Holds (complete I ps) → ⊥
  open_still c = not_both (complete I ps) h c

  -- a placement more is more
  one_more : (x y : ℕ) (u : Placement) → state x (u ∷ ps) ≡ state y ps → ⊥
  one_more x y u e = absurd (omega (arith, ap (λ (s : State). length s.placements) e))

  put_of : (u : Placement) → round I (state cm ps) ≡ state cm (u ∷ ps) → NewPlacement I cm ps u
  put_of u e = go (round I (state cm ps)) (turn I W cm ps) e
    where
      go : (s : State) → Turn I cm ps s → s ≡ state cm (u ∷ ps) → NewPlacement I cm ps u
      go s (rest c) q = absurd (open_still c)
      go s (put v K) q = subst (NewPlacement I cm ps) (ap (λ (t : State). get_or t.placements 0 u) q) K
      go s (tick x K) q = absurd (one_more cm x u (sym q))
      go s (stuck y z) q = absurd (open_still (none_stuck I W cm ps y z))

  tick_of : (x : ℕ) → round I (state cm ps) ≡ state x ps → Tick I cm ps x
  tick_of x e = go (round I (state cm ps)) (turn I W cm ps) e
    where
      go : (s : State) → Turn I cm ps s → s ≡ state x ps → Tick I cm ps x
      go s (rest c) q = absurd (open_still c)
      go s (put v K) q = absurd (one_more cm x v q)
      go s (tick y K) q = subst (Tick I cm ps) (ap (λ (t : State). t.clock) q) K
      go s (stuck y z) q = absurd (open_still (none_stuck I W cm ps y z))

  -- the round moves or places
  not_still : round I (state cm ps) ≡ state cm ps → ⊥
  not_still e = absurd (omega (arith, (tick_of cm e).ahead))

  -- ---- the round's state, by the rule

  round_is : round I (state cm ps) ≡ settle (state cm ps) (next_moment I cm ps) (choice I cm ps)
  unfolding round
  round_is = pick_no (complete I ps) (state cm ps) (settle (state cm ps) (next_moment I cm ps) (choice I cm ps)) h

  -- a choice that starts no later than the next moment is placed
  pub placing : (pair_of (choice I cm ps)).start ≤ never_or (next_moment I cm ps)
      → (u : Placement) × (pair_of (choice I cm ps) ≡ pair_of (some u)) × (round I (state cm ps) ≡ state cm (u ∷ ps))
      × NewPlacement I cm ps u
  unfolding settle move at_most
  placing p = go (next_moment I cm ps) (next_is I cm ps) (choice I cm ps) round_is p
    where
      go : (nm : Option ℕ) → Next I cm ps nm → (o : Option Placement) → round I (state cm ps) ≡ settle (state cm ps) nm o
          → (pair_of o).start ≤ never_or nm
          → (u : Placement) × (pair_of o ≡ pair_of (some u)) × (round I (state cm ps) ≡ state cm (u ∷ ps)) × NewPlacement I cm ps u
      go nm (endless y) none e q = absurd (not_still e)
      go nm (endless y) (some u) e q = (u, refl, e, put_of u e)
      go nm (at x w a l) none e q = absurd (omega (arith, low w.0 w.1, w.2))
      go nm (at x w a l) (some u) e q =
          let r = e ∙ pick_yes (leb u.start x) (state cm (u ∷ ps)) (state x ps) (le→leb u.start x q) in
          (u, refl, r, put_of u r)

  -- else the clock moves. The choice must start by `never`: where no finish is ahead, one that starts after `never` would be placed
  pub moving : (pair_of (choice I cm ps)).start ≤ never → never_or (next_moment I cm ps) < (pair_of (choice I cm ps)).start
      → (round I (state cm ps) ≡ state (never_or (next_moment I cm ps)) ps) × Tick I cm ps (never_or (next_moment I cm ps))
  unfolding settle move at_most
  moving b p = go (next_moment I cm ps) (next_is I cm ps) (choice I cm ps) round_is b p
    where
      go : (nm : Option ℕ) → Next I cm ps nm → (o : Option Placement) → round I (state cm ps) ≡ settle (state cm ps) nm o
          → (pair_of o).start ≤ never → never_or nm < (pair_of o).start
          → (round I (state cm ps) ≡ state (never_or nm) ps) × Tick I cm ps (never_or nm)
      go nm (endless y) o e m q = absurd (omega arith)
      go nm (at x w a l) none e m q = (e, tick_of x e)
      go nm (at x w a l) (some u) e m q =
          let late = fails (leb u.start x) (λ k. absurd (omega (arith, leb→le u.start x k))) in
          let r = e ∙ pick_no (leb u.start x) (state cm (u ∷ ps)) (state x ps) late in
          (r, tick_of x r)
