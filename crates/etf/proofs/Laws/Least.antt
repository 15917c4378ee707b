-- The least sum from a task: a walk has it and none has a smaller one, by induction on the moves allowed; so their number does not matter.
use Rattle.std.specs.Prelude.{◌≡◌}
use Rattle.std.proofs.Math.Path.{refl, subst}
use Rattle.std.proofs.Common.{sym}
use mathlib.Core.List.{List, [], ◌∷◌}
use Prim.Native.Nat.{ℕ, zero, suc, ◌+◌, ◌≤◌, ◌<◌}
use native.Mathlib.Omega.{arith}
use Rattle.base.specs.Lists.{◌∈◌, smallest}
use Rattle.etf.specs.Instance.{Instance, WellFormed, tasks}
use Rattle.etf.specs.Schedule.{Placement, message_time_to}
use Rattle.etf.specs.Rule.{planned}
use Rattle.etf.specs.Cover.{Back, Walk, stops, goes, FinishesLast}
use Rattle.base.specs.Laws.Lists.{in_nothing, smallest_le, smallest_at}
use Rattle.etf.proofs.Laws.Walk.{source}
use Rattle.etf.proofs.Laws.Planned.{last_task_lem}
use Rattle.etf.specs.Least.{moves, least_from, last_tasks, least}
use Rattle.etf.proofs.Laws.Moves.{moves_in, moves_of, moves_none, last_in, last_of, stops_only}

-- what a move adds, and what f has of the task that it goes to
abbrev pub by_move : Instance → List Placement → (ℕ → ℕ) → Back → ℕ
by_move I ps f b = message_time_to I ps b.through b.edge + f b.edge.from

module _ (I : Instance) (W : WellFormed I) where
  -- the planner's schedule
  abbrev ps : List Placement
  ps = planned I

  -- a walk has the least sum
  pub least_walk : (k T : ℕ) → T < k → T < tasks I → Walk I ps T (least_from I ps k T)
  unfolding least_from smallest
  least_walk zero T h b = absurd (omega arith)
  least_walk (suc k) T h b = go (moves I ps T) refl (λ x y z. least_walk k x y z)
    where
      go : (l : List Back) → moves I ps T ≡ l → ((x : ℕ) → x < k → x < tasks I → Walk I ps x (least_from I ps k x))
          → Walk I ps T (smallest (by_move I ps (least_from I ps k)) l)
      go [] e r = stops T (stops_only I W T b e)
      go (x ∷ l) e r =
          let z = smallest_at (by_move I ps (least_from I ps k)) x l in
          let v = z.0 in
          let s = moves_of I ps T v (subst (λ q. v ∈ q) (sym e) z.1) in
          let f = source I W T v.edge s.is_into in
          subst (Walk I ps T) (sym z.2) (goes T v (least_from I ps k v.edge.from) s (r v.edge.from (omega arith) f.1))

  -- and none has a smaller one
  pub least_low : (k T C : ℕ) → T < k → Walk I ps T C → least_from I ps k T ≤ C
  unfolding least_from smallest
  least_low zero T C h w = absurd (omega arith)
  least_low (suc k) T C h (stops _ z) = rw (moves_none I ps T z) (omega arith)
  least_low (suc k) T C h (goes _ b D s w) =
      omega (
        arith,
        smallest_le (by_move I ps (least_from I ps k)) (moves I ps T) b (moves_in I ps T b s),
        least_low k b.edge.from D (omega (arith, source I W T b.edge s.is_into)) w,
      )

  -- any number of moves above T gives the same
  pub least_enough : (k j T : ℕ) → T < k → T < j → T < tasks I → least_from I ps k T ≡ least_from I ps j T
  least_enough k j T h i b =
      omega (
        arith,
        least_low k T (least_from I ps j T) h (least_walk j T i b),
        least_low j T (least_from I ps k T) i (least_walk k T h b),
      )

  -- ---- over the tasks that finish last

  -- one of their walks has the least
  pub least_begun : (T : ℕ) × FinishesLast I ps T × Walk I ps T (least I)
  unfolding least
  least_begun = go (last_tasks I ps) refl
    where
      go : (l : List ℕ) → last_tasks I ps ≡ l → (T : ℕ) × FinishesLast I ps T × Walk I ps T (smallest (least_from I ps (tasks I)) l)
      go [] e = let t = last_task_lem I W in absurd (in_nothing (subst (λ q. t.0 ∈ q) e (last_in I ps t.0 t.2)))
      go (x ∷ l) e =
          let z = smallest_at (least_from I ps (tasks I)) x l in
          let f = last_of I ps z.0 (subst (λ q. z.0 ∈ q) (sym e) z.1) in
          (z.0, f, subst (Walk I ps z.0) (sym z.2) (least_walk (tasks I) z.0 f.below f.below))

  -- and none has less
  pub least_first : (T C : ℕ) → FinishesLast I ps T → Walk I ps T C → least I ≤ C
  unfolding least
  least_first T C f w =
      omega (arith, smallest_le (least_from I ps (tasks I)) (last_tasks I ps) T (last_in I ps T f), least_low (tasks I) T C f.below w)
