-- `least::through`: the processors that are no longer in `rest` were looked at.
-- A turn looks at the lowest of `rest`, and takes it out; none is left to look at where the bound is reached.
use mathlib.Core.Path.{◌≡◌, refl}
use Prim.Native.Nat.{ℕ, ◌<◌}
use native.Mathlib.Omega.{arith}
use borrow.Author.Rules.{rules}
use lib.Count.{count_trailing_zeros}
use Rattle.schedule.proofs.least.through.Invariants.{done, q_small, lower, too_early, turn}
use Rattle.schedule.proofs.least.through.Goals as goal
use Rattle.schedule.proofs.least.through.Goals.{Else-least-bound, then-tick-sent, else-tick-sent}

-- ---- in the loop

module _ (x : Else-least-bound) where
  some_left : 0 < x.loop-rest.rest
  some_left = search rules

  abbrev lowest : ℕ
  lowest = count_trailing_zeros 32 x.loop-rest.rest

  small : lowest < 16
  small = q_small _ _ _ _ _ _ x.loop-rest.invariant some_left

-- ---- the needs
pub bounds-row-q : goal.bounds-row-q
bounds-row-q c = small (goal.at.bounds-row-q c).Else-least-bound

pub loop-rest-preserved : goal.loop-rest-preserved
loop-rest-preserved c =
    let g = c.loop-rest.invariant in
    let n = some_left (goal.at.loop-rest-preserved c).Else-least-bound in
    turn _ _ _ _ _ _ g n
    (elim c.if-tick-sent.branch [
      | then-tick-sent w ↦
          lower _ _ _ _ _ _ g n refl refl (omega (arith, w.if-tick-sent.true)) (omega (arith, w.least-is, w.min-least.ensures))
      | else-tick-sent w ↦ too_early _ _ _ _ _ _ g n refl refl (omega (arith, w.if-tick-sent.false)) w.least-is
    ])

pub returns : goal.returns
returns c = let e : c.loop-rest.rest ≡ 0 = c.loop-rest-test.false in done _ _ _ _ _ _ (rw e at c.loop-rest.invariant)
