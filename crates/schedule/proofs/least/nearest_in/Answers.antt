-- `least::nearest_in`: before place q the least is no more than what each place below q has, but for p.
use mathlib.Core.Path.{◌≡◌}
use mathlib.Core.Logic.{◌⊎◌, inl, inr}
use mathlib.Core.List.{List}
use Prim.Native.Nat.{ℕ, ◌+◌, ◌≤◌, ◌<◌}
use native.Mathlib.Omega.{arith}
use lib.ListN.{get_or}
use Rattle.base.specs.Laws.Tests.{same_or_not}
use Rattle.schedule.specs.CoverPass.{NoMore}
use Rattle.schedule.proofs.least.nearest_in.Goals as goal
use Rattle.schedule.proofs.least.nearest_in.Goals.{then-q-p, else-q-p+else-cost-ne0}

-- one place more
module _ {row : List ℕ} {q p most least least' : ℕ} (N : NoMore row q p most least) where
  one_more : least' ≤ least → (((q ≡ p) × (get_or row q 0 ≡ 0) → ⊥) → least' ≤ get_or row q 0) → NoMore row (q + 1) p most least'
  one_more h k = record {
    to_most = omega (arith, N.to_most);
    to_each = λ i b d. each i b d (same_or_not i q);
  }
    where
      each : (i : ℕ) → i < q + 1 → ((i ≡ p) × (get_or row i 0 ≡ 0) → ⊥) → (i ≡ q) ⊎ (i ≡ q → ⊥) → least' ≤ get_or row i 0
      each i b d (inl e) = rw e (k (rw e at d))
      each i b d (inr n) = omega (arith, N.to_each i (omega arith) d)

pub loop-q-preserved : goal.loop-q-preserved
loop-q-preserved c =
    let v = c.loop-q.invariant in
    (elim c.if-q-p.branch [
      | then-q-p w ↦ one_more v (omega (arith, w.min-least.ensures, w.least-is)) (λ d. omega (arith, w.min-least.ensures, w.least-is))
      | else-q-p+else-cost-ne0 w ↦ one_more v (omega (arith, w.least-is))
          (λ d. absurd (d (omega (arith, w.if-q-p.false), omega (arith, w.if-cost-ne0.false))))
    ])
