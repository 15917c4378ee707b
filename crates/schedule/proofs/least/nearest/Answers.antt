-- `least::nearest`: before row p the rows below p have their least; each turn stores one.
use mathlib.Core.Path.{◌≡◌, refl, ◌∙◌}
use mathlib.Core.Logic.{◌⊎◌, inl, inr}
use mathlib.Core.List.{List, []}
use Prim.Native.Nat.{ℕ, ◌+◌, ◌<◌}
use native.Mathlib.Omega.{arith}
use lib.ListN.{length, get_or}
use Rattle.base.specs.Laws.Tests.{same_or_not}
use Rattle.schedule.specs.CoverPass.{NoMore, Nearest}
use Rattle.schedule.specs.Laws.Rows.Entry.{Entry, stored}
use Rattle.schedule.proofs.least.nearest.Goals as goal

-- one row more
one_more : {costs : List (List ℕ)} {n most p r : ℕ} {least after : List ℕ} → Nearest costs n most p least → Entry p r least after
    → NoMore (get_or costs p []) n p most r → Nearest costs n most (p + 1) after
one_more {costs} {n} {most} {p} {r} {least} {after} N E M = record {
  has_least = E.size ∙ N.has_least;
  no_more = λ i b. each i b (same_or_not i p);
}
  where
    each : (i : ℕ) → i < p + 1 → (i ≡ p) ⊎ (i ≡ p → ⊥) → NoMore (get_or costs i []) n i most (get_or after i 0)
    each i b (inl e) = rw e (rw E.here M)
    each i b (inr u) = rw (E.elsewhere i u) (N.no_more i (omega arith))

pub loop-p-preserved : goal.loop-p-preserved
loop-p-preserved c =
    let b : c.loop-p.p < length c.loop-p.least = omega (arith, c.loop-p.invariant.has_least, c.args.instance.now.ready.few_processors) in
    one_more c.loop-p.invariant (stored b refl) c.nearest_in.ensures
