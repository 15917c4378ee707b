-- `timing::put_figures` stores the three numbers of an accepted cover call at the front of the output, and else tells its number.
use mathlib.Core.Path.{◌≡◌, refl}
use Rattle.std.specs.Prelude.{Result, Ok}
use Rattle.job.specs.declared.table.Refusal.{Refusal}
use mathlib.Core.List.{List, [], ◌∷◌}
use Prim.Native.Nat.{ℕ, ◌≤◌}
use native.Mathlib.Omega.{arith}
use lib.ListN.{length, set, drop}
use Rattle.schedule.specs.declared.Figures.{Figures}
use Rattle.schedule.specs.Answers.Covered.{as_covered}
use Rattle.timing.specs.Timing.{refusal_in, numbers_in}
use Rattle.timing.proofs.put_figures.Goals as goal

three_places : (l : List ℕ) (x y z : ℕ) → 3 ≤ length l → set (set (set l 0 x) 1 y) 2 z ≡ x ∷ y ∷ z ∷ drop 3 l
three_places [] x y z e = absurd (omega (arith, e))
three_places (a ∷ []) x y z e = absurd (omega (arith, e))
three_places (a ∷ b ∷ []) x y z e = absurd (omega (arith, e))
three_places (a ∷ b ∷ c ∷ l) x y z e = refl

put : (out : List ℕ) {r : Result Figures Refusal} (f : Figures) → 3 ≤ length out → r ≡ Ok f
    → (0 ≡ refusal_in (as_covered r)) × (set (set (set out 0 f.cover) 1 f.least) 2 f.dearest ≡ numbers_in (as_covered r) out)
put out f three h = rw h (refl, three_places out f.cover f.least f.dearest three)

pub returns : goal.returns
returns c = put _ _ c.requires c.in-Ok.is
