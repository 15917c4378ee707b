-- `planner::try_row`: the loop keeps that the best so far, tried against the processors that are left, gives the answer.
-- Nothing that is left beats a pair that starts at the clock.
use mathlib.Core.Path.{◌≡◌, ◌∙◌}
use mathlib.Core.List.{List}
use Prim.Native.Nat.{ℕ, ◌+◌, ◌-◌, ◌≤◌, ◌<◌, max}
use native.Mathlib.Nat.{sub-zero}
use native.Mathlib.Numerals.{add-one}
use native.Mathlib.Omega.{arith}
use borrow.Author.Tests.{lt-ltb, le-ltb}
use lib.Dec.{ltb}
use lib.ListN.{length, get_or}
use Rattle.base.specs.Choice.{pick}
use Rattle.base.specs.Lists.{values}
use Rattle.base.specs.Laws.Values.{for_values, values_front, values_none}
use Rattle.schedule.specs.declared.planner.Pair.{Pair}
use Rattle.schedule.specs.Pass.{first_best, row_by}
use Rattle.schedule.specs.Laws.Planner.SearchSteps.{first_best_stays}
use Rattle.schedule.proofs.planner.try_row.Given as goal

abbrev pub pair : ℕ → ℕ → ℕ → Pair
pair s t p = record { start = s; task = t; processor = p }

module _ (clock : ℕ) (at : ℕ → ℕ) (free : List ℕ) (count task : ℕ) where
  -- the pair with processor P
  abbrev pub on : ℕ → Pair
  on P = pair (max clock (at P)) task P

  -- the pairs with the processors from place i on
  unfoldable pub rest : ℕ → List Pair
  rest i = values (λ j. on (get_or free j 0)) i (count - i)

  pub whole : rest 0 ≡ row_by clock at free count task
  unfolding rest row_by
  whole = rw (sub-zero count)

  pub ended : (b : Pair) (i : ℕ) → count ≤ i → first_best b (rest i) ≡ b
  unfolding rest first_best
  ended b i h = rw (values_none (λ j. on (get_or free j 0)) i count h)

  module _ (i p : ℕ) (pi : p ≡ get_or free i 0) (h : i < count) where
    -- when what the task waits for is at processor p
    abbrev pub arrival : ℕ
    arrival = at p

    pub at_clock : arrival ≤ clock → on (get_or free i 0) ≡ pair clock task p
    at_clock k = let e : max clock arrival ≡ clock = omega arith in rw (← pi, e)

    pub after_clock : clock < arrival → on (get_or free i 0) ≡ pair arrival task p
    after_clock k = let e : max clock arrival ≡ arrival = omega arith in rw (← pi, e)

    -- one pair, and the others
    pub next : (b x : Pair) → on (get_or free i 0) ≡ x →
        first_best b (rest i) ≡ first_best (pick (ltb x.start b.start) x b) (rest (i + 1))
    unfolding rest first_best
    next b x e = rw (values_front (λ j. on (get_or free j 0)) i count h, add-one, e)

    pub early : (b : Pair) → clock < b.start → arrival ≤ clock → first_best b (rest i) ≡ pair clock task p
    unfolding rest
    early b l k =
        next b _ (at_clock k) ∙ rw (lt-ltb clock b.start l)
        (first_best_stays (pair clock task p) (rest (i + 1))
        (for_values (λ j. on (get_or free j 0)) (λ x. clock ≤ x.start) (i + 1) (count - (i + 1))
        (λ n u v. omega arith)))

    -- a turn: with the best so far b, and the answer r
    module _ (b b' r : Pair) (l : clock < b.start) (e : first_best b (rest i) ≡ r) (k : clock < arrival) where
      pub sooner : arrival < b.start → b' ≡ pair arrival task p
          → (clock < b'.start) × (first_best b' (rest (i + 1)) ≡ r)
      sooner s q = rw q (k, rw (next b _ (after_clock k), lt-ltb arrival b.start s) at e)

      pub later : b.start ≤ arrival → b' ≡ b
          → (clock < b'.start) × (first_best b' (rest (i + 1)) ≡ r)
      later s q = rw q (l, rw (next b _ (after_clock k), le-ltb arrival b.start s) at e)

abbrev pub invariant-loop-p : goal.invariant-loop-p
invariant-loop-p l = (l.clock < l.best.start)
    × (first_best l.best (rest l.clock (λ P. get_or l.row P 0) l.free (length l.free) l.task l.p-index)
    ≡ first_best l.initial.best (row_by l.clock (λ P. get_or l.row P 0) l.free (length l.free) l.task))
