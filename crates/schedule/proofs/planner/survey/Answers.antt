-- `planner::survey`: the loop keeps the next moment and the free processors among those looked at; a turn adds one processor to each.
use mathlib.Core.Path.{◌≡◌, refl, sym, ◌∙◌}
use mathlib.Core.List.{List, [], ◌∷◌, ◌++◌, append-nil}
use Prim.Native.Nat.{ℕ, ◌+◌, ◌≤◌, ◌<◌, min}
use native.Mathlib.Numerals.{add-one}
use native.Mathlib.Omega.{arith}
use borrow.Author.Rules.{rules}
use borrow.Author.Tests.{le-leb, lt-leb}
use lib.Dec.{leb}
use lib.ListN.{length, get_or, set, length-set}
use lib.Seq.{get_or-set_same, get_or-set_other}
use Rattle.base.specs.Lists.{values, upto, filter}
use Rattle.base.specs.Laws.Lists.{filter-append}
use Rattle.base.specs.Laws.Values.{values_more, values_same}
use Rattle.schedule.specs.Pass.{Surveyed, soonest, free_among}
use Rattle.schedule.proofs.planner.survey.Invariants.{Going}
use Rattle.schedule.proofs.planner.survey.Goals as goal
use Rattle.schedule.proofs.planner.survey.Goals.{else-finish-clock, then-finish-clock}

module _ (busy : List ℕ) (clock p : ℕ) where
  free_more : get_or busy p 0 ≤ clock → free_among busy clock (p + 1) ≡ free_among busy clock p ++ (p ∷ [])
  unfolding free_among upto filter
  free_more h = rw add-one (filter-append (λ P. leb (get_or busy P 0) clock) (upto p) (p ∷ []) ∙ simp (le-leb _ _ h))

  free_same : clock < get_or busy p 0 → free_among busy clock (p + 1) ≡ free_among busy clock p
  unfolding free_among upto filter
  free_same h = rw add-one (filter-append (λ P. leb (get_or busy P 0) clock) (upto p) (p ∷ []) ∙ simp (lt-leb _ _ h) (append-nil _))

  soonest_same : get_or busy p 0 ≤ clock → soonest busy clock (p + 1) ≡ soonest busy clock p
  unfolding soonest
  soonest_same h = rw add-one (simp (le-leb _ _ h))

  soonest_more : clock < get_or busy p 0 → soonest busy clock (p + 1) ≡ min (soonest busy clock p) (get_or busy p 0)
  unfolding soonest
  soonest_more h = rw add-one (simp (lt-leb _ _ h))

-- the same of numbers and a list that are these
same : (busy : List ℕ) (n clock p : ℕ) (free free' : List ℕ) (next next' count count' : ℕ) → free' ≡ free → next' ≡ next → count' ≡ count →
    Going busy n clock free next count p → Going busy n clock free' next' count' p
same busy n clock p free free' next next' count count' a b c g = rw (a, b, c) g

begun : (busy : List ℕ) (n clock : ℕ) (free : List ℕ) → length free ≡ 16 → Going busy n clock free 4294967295 0 0
unfolding soonest free_among filter upto values
begun busy n clock free h = record { fewer = omega arith; room = h; soon = refl; listed = refl }

module _ (busy : List ℕ) (n clock : ℕ) (free : List ℕ) (next count p : ℕ) (g : Going busy n clock free next count p) where
  done : p ≡ n → Surveyed busy n clock free (record { next = next; free = count })
  done e = record { next = rw e at g.soon; few = omega (arith, g.fewer); listed = rw e at g.listed }

  module _ (h : p < n) (few : n ≤ 16) where
    idle : get_or busy p 0 ≤ clock → Going busy n clock (set free count p) next (count + 1) (p + 1)
    idle k = record {
      fewer = omega (arith, g.fewer);
      room = length-set free count p ∙ g.room;
      soon = g.soon ∙ sym (soonest_same busy clock p k);
      listed =
          let kept = values_same (λ i. get_or (set free count p) i 0) (λ i. get_or free i 0) 0 count
          (λ i a b. get_or-set_other free count i p 0 (λ e. omega arith)) in
          let new = get_or-set_same free count p 0 (omega (arith, g.room, g.fewer)) in
          values_more (λ i. get_or (set free count p) i 0) count
          ∙ rw (kept, new, g.listed) (sym (free_more busy clock p k));
    }

    runs_on : clock < get_or busy p 0 → Going busy n clock free (min next (get_or busy p 0)) count (p + 1)
    runs_on k = record {
      fewer = omega (arith, g.fewer);
      room = g.room;
      soon = omega (arith, g.soon, soonest_more busy clock p k);
      listed = g.listed ∙ sym (free_same busy clock p k);
    }

pub loop-p-init : goal.loop-p-init
loop-p-init c =
    begun _ _ _ _ (search rules)

pub loop-p-preserved : goal.loop-p-preserved
loop-p-preserved c =
    let g = c.loop-p.invariant in
    (elim c.if-finish-clock.branch [
      | then-finish-clock w ↦
          same _ _ _ _ _ _ _ _ _ _ w.free-is w.next-is w.count-is
          (idle _ _ _ _ _ _ _ g (search rules) (search rules) w.if-finish-clock.true)
      | else-finish-clock w ↦
          same _ _ _ _ _ _ _ _ _ _ w.free-is (w.next-is ∙ w.min-next.ensures) w.count-is
          (runs_on _ _ _ _ _ _ _ g (search rules) (search rules) w.if-finish-clock.false)
    ])

pub returns : goal.returns
returns c =
    done _ _ _ _ _ _ _ c.loop-p.invariant (omega arith)
