-- The search for a pair: what is tried first and what is left, and that a pair which nothing beats stays. By induction on what is left.
-- A loop keeps that the search over the places that are left, from the best so far, gives the answer.
use Rattle.std.specs.Prelude.{Bool, ◌≡◌, List, [], ◌∷◌, length, get_or, take}
use Rattle.std.proofs.Math.Bool.{true, false}
use Rattle.std.proofs.Math.Dec.{leb, eqb, le→leb, T as Holds}
use Rattle.std.proofs.Math.Path.{refl, sym}
use Rattle.std.proofs.Common.{subst, ◌∙◌, length-take-le, get_or-take}
use Prim.Native.Nat.{ℕ, zero, suc, ◌+◌, ◌-◌, ◌≤◌, ◌<◌}
use Rattle.std.proofs.Math.Numerals.{add-one}
use native.Mathlib.Omega.{arith}
use borrow.Author.Tests.{le-ltb, le-leb, lt-leb, eq-eqb, ne_eqb}
use Rattle.base.specs.Choice.{pick}
use Rattle.base.specs.Lists.{values, ◌∈◌, here, there, upto}
use Rattle.base.specs.Laws.Tests.{both, eq→eqb}
use Rattle.base.specs.Laws.Lists.{upto_of, filter_of}
use Rattle.base.specs.Laws.Values.{for_values, value_in, values_same}
use Rattle.schedule.specs.declared.planner.Moment.{Moment}
use Rattle.schedule.specs.declared.planner.Pair.{Pair}
use Rattle.schedule.specs.Pass.{Surveyed, free_among, first_best, row_by, can_start, searched}

-- ---- the first of smallest start

-- nothing beats b
pub first_best_stays : (b : Pair) (l : List Pair) → ((x : Pair) → x ∈ l → b.start ≤ x.start) → first_best b l ≡ b
unfolding first_best
first_best_stays b [] h = refl
first_best_stays b (x ∷ xs) h = simp (le-ltb _ _ (h x (here refl))) (first_best_stays b xs (λ y k. h y (there k)))

-- the free processors that are listed are among the n that were looked over
pub listed_below : (busy : List ℕ) (n clock : ℕ) (free : List ℕ) (k : ℕ) → values (λ i. get_or free i 0) 0 k ≡ free_among busy clock n
    → (i : ℕ) → i < k → get_or free i 0 < n
unfolding free_among
listed_below busy n clock free k listed i h =
    let a = subst (λ (fs : List ℕ). get_or free i 0 ∈ fs) listed (value_in (λ x. get_or free x 0) k i h) in
    upto_of n (get_or free i 0) (filter_of _ (upto n) (get_or free i 0) a).0

pub free_below : (busy : List ℕ) (n clock : ℕ) (free : List ℕ) (r : Moment) → Surveyed busy n clock free r
    → (i : ℕ) → i < r.free → get_or free i 0 < n
free_below busy n clock free r s = listed_below busy n clock free r.free s.listed

-- the free processors by themselves, cut off the places that they were listed in
pub record Freed (busy : List ℕ) (n clock : ℕ) (free : List ℕ) : Type 0 where
  pub listed : values (λ i. get_or free i 0) 0 (length free) ≡ free_among busy clock n
  pub below : (i : ℕ) → i < length free → get_or free i 0 < n

pub freed : {busy : List ℕ} {n clock : ℕ} {free : List ℕ} {r : Moment} → Surveyed busy n clock free r → r.free ≤ length free
    → Freed busy n clock (take r.free free)
freed {busy} {n} {clock} {free} {r} s h = record {
  listed =
      rw size
      (values_same (λ i. get_or (take r.free free) i 0) (λ i. get_or free i 0) 0 r.free
      (λ i a b. get_or-take r.free free i 0 (omega arith)) ∙ s.listed);
  below = λ i b. let k : i < r.free = omega (arith, size) in rw (get_or-take r.free free i 0 k) (free_below busy n clock free r s i k);
}
  where
    size : length (take r.free free) ≡ r.free
    size = length-take-le r.free free h

-- ---- rows by the arrival at each processor

-- the same arrivals, the same row
pub row_by_same : (clock : ℕ) (f g : ℕ → ℕ) (free : List ℕ) (k T : ℕ) → ((i : ℕ) → i < k → f (get_or free i 0) ≡ g (get_or free i 0))
    → row_by clock f free k T ≡ row_by clock g free k T
unfolding row_by
row_by_same clock f g free k T h = values_same _ _ 0 k (λ i p q. rw (h i (omega arith)))

-- no pair starts before the clock
pub row_by_late : (clock : ℕ) (f : ℕ → ℕ) (free : List ℕ) (k T : ℕ) (x : Pair) → x ∈ row_by clock f free k T → clock ≤ x.start
unfolding row_by
row_by_late clock f free k T = for_values _ (λ x. clock ≤ x.start) 0 k (λ n p q. omega arith)

-- with no free processor there is no pair
pub row_by_none : (clock : ℕ) (f : ℕ → ℕ) (free : List ℕ) (k T : ℕ) (x : Pair) → x ∈ row_by clock f free k T → k ≡ 0 → ⊥
unfolding row_by
row_by_none clock f free k T x h e = for_values _ (λ x. ⊥) 0 k (λ n p q. absurd (omega arith)) x h

-- ---- the search

module _ (clock : ℕ) (waiting latest : List ℕ) (order : ℕ → ℕ) (row : ℕ → List Pair) where
  -- what is left of a search
  abbrev search : ℕ → ℕ → Pair → Pair
  search = searched clock waiting latest order row

  -- nothing beats b
  pub search_stays : (i k : ℕ) (b : Pair) → ((U : ℕ) (x : Pair) → x ∈ row U → b.start ≤ x.start) → search i k b ≡ b
  unfolding searched
  search_stays i zero b h = refl
  search_stays i (suc k) b h =
      go (can_start clock waiting latest (order i)) (first_best_stays b (row (order i)) (h (order i))) (search_stays (suc i) k b h)
    where
      go : (t : Bool) → first_best b (row (order i)) ≡ b → search (suc i) k b ≡ b
          → search (suc i) k (pick t (first_best b (row (order i))) b) ≡ b
      go true e r = rw e r
      go false e r = r

  -- the places from i to before n: the first of them, and the others
  pub search_front : (i n : ℕ) (b : Pair) → i < n
      → search i (n - i) b ≡ search (suc i) (n - suc i) (pick (can_start clock waiting latest (order i)) (first_best b (row (order i))) b)
  unfolding searched
  search_front i n b h = let e : n - i ≡ suc (n - suc i) = omega arith in rw e

  pub search_none : (i n : ℕ) (b : Pair) → n ≤ i → search i (n - i) b ≡ b
  unfolding searched
  search_none i n b h = let e : n - i ≡ 0 = omega arith in rw e

-- a task that waits for nothing, and what it waited for has finished
pub starts_now : (clock : ℕ) (waiting latest : List ℕ) (T : ℕ) → get_or waiting T 0 ≡ 0 → get_or latest T 0 ≤ clock
    → Holds (can_start clock waiting latest T)
unfolding can_start
starts_now clock waiting latest T w l =
    both (eqb (get_or waiting T 0) 0) (leb (get_or latest T 0) clock) (eq→eqb _ _ w) (le→leb _ _ l)

-- ---- a search that goes on place by place, over any rows

module _ (clock : ℕ) (waiting latest : List ℕ) (order : ℕ → ℕ) (row : ℕ → List Pair) where
  -- the search over the places of the order from place t to before place n
  unfoldable pub search_from : ℕ → ℕ → Pair → Pair
  search_from n t b = searched clock waiting latest order row t (n - t) b

  -- where there is no pair, the one to begin with stays
  pub from_none : ((U : ℕ) (x : Pair) → x ∈ row U → ⊥) → (t k : ℕ) (b : Pair) → b ≡ searched clock waiting latest order row t k b
  from_none h t k b = sym (search_stays clock waiting latest order row t k b (λ U x q. absurd (h U x q)))

  pub from_ended : (n t : ℕ) (b : Pair) → n ≤ t → search_from n t b ≡ b
  unfolding search_from
  from_ended n t b h = search_none clock waiting latest order row t n b h

  -- the invariant of a pair that is b
  pub from_same : (n t : ℕ) (b b' r : Pair) → b' ≡ b → clock < b.start → search_from n (t + 1) b ≡ r →
      (clock < b'.start) × (search_from n (t + 1) b' ≡ r)
  from_same n t b b' r q l e = rw q (l, e)

  -- a turn: with the best so far b, and the answer r
  module _ (n t : ℕ) (b r : Pair) (h : t < n) (e : search_from n t b ≡ r) where
    pub from_waits : (get_or waiting (order t) 0 ≡ 0 → ⊥) → search_from n (t + 1) b ≡ r
    unfolding search_from can_start
    from_waits w = rw add-one (simp (ne_eqb _ _ w) at (sym (search_front clock waiting latest order row t n b h)) ∙ e)

    module _ (w : get_or waiting (order t) 0 ≡ 0) where
      pub from_unfinished : clock < get_or latest (order t) 0 → search_from n (t + 1) b ≡ r
      unfolding search_from can_start
      from_unfinished l =
          rw add-one (simp (eq-eqb _ _ w, lt-leb _ _ l) at (sym (search_front clock waiting latest order row t n b h)) ∙ e)

      module _ (l : get_or latest (order t) 0 ≤ clock) (x : Pair) (xi : x ≡ first_best b (row (order t))) where
        pub from_tried : search_from n (t + 1) x ≡ r
        unfolding search_from can_start
        from_tried =
            rw (xi, add-one) (simp (eq-eqb _ _ w, le-leb _ _ l) at (sym (search_front clock waiting latest order row t n b h)) ∙ e)

        -- nothing beats a pair that starts at the clock, where no pair starts before it
        pub from_stopped : ((U : ℕ) (x : Pair) → x ∈ row U → clock ≤ x.start) → x.start ≤ clock → x ≡ r
        unfolding search_from
        from_stopped late s =
            sym (search_stays clock waiting latest order row (t + 1) (n - (t + 1)) x (λ U y k. omega (arith, late U y k))) ∙ from_tried
