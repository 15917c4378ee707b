-- The planner's search from the left, with a best so far, gives the rule's choice, which is a fold from the right.
-- Both take the first pair of smallest start.
use Rattle.std.specs.Prelude.{◌≡◌, Bool, not, ltb, T as Holds}
use Rattle.std.proofs.Math.Path.{refl, sym, ap}
use Rattle.std.proofs.Common.{◌∙◌, subst, zero-add, ltb→lt, lt→ltb, nltb→le}
use Rattle.std.proofs.Math.Bool.{true, false}
use Rattle.std.proofs.Math.Option.{Option, none, some}
use mathlib.Core.List.{List, [], ◌∷◌, ◌++◌, map, flat_map, map-append, map-map}
use Prim.Native.Nat.{ℕ, zero, suc, ◌+◌, ◌*◌, ◌-◌, ◌≤◌, ◌<◌, max}
use native.Mathlib.Omega.{arith}
use Rattle.std.proofs.Math.ListN.{get_or}
use Rattle.base.specs.Choice.{pick}
use Rattle.base.specs.Lists.{values, ◌∈◌, upto, filter, keep, best}
use Rattle.base.specs.Laws.Tests.{fails, pick_yes, pick_no}
use Rattle.base.specs.Laws.Lists.{map_same, filter_of, upto_of, flat_map_of, map_of, Best, nothing, found, best_is, by_least}
use Rattle.base.specs.Laws.Values.{map-values, for_values}
use Rattle.etf.specs.Instance.{Instance, tasks}
use Rattle.etf.specs.Schedule.{Placement, arrival}
use Rattle.etf.specs.Rule.{ready, pair, pairs, choice}
use Rattle.etf.specs.Rule.{free as is_free}
use Rattle.schedule.specs.declared.planner.Pair.{Pair}
use Rattle.schedule.specs.Pass.{never, no_pair, pair_at, first_best, row_of, can_start, searched}
use Rattle.schedule.specs.Laws.Planner.Simulation.{pair_of}

-- a placement, as the planner holds it
abbrev as_pair : Placement → Pair
as_pair u = pair_of (some u)

-- one pair starts sooner than another
abbrev sooner : Placement → Placement → Bool
sooner u v = ltb u.start v.start

-- ---- the best so far

-- b, unless the best of those after it starts sooner
abbrev merge : Pair → Option Placement → Pair
merge b none = b
merge b (some y) = pick (ltb y.start b.start) (as_pair y) b

merge_keep : (b : Pair) (x : Placement) (o : Option Placement)
    → merge (pick (ltb x.start b.start) (as_pair x) b) o ≡ merge b (some (keep sooner x o))
unfolding keep
merge_keep b x none = refl
merge_keep b x (some y) = go (ltb x.start b.start) refl (ltb y.start x.start) refl
  where
    yes : (m n : ℕ) → ltb m n ≡ true → m < n
    yes m n e = ltb→lt m n (subst Holds (sym e) tt)

    not_yes : (m n : ℕ) → ltb m n ≡ false → n ≤ m
    not_yes m n e = nltb→le m n (subst (λ c. Holds (not c)) (sym e) tt)

    go : (p : Bool) → ltb x.start b.start ≡ p → (q : Bool) → ltb y.start x.start ≡ q
        → merge (pick p (as_pair x) b) (some y) ≡ merge b (some (pick q y x))
    go true e true f =
        pick_yes (ltb y.start x.start) (as_pair y) (as_pair x) (subst Holds (sym f) tt)
        ∙ sym (pick_yes (ltb y.start b.start) (as_pair y) b
        (lt→ltb y.start b.start (omega (arith, yes x.start b.start e, yes y.start x.start f))))
    go true e false f =
        pick_no (ltb y.start x.start) (as_pair y) (as_pair x) (subst (λ c. Holds (not c)) (sym f) tt)
        ∙ sym (pick_yes (ltb x.start b.start) (as_pair x) b (subst Holds (sym e) tt))
    go false e true f = refl
    go false e false f =
        let late : b.start ≤ y.start = omega (arith, not_yes x.start b.start e, not_yes y.start x.start f) in
        pick_no (ltb y.start b.start) (as_pair y) b
        (fails (ltb y.start b.start) (λ k. absurd (omega (arith, ltb→lt y.start b.start k))))
        ∙ sym (pick_no (ltb x.start b.start) (as_pair x) b (subst (λ c. Holds (not c)) (sym e) tt))

first_best_is : (b : Pair) (l : List Placement) → first_best b (map as_pair l) ≡ merge b (best sooner l)
unfolding first_best best
first_best_is b [] = refl
first_best_is b (x ∷ xs) = first_best_is (pick (ltb x.start b.start) (as_pair x) b) xs ∙ merge_keep b x (best sooner xs)

first_best_join : (b : Pair) (xs ys : List Pair) → first_best b (xs ++ ys) ≡ first_best (first_best b xs) ys
unfolding first_best
first_best_join b [] ys = refl
first_best_join b (x ∷ xs) ys = first_best_join (pick (ltb x.start b.start) x b) xs ys

-- where each start is below `never`, a search that begins with no pair takes the best
from_none : (l : List Placement) → ((u : Placement) → u ∈ l → u.start < never) → merge no_pair (best sooner l) ≡ pair_of (best sooner l)
from_none l low = go (best sooner l) (best_is sooner (by_least (λ u. u.start)) l)
  where
    go : (o : Option Placement) → Best sooner l o → merge no_pair o ≡ pair_of o
    go o (nothing z) = refl
    go o (found u h le) = pick_yes (ltb u.start never) (as_pair u) no_pair (lt→ltb u.start never (low u h))

-- ---- rows of tasks

-- places below `low`, none of whose tasks passes, add nothing
skip_low : (order : ℕ → ℕ) (r : ℕ → Bool) (low k : ℕ) → ((i : ℕ) → i < low → Holds (not (r (order i))))
    → filter r (values order 0 (low + k)) ≡ filter r (values order low k)
unfolding filter values
skip_low order r zero k h = rw (zero-add k)
skip_low order r (suc low) k h =
    let e : suc low + k ≡ low + suc k = omega arith in
    ap (λ (n : ℕ). filter r (values order 0 n)) e
    ∙ skip_low order r low (suc k) (λ i q. h i (omega arith))
    ∙ pick_no (r (order low)) (order low ∷ filter r (values order (suc low) k)) (filter r (values order (suc low) k)) (h low (omega arith))

-- a search over k places is one pass over the rows of the tasks that can start
module _ (cm : ℕ) (waiting latest : List ℕ) (order : ℕ → ℕ) (row : ℕ → List Pair) (r : ℕ → Bool) (g : ℕ → List Placement) where
  abbrev search : ℕ → ℕ → Pair → Pair
  search = searched cm waiting latest order row

  search_rows : (i k : ℕ) (b : Pair)
      → ((j : ℕ) → j < i + k → can_start cm waiting latest (order j) ≡ r (order j))
      → ((j : ℕ) → j < i + k → Holds (r (order j)) → row (order j) ≡ map as_pair (g (order j)))
      → search i k b ≡ first_best b (map as_pair (flat_map g (filter r (values order i k))))
  unfolding searched first_best flat_map filter values
  search_rows i zero b same rows = refl
  search_rows i (suc k) b same rows =
      rw (same i (omega arith)) (go (r (order i)) (rows i (omega arith)) (filter r (values order (suc i) k))
      (λ c. search_rows (suc i) k c (λ j h. same j (omega arith)) (λ j h. rows j (omega arith))))
    where
      go : (p : Bool) → (Holds p → row (order i) ≡ map as_pair (g (order i))) → (l : List ℕ)
          → ((c : Pair) → search (suc i) k c ≡ first_best c (map as_pair (flat_map g l)))
          → search (suc i) k (pick p (first_best b (row (order i))) b) ≡ first_best b (map as_pair (flat_map g (pick p (order i ∷ l) l)))
      go true e l next =
          next (first_best b (row (order i)))
          ∙ rw (e tt, map-append as_pair (g (order i)) (flat_map g l))
          (sym (first_best_join b (map as_pair (g (order i))) (map as_pair (flat_map g l))))
      go false e l next = next b

-- ---- the choice

module _ (I : Instance) (cm : ℕ) (ps : List Placement) where
  -- task T on each free processor
  unfoldable row_free : ℕ → List Placement
  row_free T = map (pair I cm ps T) (filter (is_free I cm ps) (upto I.processors))

  row_is : (arrivals free : List ℕ) (k T : ℕ)
      → values (λ i. get_or free i 0) 0 k ≡ filter (is_free I cm ps) (upto I.processors)
      → ((P : ℕ) → P < I.processors → get_or arrivals (16 * T + P) 0 ≡ arrival I ps T P)
      → row_of cm arrivals free k T ≡ map as_pair (row_free T)
  unfolding row_of pair_at pair row_free
  row_is arrivals free k T listed arrived =
      sym (map-values (pair_at cm arrivals T) (λ i. get_or free i 0) 0 k)
      ∙ ap (map (pair_at cm arrivals T)) listed
      ∙ map_same (pair_at cm arrivals T) (λ P. as_pair (pair I cm ps T P)) (filter (is_free I cm ps) (upto I.processors))
      (λ P h. rw (arrived P (upto_of I.processors P (filter_of (is_free I cm ps) (upto I.processors) P h).0)))
      ∙ sym (map-map as_pair (pair I cm ps T) (filter (is_free I cm ps) (upto I.processors)))

  -- of a task that stands in the order, and could start before `never` on each processor where it is ready
  module _ (m : ℕ) (order : ℕ → ℕ) (by : I.order ≡ values order 0 m) (within : (i : ℕ) → i < m → order i < tasks I)
      (soon : (T P : ℕ) → T < tasks I → Holds (ready I cm ps T) → P < I.processors → max cm (arrival I ps T P) < never) where
    -- each pair starts before `never`
    pair_soon : (u : Placement) → u ∈ pairs I cm ps → u.start < never
    unfolding pairs pair
    pair_soon u h =
        let g = flat_map_of (λ T. map (pair I cm ps T) (filter (is_free I cm ps) (upto I.processors)))
        (filter (ready I cm ps) I.order) u h in
        let r = filter_of (ready I cm ps) I.order g.0 g.1 in
        let p = map_of (pair I cm ps g.0) (filter (is_free I cm ps) (upto I.processors)) u g.2 in
        let f = filter_of (is_free I cm ps) (upto I.processors) p.0 p.1 in
        let below = for_values order (λ T. T < tasks I) 0 m (λ i a b. within i (omega arith)) g.0 (subst (λ l. g.0 ∈ l) by r.0) in
        omega (arith, ap (λ (v : Placement). v.start) p.2, soon g.0 p.0 below r.1 (upto_of I.processors p.0 f.0))

    -- and the choice by it
    pub choice_most : (pair_of (choice I cm ps)).start ≤ never
    unfolding choice
    choice_most = go (choice I cm ps) (best_is sooner (by_least (λ u. u.start)) (pairs I cm ps))
      where
        go : (o : Option Placement) → Best sooner (pairs I cm ps) o → (pair_of o).start ≤ never
        go o (nothing z) = omega arith
        go o (found u h le) = omega (arith, pair_soon u h)

    -- the search over the arrays, from a place below which no task is ready, gives the rule's choice
    pub search_is : (waiting latest arrivals free : List ℕ) (k low : ℕ) → low ≤ m
        → ((i : ℕ) → i < low → Holds (not (ready I cm ps (order i))))
        → ((T : ℕ) → T < tasks I → can_start cm waiting latest T ≡ ready I cm ps T)
        → values (λ i. get_or free i 0) 0 k ≡ filter (is_free I cm ps) (upto I.processors)
        → ((T P : ℕ) → T < tasks I → Holds (ready I cm ps T) → P < I.processors → get_or arrivals (16 * T + P) 0 ≡ arrival I ps T P)
        → searched cm waiting latest order (row_of cm arrivals free k) low (m - low) no_pair ≡ pair_of (choice I cm ps)
    unfolding choice pairs row_free
    search_is waiting latest arrivals free k low most not_yet same listed arrived =
        let e : low + (m - low) ≡ m = omega arith in
        let all-tasks : filter (ready I cm ps) (values order low (m - low)) ≡ filter (ready I cm ps) I.order =
        sym (skip_low order (ready I cm ps) low (m - low) not_yet)
        ∙ ap (λ (n : ℕ). filter (ready I cm ps) (values order 0 n)) e
        ∙ ap (filter (ready I cm ps)) (sym by) in
        search_rows cm waiting latest order (row_of cm arrivals free k) (ready I cm ps) row_free low (m - low) no_pair
        (λ i h. same (order i) (within i (omega arith)))
        (λ i h q. row_is arrivals free k (order i) listed (λ P b. arrived (order i) P (within i (omega arith)) q b))
        ∙ ap (λ (l : List ℕ). first_best no_pair (map as_pair (flat_map row_free l))) all-tasks
        ∙ first_best_is no_pair (pairs I cm ps)
        ∙ from_none (pairs I cm ps) pair_soon
