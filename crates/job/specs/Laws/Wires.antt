-- The pairs of processors in their order (`due_from`: those that are still to come), and wires in an array of sixteen rows of sixteen.
-- The pairs rise by 16 p + q, so that no pair has two wires, and the wire that is found first is the only one.
use Rattle.std.specs.Prelude.{◌≡◌, refl, ◌⊎◌, Bool, true, false, not, ◌&&◌, ℕ, zero, suc, ◌+◌, ◌*◌, ◌-◌, ◌/◌, ◌%◌, ◌≤◌, ◌<◌, ltb, eqb}
use Rattle.std.specs.Prelude.{length, get_or, set, Option, Some, None, IfSome, is_some}
use Rattle.std.proofs.Common.{ap, sym, subst, ◌∙◌, inl, inr, ⊎_elim, suc-mul, mul-le-mul, add-one, arith, lt→ltb, eqb→eq, length-append}
use Rattle.std.proofs.Common.{length-set, get_or-set_same, get_or-set_other, ext_get_or}
use mathlib.Core.List.{List, [], ◌∷◌, ◌++◌, map, flat_map}
use Rattle.std.proofs.Math.Dec.{eqb_refl}
use Rattle.std.proofs.lemmas.List.{length-map}
use Rattle.base.specs.Choice.{pick}
use Rattle.base.specs.Lists.{filter, values}
use Rattle.base.specs.Laws.Tests.{impossible, both, parts, fails, lt→nleb, pick_yes, pick_no, eq→eqb, ne→neqb}
use Rattle.base.specs.Laws.Tests.{is_true, is_false, same_or_not, lt_or_ge}
use Rattle.base.specs.Laws.Values.{upto-values, values_front, values_none, value_at, length-values}
use Rattle.job.specs.declared.Platform.{Platform}
use Rattle.job.specs.declared.record.Pair.{Pair}
use Rattle.job.specs.declared.table.Refusal.{Refusal}
use Rattle.job.specs.Table.{number_of}
use Rattle.job.specs.Job.{Wire, ends, wire_cost}
use Rattle.job.specs.Record.{empty, pairs, wire_pairs, is_due, cost_in_range}
use Rattle.job.specs.Read.{wire_array}
use Rattle.job.specs.Write.{wire_held}
use Rattle.job.specs.Pass.{wire_of, row_from, due_from, OnPair, PairAfter, pairs_from}
use Rattle.job.specs.Pass.{cost_trouble, wire_trouble}
use Rattle.job.specs.Laws.Judged.{ranged_in, ranged_err}

-- ---- the pairs that are still to come

-- the rows from p to before p + k
abbrev rows : ℕ → ℕ → ℕ → List (ℕ × ℕ)
rows n p k = flat_map (λ x. row_from n x 0) (values (λ i. i) p k)

as_rows : (n : ℕ) → pairs n ≡ rows n 0 n
unfolding pairs row_from
as_rows n = let z : n - 0 ≡ n = omega arith in rw (upto-values n, z) refl

due_row : (n p q : ℕ) → p < n → due_from n p q ≡ row_from n p q ++ rows n (suc p) (n - suc p)
unfolding due_from
due_row n p q h = pick_yes (ltb p n) (row_from n p q ++ rows n (suc p) (n - suc p)) [] (lt→ltb p n h)

pub none_due : (n p q : ℕ) → n ≤ p → due_from n p q ≡ []
unfolding due_from
none_due n p q h = pick_no (ltb p n) (row_from n p q ++ rows n (suc p) (n - suc p)) [] (lt→nleb (suc p) n (omega arith))

-- all of row p and the rows after it
from_row : (n p : ℕ) → due_from n p 0 ≡ rows n p (n - p)
unfolding flat_map
from_row n p = go (lt_or_ge p n)
  where
    go : (p < n) ⊎ (n ≤ p) → due_from n p 0 ≡ rows n p (n - p)
    go (inl h) = due_row n p 0 h ∙ rw (values_front (λ i. i) p n h) refl
    go (inr h) = none_due n p 0 h ∙ rw (values_none (λ i. i) p n h) refl

pub first_due : (n : ℕ) → due_from n 0 0 ≡ pairs n
first_due n = let z : n - 0 ≡ n = omega arith in from_row n 0 ∙ rw z (sym (as_rows n))

row_front : (n p q : ℕ) → q < n → row_from n p q ≡ pick (not (eqb p q)) ((p, q) ∷ row_from n p (suc q)) (row_from n p (suc q))
unfolding row_from filter
row_front n p q h = rw (values_front (λ i. i) q n h) (go (not (eqb p q)))
  where
    go : (b : Bool) → map (λ y. (p, y)) (pick b (q ∷ filter (λ y. not (eqb p y)) (values (λ i. i) (suc q) (n - suc q)))
        (filter (λ y. not (eqb p y)) (values (λ i. i) (suc q) (n - suc q))))
        ≡ pick b ((p, q) ∷ row_from n p (suc q)) (row_from n p (suc q))
    go true = refl
    go false = refl

row_none : (n p q : ℕ) → n ≤ q → row_from n p q ≡ []
unfolding row_from filter
row_none n p q h = rw (values_none (λ i. i) q n h) refl

-- no processor has a wire to itself
pub past_itself : (n p : ℕ) → due_from n p p ≡ due_from n p (p + 1)
past_itself n p = rw add-one (go (lt_or_ge p n))
  where
    go : (p < n) ⊎ (n ≤ p) → due_from n p p ≡ due_from n p (suc p)
    go (inl h) = rw (due_row n p p h, due_row n p (suc p) h, row_front n p p h, is_true (eqb p p) (eqb_refl p)) refl
    go (inr h) = none_due n p p h ∙ sym (none_due n p (suc p) h)

pub due_pair : (n : ℕ) (x : Pair) → OnPair n x → due_from n x.from x.to ≡ (x.from, x.to) ∷ due_from n x.from (x.to + 1)
due_pair n x o =
    let p = x.from in
    let q = x.to in
    let t = ne→neqb p q o.different in
    let e = row_front n p q o.to_below ∙ pick_yes (not (eqb p q)) ((p, q) ∷ row_from n p (suc q)) (row_from n p (suc q)) t in
    rw (due_row n p q o.from_below, add-one, due_row n p (suc q) o.from_below, e) refl

same_pair : (x y : Pair) → x.from ≡ y.from → x.to ≡ y.to → y ≡ x
same_pair x y e f =
    let g : ℕ → Pair = λ n. record { from = n; to = y.to } in
    let h : ℕ → Pair = λ n. record { from = x.from; to = n } in
    ap g (sym e) ∙ ap h (sym f)

-- the next pair, where there is one
pub next_on : (n : ℕ) (due : Option Pair) (x : Pair) → IfSome due (OnPair n) → due ≡ Some x → OnPair n x
next_on n due x o e = let P : Option Pair → Type 0 = λ d. IfSome d (OnPair n) in subst P e o

pub one_next : (due : Option Pair) → is_some due ≡ true → due ≡ None → ⊥
one_next None h e = cc
one_next (Some x) h e = cc

pub none_next : (due : Option Pair) → is_some due ≡ false → due ≡ None
none_next None h = refl
none_next (Some x) h = cc

-- a wire whose cost is out of its range
pub bad_cost : (due : List (ℕ × ℕ)) (w : Wire) (e : Refusal) → number_of e ≡ cost_trouble w.cost → number_of e ≡ wire_trouble due w
unfolding cost_trouble wire_trouble
bad_cost due w e = ranged_err (cost_in_range w.cost) e _

-- a wire whose cost is in its range is the next one due, or it is not
module _ (n : ℕ) (due : Option Pair) (x : Pair) (c : ℕ) (on : IfSome due (OnPair n)) (in_range : 0 ≡ cost_trouble c) where
  pub is_next : due ≡ Some x → 0 ≡ wire_trouble (pairs_from n due) (wire_of x.from x.to c)
  unfolding cost_trouble wire_trouble is_due
  is_next e =
      let o = next_on n due x on e in
      ranged_in (cost_in_range c) _ in_range refl
      (rw (e, due_pair n x o, is_true (eqb x.from x.from) (eqb_refl x.from), is_true (eqb x.to x.to) (eqb_refl x.to)) refl)

  pub is_not_next : (due ≡ Some x → ⊥) → 14 ≡ wire_trouble (pairs_from n due) (wire_of x.from x.to c)
  unfolding cost_trouble wire_trouble is_due
  is_not_next d = ranged_in (cost_in_range c) _ in_range refl (rw (other due on d) refl)
    where
      other : (due : Option Pair) → IfSome due (OnPair n) → (due ≡ Some x → ⊥)
          → is_due (pairs_from n due) (wire_of x.from x.to c) ≡ false
      other None o d = refl
      other (Some y) o d =
          rw (due_pair n y o) (is_false (eqb x.from y.from && eqb x.to y.to) (λ t.
          let s = parts (eqb x.from y.from) (eqb x.to y.to) t in
          d (ap Some (same_pair x y (eqb→eq x.from y.from s.0) (eqb→eq x.to y.to s.1)))))

pub next_row : (n p q : ℕ) → n ≤ q → p < n → due_from n p q ≡ due_from n (p + 1) 0
next_row n p q h k = rw (due_row n p q k, row_none n p q h, add-one) (sym (from_row n (suc p)))

-- a loop over all pairs: the first one, and the one after another
pub first_pair : (n : ℕ) (r : Option Pair) → PairAfter n record { from = 0; to = 0 } r → pairs_from n r ≡ pairs n
first_pair n r a = a.left ∙ sym (past_itself n 0) ∙ first_due n

pub pair_turn : (n : ℕ) (x : Pair) (r : Option Pair) → OnPair n x → PairAfter n x r
    → due_from n x.from x.to ≡ (x.from, x.to) ∷ pairs_from n r
pair_turn n x r o a = due_pair n x o ∙ rw a.left refl

pub pairs_fewer : (n : ℕ) (x : Pair) (r : Option Pair) → OnPair n x → PairAfter n x r
    → length (pairs_from n r) < length (due_from n x.from x.to)
pairs_fewer n x r o a = rw (pair_turn n x r o a) (omega arith)

pub one_due : (n : ℕ) (r : Option Pair) → IfSome r (OnPair n) → (r ≡ None → ⊥) → pick {A = ℕ} (not (empty (pairs_from n r))) 14 0 ≡ 14
one_due n None on d = absurd (d refl)
one_due n (Some x) on d = rw (due_pair n x on) refl

pub no_pair : (r : Option Pair) → ((x : Pair) → r ≡ Some x → ⊥) → r ≡ None
no_pair None d = refl
no_pair (Some x) d = absurd (d x refl)

-- of the numbers from i to before i + k those that are not p: all, or all but one
all_others : (p i k : ℕ) → p < i → length (filter (λ y. not (eqb p y)) (values (λ j. j) i k)) ≡ k
unfolding filter values
all_others p i zero h = refl
all_others p i (suc k) h =
    rw (is_false (eqb p i) (λ t. absurd (omega (arith, eqb→eq p i t)))) (ap suc (all_others p (suc i) k (omega arith)))

but_one : (p i k : ℕ) → i ≤ p → p < i + k → length (filter (λ y. not (eqb p y)) (values (λ j. j) i k)) ≡ k - 1
unfolding filter values
but_one p i zero h g = absurd (omega arith)
but_one p i (suc k) h g = go (same_or_not p i) (but_one p (suc i) k)
  where
    go : (p ≡ i) ⊎ (p ≡ i → ⊥)
        → (i < p → p < suc i + k → length (filter (λ y. not (eqb p y)) (values (λ j. j) (suc i) k)) ≡ k - 1)
        → length (pick (not (eqb p i)) (i ∷ filter (λ y. not (eqb p y)) (values (λ j. j) (suc i) k))
        (filter (λ y. not (eqb p y)) (values (λ j. j) (suc i) k))) ≡ suc k - 1
    go (inl e) r = rw (is_true (eqb p i) (eq→eqb p i e)) (omega (arith, all_others p (suc i) k (omega arith)))
    go (inr d) r =
        let m : i < p = elim (lt_or_ge i p) [ inl l ↦ l | inr l ↦ absurd (d (omega arith)) ] in
        rw (is_false (eqb p i) (λ t. d (eqb→eq p i t))) (omega (arith, r m (omega arith)))

row_length : (n p : ℕ) → p < n → length (row_from n p 0) ≡ n - 1
unfolding row_from
row_length n p h =
    let z : n - 0 ≡ n = omega arith in
    let m = length-map {B = ℕ × ℕ} (filter (λ y. not (eqb p y)) (values (λ i. i) 0 n)) (λ y. (p, y)) in
    rw z (m ∙ but_one p 0 n (omega arith) (omega arith))

rows_length : (n p k : ℕ) → p + k ≤ n → length (rows n p k) ≡ k * (n - 1)
unfolding flat_map values
rows_length n p zero h = omega arith
rows_length n p (suc k) h =
    length-append (row_from n p 0) (rows n (suc p) k)
    ∙ rw (row_length n p (omega arith), rows_length n (suc p) k (omega arith)) (omega (arith, suc-mul k (n - 1)))

pub pairs_count : (n : ℕ) → length (pairs n) ≡ n * (n - 1)
pairs_count n = ap length (as_rows n) ∙ rows_length n 0 n (omega arith)

-- ---- the pairs rise

-- pairs below 16 that rise by 16 p + q, from k on
data Rises : ℕ → List (ℕ × ℕ) → Type 0 where
  none : {k : ℕ} → Rises k []
  more : {k : ℕ} {x : ℕ × ℕ} {xs : List (ℕ × ℕ)}
      → x.0 < 16 → x.1 < 16 → k ≤ 16 * x.0 + x.1 → Rises (suc (16 * x.0 + x.1)) xs → Rises k (x ∷ xs)

from_lower : {i k : ℕ} {xs : List (ℕ × ℕ)} → i ≤ k → Rises k xs → Rises i xs
from_lower h none = none
from_lower {i} h (more a b c r) = more {k = i} a b (omega arith) r

row_rises : (p q k : ℕ) (xs : List (ℕ × ℕ)) → p < 16 → q + k ≤ 16 → Rises (16 * suc p) xs
    → Rises (16 * p + q) (map (λ y. (p, y)) (filter (λ y. not (eqb p y)) (values (λ i. i) q k)) ++ xs)
unfolding filter values
row_rises p q zero xs h g r = from_lower (omega arith) r
row_rises p q (suc k) xs h g r = go (not (eqb p q)) (row_rises p (suc q) k xs h (omega arith) r)
  where
    go : (b : Bool) → Rises (16 * p + suc q) (map (λ y. (p, y)) (filter (λ y. not (eqb p y)) (values (λ i. i) (suc q) k)) ++ xs)
        → Rises (16 * p + q) (map (λ y. (p, y)) (pick b (q ∷ filter (λ y. not (eqb p y)) (values (λ i. i) (suc q) k))
        (filter (λ y. not (eqb p y)) (values (λ i. i) (suc q) k))) ++ xs)
    go true z = more {k = 16 * p + q} {x = (p, q)} h (omega arith) (omega arith) (from_lower (omega arith) z)
    go false z = from_lower (omega arith) z

rows_rise : (n p k : ℕ) → n ≤ 16 → p + k ≤ n → Rises (16 * p) (rows n p k)
unfolding flat_map values row_from
rows_rise n p zero h g = none
rows_rise n p (suc k) h g =
    from_lower (omega arith)
    (row_rises p 0 (n - 0) (rows n (suc p) k) (omega arith) (omega arith) (rows_rise n (suc p) k h (omega arith)))

pairs_rise : (n : ℕ) → n ≤ 16 → Rises 0 (pairs n)
pairs_rise n h = rw (as_rows n) (rows_rise n 0 n h (omega arith))

-- ---- wires in an array

pub array_length : (ws : List Wire) → length (wire_array ws) ≡ 256
unfolding wire_array
array_length ws = length-values (λ k. wire_cost ws (k / 16) (k % 16)) 0 256

array_place : (ws : List Wire) (k : ℕ) → k < 256 → get_or (wire_array ws) k 0 ≡ wire_cost ws (k / 16) (k % 16)
unfolding wire_array
array_place ws k h = value_at (λ k. wire_cost ws (k / 16) (k % 16)) 0 256 k h

pub array_at : (ws : List Wire) (p q : ℕ) → p < 16 → q < 16 → get_or (wire_array ws) (16 * p + q) 0 ≡ wire_cost ws p q
array_at ws p q h k =
    let d : (16 * p + q) / 16 ≡ p = omega arith in
    let m : (16 * p + q) % 16 ≡ q = omega arith in
    array_place ws (16 * p + q) (omega arith) ∙ rw (d, m) refl

own_pair : (w : Wire) (ws : List Wire) → wire_cost (w ∷ ws) w.from w.to ≡ w.cost
unfolding wire_cost
own_pair w ws =
    pick_yes (eqb w.from w.from && eqb w.to w.to) w.cost (wire_cost ws w.from w.to)
    (both (eqb w.from w.from) (eqb w.to w.to) (eqb_refl w.from) (eqb_refl w.to))

-- the wire of another pair changes nothing
other_pair : (w : Wire) (ws : List Wire) (p q : ℕ) → ((w.from ≡ p) → (w.to ≡ q) → ⊥) → wire_cost (w ∷ ws) p q ≡ wire_cost ws p q
unfolding wire_cost
other_pair w ws p q d =
    pick_no (eqb w.from p && eqb w.to q) w.cost (wire_cost ws p q)
    (fails (eqb w.from p && eqb w.to q) (λ t. let s = parts (eqb w.from p) (eqb w.to q) t in
    d (eqb→eq w.from p s.0) (eqb→eq w.to q s.1)))

-- nor does the wire of another pair at the end
cost_same : (ws : List Wire) (v : Wire) (p q : ℕ) → ((v.from ≡ p) → (v.to ≡ q) → ⊥) → wire_cost (ws ++ (v ∷ [])) p q ≡ wire_cost ws p q
unfolding wire_cost
cost_same [] v p q d = other_pair v [] p q d
cost_same (w ∷ ws) v p q d = rw (cost_same ws v p q d) refl

-- what stands after others that rise is above each of them
later : (k : ℕ) (xs : List (ℕ × ℕ)) (p q : ℕ) (rest : List (ℕ × ℕ)) → Rises k (xs ++ ((p, q) ∷ rest))
    → (k ≤ 16 * p + q) × (p < 16) × (q < 16)
later k [] p q rest (more a b c r) = (c, a, b)
later k (x ∷ xs) p q rest (more a b c r) = let z = later (suc (16 * x.0 + x.1)) xs p q rest r in (omega (arith, z.0), z.1, z.2)

-- and the wire at the end is the first one of its pair
cost_more : (k : ℕ) (ws : List Wire) (p q c : ℕ) (rest : List (ℕ × ℕ)) → Rises k (map ends ws ++ ((p, q) ∷ rest))
    → wire_cost (ws ++ (wire_of p q c ∷ [])) p q ≡ c
cost_more k [] p q c rest r = own_pair (wire_of p q c) []
cost_more k (w ∷ ws) p q c rest (more a b d r) =
    let z = later (suc (16 * w.from + w.to)) (map ends ws) p q rest r in
    other_pair w (ws ++ (wire_of p q c ∷ [])) p q (λ e f. absurd (omega (arith, z.0)))
    ∙ cost_more (suc (16 * w.from + w.to)) ws p q c rest r

-- one wire more, stored at its place: its pair is the next one
pub array_more : (n : ℕ) (ws : List Wire) (p q c : ℕ) (rest : List (ℕ × ℕ)) → n ≤ 16 → map ends ws ++ ((p, q) ∷ rest) ≡ pairs n
    → set (wire_array ws) (16 * p + q) c ≡ wire_array (ws ++ (wire_of p q c ∷ []))
array_more n ws p q c rest h e =
    ext_get_or 0 (set (wire_array ws) (16 * p + q) c) (wire_array all)
    (length-set (wire_array ws) (16 * p + q) c ∙ array_length ws ∙ sym (array_length all))
    (λ k l. at k (omega (arith, length-set (wire_array ws) (16 * p + q) c, array_length ws)) (same_or_not k (16 * p + q)))
  where
    all : List Wire
    all = ws ++ (wire_of p q c ∷ [])

    rise : Rises 0 (map ends ws ++ ((p, q) ∷ rest))
    rise = rw e (pairs_rise n h)

    at : (k : ℕ) → k < 256 → (k ≡ 16 * p + q) ⊎ (k ≡ 16 * p + q → ⊥)
        → get_or (set (wire_array ws) (16 * p + q) c) k 0 ≡ get_or (wire_array all) k 0
    at k l (inl d) =
        let z = later 0 (map ends ws) p q rest rise in
        rw d (get_or-set_same (wire_array ws) (16 * p + q) c 0 (omega (arith, array_length ws))
        ∙ sym (array_at all p q z.1 z.2 ∙ cost_more 0 ws p q c rest rise))
    at k l (inr d) =
        get_or-set_other (wire_array ws) (16 * p + q) k c 0 d ∙ array_place ws k l
        ∙ sym (array_place all k l ∙ cost_same ws (wire_of p q c) (k / 16) (k % 16) (λ a b. d (omega arith)))

-- the wires that an array holds are those of its pairs
pub held_ends : (costs : List ℕ) (xs : List (ℕ × ℕ)) → map ends (map (wire_held costs) xs) ≡ xs
unfolding wire_held
held_ends costs [] = refl
held_ends costs (x ∷ xs) = ap (λ (l : List (ℕ × ℕ)). x ∷ l) (held_ends costs xs)

-- an array that has the costs of wires that rise holds these wires
held_wires : (k : ℕ) (ws : List Wire) (costs : List ℕ) → Rises k (map ends ws)
    → ((p q : ℕ) → p < 16 → q < 16 → k ≤ 16 * p + q → get_or costs (16 * p + q) 0 ≡ wire_cost ws p q)
    → map (wire_held costs) (map ends ws) ≡ ws
unfolding wire_held
held_wires k [] costs r h = refl
held_wires k (w ∷ ws) costs (more a b c r) h =
    rw (
      h w.from w.to a b c ∙ own_pair w ws,
      held_wires (suc (16 * w.from + w.to)) ws costs r
          (λ p q x y z. h p q x y (omega arith) ∙ other_pair w ws p q (λ e f. absurd (omega arith))),
    ) refl

-- wires that stand for all pairs are those that their array holds
pub held_back : (n : ℕ) (ws : List Wire) → n ≤ 16 → map ends ws ≡ pairs n → map (wire_held (wire_array ws)) (pairs n) ≡ ws
held_back n ws h e =
    rw (sym e) (held_wires 0 ws (wire_array ws) (rw e (pairs_rise n h)) (λ p q a b c. array_at ws p q a b))

few_others : (n : ℕ) → n ≤ 16 → n - 1 ≤ 15
few_others n h = omega arith

no_ends : (ws : List Wire) → map ends ws ≡ [] → ws ≡ []
no_ends [] e = refl
no_ends (w ∷ ws) e = let z : false ≡ true = cc in impossible z

-- the pairs of a rack under topology 3, and under another
pub wired : (p : Platform) → p.topology ≡ 3 → wire_pairs p ≡ pairs p.processors
unfolding wire_pairs
wired p e = pick_yes (eqb p.topology 3) (pairs p.processors) [] (eq→eqb p.topology 3 e)

pub unwired : (p : Platform) → (p.topology ≡ 3 → ⊥) → wire_pairs p ≡ []
unfolding wire_pairs
unwired p d = pick_no (eqb p.topology 3) (pairs p.processors) [] (ne→neqb p.topology 3 d)

-- a rack that has pairs is wired so
pub by_wires : (p : Platform) → 1 ≤ length (wire_pairs p) → p.topology ≡ 3
by_wires p h = ⊎_elim (λ e. e) (λ d. absurd (omega (arith, ap length (unwired p d)))) (same_or_not p.topology 3)

-- the wires of a rack: no more than 240, and those that their array holds
pub few_pairs : (p : Platform) → p.processors ≤ 16 → length (wire_pairs p) ≤ 240
unfolding wire_pairs
few_pairs p h = go (eqb p.topology 3)
  where
    go : (t : Bool) → length (pick t (pairs p.processors) []) ≤ 240
    go true = omega (arith, pairs_count p.processors, mul-le-mul h (few_others p.processors h))
    go false = omega arith

pub rack_held : (p : Platform) (ws : List Wire) → p.processors ≤ 16 → map ends ws ≡ wire_pairs p
    → map (wire_held (wire_array ws)) (wire_pairs p) ≡ ws
unfolding wire_pairs
rack_held p ws h e = go (eqb p.topology 3) e
  where
    go : (t : Bool) → map ends ws ≡ pick t (pairs p.processors) []
        → map (wire_held (wire_array ws)) (pick t (pairs p.processors) []) ≡ ws
    go true e = held_back p.processors ws h e
    go false e = sym (no_ends ws e)
