-- How dear a message can be, as no way has more than eight hops, and what stands in the square of costs.
-- A cube's way has at most four hops, a ring's at most half of sixteen; a row, as the square, is a map over 0, 1, .., read at its place.
use Rattle.std.specs.Prelude.{◌≡◌, refl, ◌⊎◌, Bool, true, false, not, ◌&&◌, ℕ, ◌-◌, ◌*◌, ◌≤◌, ◌<◌, ltb, eqb, length, get_or}
use Rattle.std.proofs.Common.{◌∙◌, inl, inr, arith, mul-le-mul, ltb-true, lt→ltb}
use mathlib.Core.List.{[], map}
use Rattle.std.proofs.Math.Dec.{eqb_refl}
use Rattle.std.proofs.Math.ListN.{get_or-eq_default}
use Rattle.base.specs.Choice.{pick}
use Rattle.base.specs.Lists.{upto}
use Rattle.base.specs.Laws.Tests.{both, pick_yes, le_or_lt}
use Rattle.base.specs.Laws.Lists.{length-filter_most, map_same, map-upto_at, map-upto-length}
use Rattle.job.specs.declared.Platform.{Platform}
use Rattle.job.specs.Limits.{most_unit, most_wire_cost}
use Rattle.etf.specs.Bounds.{most_hops, most_cost}
use Rattle.etf.specs.Topology.{binary_place, hypercube_hops, difference, ring_hops, hops, cost, square}

-- ---- hops and costs

-- a choice is at most what both its ways are at most
pick_most : (b : Bool) (x y c : ℕ) → x ≤ c → y ≤ c → pick b x y ≤ c
pick_most true x y c h k = h
pick_most false x y c h k = k

hypercube_most : (p q : ℕ) → hypercube_hops p q ≤ 4
unfolding hypercube_hops upto
hypercube_most p q = length-filter_most (λ i. not (eqb (binary_place i p) (binary_place i q))) (upto 4)

ring_most : (n p q : ℕ) → n ≤ 16 → ring_hops n p q ≤ 8
unfolding ring_hops
ring_most n p q h = omega arith

-- no way has more than eight hops
pub hops_most : (r : Platform) (p q : ℕ) → r.processors ≤ 16 → hops r p q ≤ most_hops
unfolding hops
hops_most r p q n =
    pick_most (eqb r.topology 0) 1 _ 8 (omega arith)
    (pick_most (eqb r.topology 1) (hypercube_hops p q) _ 8 (omega (arith, hypercube_most p q))
    (pick_most (eqb r.topology 2) (ring_hops r.processors p q) 0 8 (ring_most r.processors p q n) (omega arith)))

-- nor, among the first sixteen processors, more than fifteen, whatever the platform is
pub hops_near : (r : Platform) (p q : ℕ) → p < 16 → q < 16 → hops r p q ≤ 15
unfolding hops ring_hops difference
hops_near r p q h k =
    pick_most (eqb r.topology 0) 1 _ 15 (omega arith)
    (pick_most (eqb r.topology 1) (hypercube_hops p q) _ 15 (omega (arith, hypercube_most p q))
    (pick_most (eqb r.topology 2) (ring_hops r.processors p q) 0 15
    (omega (arith, pick_most (ltb p q) (q - p) (p - q) 15 (omega arith) (omega arith))) (omega arith)))

-- no cost passes 800
pub cost_most : (r : Platform) (w : ℕ → ℕ → ℕ) (p q : ℕ) → r.processors ≤ 16 → r.unit ≤ most_unit → w p q ≤ most_wire_cost
    → cost r w p q ≤ most_cost
unfolding cost
cost_most r w p q n c cheap =
    pick_most (eqb p q) 0 _ most_cost (omega arith)
    (pick_most (eqb r.topology 3) (w p q) (r.unit * hops r p q) most_cost (omega (arith, cheap))
    (omega (arith, mul-le-mul c (hops_most r p q n))))

-- a processor reaches itself at cost 0
pub cost_self : (r : Platform) (w : ℕ → ℕ → ℕ) (p : ℕ) → cost r w p p ≡ 0
unfolding cost
cost_self r w p = pick_yes (eqb p p) 0 _ (eqb_refl p)

-- the wire from p to q is all that counts of the wires
pub cost_same : (r : Platform) (v w : ℕ → ℕ → ℕ) (p q : ℕ) → v p q ≡ w p q → cost r v p q ≡ cost r w p q
unfolding cost
cost_same r v w p q e = rw e

-- ---- the square of costs

module _ (n : ℕ) (c : ℕ → ℕ → ℕ) where
  -- the entry at p, q as the square is made
  abbrev entry : ℕ → ℕ → ℕ
  entry p q = pick (ltb p n && ltb q n) (c p q) 0

  row_is : (p : ℕ) → p < 16 → get_or (square n c) p [] ≡ map (entry p) (upto 16)
  unfolding square
  row_is p h = map-upto_at (λ i. map (entry i) (upto 16)) 16 p [] h

  -- the square has sixteen rows
  pub square_length : length (square n c) ≡ 16
  unfolding square
  square_length = map-upto-length (λ p. map (entry p) (upto 16)) 16

  -- each row has sixteen entries
  pub row_length : (p : ℕ) → p < 16 → length (get_or (square n c) p []) ≡ 16
  row_length p h = rw (row_is p h) (map-upto-length (entry p) 16)

  -- the entry at p, q
  pub square_at : (p q : ℕ) → p < 16 → q < 16 → get_or (get_or (square n c) p []) q 0 ≡ pick (ltb p n && ltb q n) (c p q) 0
  square_at p q h k = rw (row_is p h) (map-upto_at (entry p) 16 q 0 k)

  -- what no cost passes no entry passes
  pub square_most : (b : ℕ) → ((p q : ℕ) → c p q ≤ b) → (p q : ℕ) → get_or (get_or (square n c) p []) q 0 ≤ b
  square_most b near p q = go (le_or_lt 16 p) (le_or_lt 16 q)
    where
      go : (16 ≤ p) ⊎ (p < 16) → (16 ≤ q) ⊎ (q < 16) → get_or (get_or (square n c) p []) q 0 ≤ b
      go (inl h) k = rw (get_or-eq_default (square n c) [] {n = p} (omega (arith, square_length))) (omega arith)
      go (inr h) (inl k) = rw (get_or-eq_default (get_or (square n c) p []) 0 {n = q} (omega (arith, row_length p h))) (omega arith)
      go (inr h) (inr k) = rw (square_at p q h k) (pick_most (ltb p n && ltb q n) (c p q) 0 b (near p q) (omega arith))

  -- between two processors that are there it is the cost
  pub square_cost : (p q : ℕ) → n ≤ 16 → p < n → q < n → get_or (get_or (square n c) p []) q 0 ≡ c p q
  square_cost p q m h k =
      square_at p q (omega arith) (omega arith)
      ∙ pick_yes (ltb p n && ltb q n) (c p q) 0 (both (ltb p n) (ltb q n) (lt→ltb p n h) (lt→ltb q n k))

-- a square is made of the costs between processors that are there
pub square_same : (n : ℕ) (c d : ℕ → ℕ → ℕ) → ((p q : ℕ) → p < n → q < n → c p q ≡ d p q) → square n c ≡ square n d
unfolding square
square_same n c d h = map_same _ _ (upto 16) (λ p i. map_same _ _ (upto 16) (λ q k. under p q (ltb p n) (ltb q n) refl refl))
  where
    under : (p q : ℕ) (s t : Bool) → ltb p n ≡ s → ltb q n ≡ t → pick (s && t) (c p q) 0 ≡ pick (s && t) (d p q) 0
    under p q true true e f = h p q (ltb-true p n e) (ltb-true q n f)
    under p q true false e f = refl
    under p q false t e f = refl
