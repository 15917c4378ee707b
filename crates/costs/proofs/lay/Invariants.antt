-- `lay`: each entry is the square's, or its place, counted row by row, is still to come.
use mathlib.Core.Path.{◌≡◌, refl, ap, sym, ◌∙◌}
use mathlib.Core.Logic.{◌⊎◌, inl, inr}
use mathlib.Core.List.{List, [], ◌∷◌}
use Prim.Native.Nat.{ℕ, zero, suc, ◌+◌, ◌*◌, ◌≤◌, ◌<◌, min}
use native.Mathlib.Omega.{arith}
use borrow.Author.Tests.{lt-ltb, le-ltb}
use lib.ListN.{length, get_or, set, replicate, length-set, get_or-replicate}
use lib.Seq.{get_or-set_same, get_or-set_other, ext_get_or}
use Rattle.base.specs.Laws.Tests.{lt_or_ge}
use Rattle.etf.specs.Topology.{entry, square, cost}
use Rattle.etf.proofs.Laws.Costs.{square_length, row_length, square_at}
use Rattle.costs.specs.Wires.{loaded}
use Rattle.costs.proofs.lay.Given as goal

-- ---- rows of rows: one store

abbrev pub stored : List (List ℕ) → ℕ → ℕ → ℕ → List (List ℕ)
stored a p q x = set a p (set (get_or a p []) q x)

pub row_kept : (a : List (List ℕ)) (p q x i : ℕ) → length (get_or (stored a p q x) i []) ≡ length (get_or a i [])
row_kept [] p q x i = refl
row_kept (r ∷ a) zero q x zero = length-set r q x
row_kept (r ∷ a) zero q x (suc i) = refl
row_kept (r ∷ a) (suc p) q x zero = refl
row_kept (r ∷ a) (suc p) q x (suc i) = row_kept a p q x i

pub entry_kept : (a : List (List ℕ)) (p q x i j : ℕ) → (i ≡ p → j ≡ q → ⊥) → entry (stored a p q x) i j ≡ entry a i j
entry_kept [] p q x i j h = refl
entry_kept (r ∷ a) zero q x zero j h = get_or-set_other r q j x 0 (h refl)
entry_kept (r ∷ a) zero q x (suc i) j h = refl
entry_kept (r ∷ a) (suc p) q x zero j h = refl
entry_kept (r ∷ a) (suc p) q x (suc i) j h = entry_kept a p q x i j (λ e. h (ap suc e))

pub entry_stored : (a : List (List ℕ)) (p q x : ℕ) → p < length a → q < length (get_or a p []) → entry (stored a p q x) p q ≡ x
entry_stored a p q x h k = rw (get_or-set_same a p (set (get_or a p []) q x) [] h) (get_or-set_same (get_or a p []) q x 0 k)

-- ---- the square, stored up to a place

unfoldable pub zeros : List (List ℕ)
zeros = replicate 16 (replicate 16 0)

module _ (n : ℕ) (c : ℕ → ℕ → ℕ) where
  -- the entry at i, j is the square's, or its place is the k-th or past it and a cost is to come there
  abbrev pub Right : ℕ → List (List ℕ) → ℕ → ℕ → Type 0
  Right k a i j = (entry a i j ≡ entry (square n c) i j) ⊎ ((i < n) × (j < n) × (k ≤ 16 * i + j))

  pub record Held (k : ℕ) (a : List (List ℕ)) : Type 0 where
    pub rows : length a ≡ 16
    pub columns : (i : ℕ) → i < 16 → length (get_or a i []) ≡ 16
    pub entries : (i j : ℕ) → i < 16 → j < 16 → Right k a i j

  pub start : Held 0 zeros
  unfolding zeros
  start = record {
    rows = refl;
    columns = λ i h. ap length (row i h);
    entries = λ i j h k. at i j h k (lt_or_ge i n) (lt_or_ge j n);
  }
    where
      row : (i : ℕ) → i < 16 → get_or zeros i [] ≡ replicate 16 0
      row i h = get_or-replicate 16 i (replicate 16 0) [] h

      none : (i j : ℕ) → i < 16 → j < 16 → entry zeros i j ≡ 0
      none i j h k = rw (row i h) (get_or-replicate 16 j 0 0 k)

      at : (i j : ℕ) → i < 16 → j < 16 → (i < n) ⊎ (n ≤ i) → (j < n) ⊎ (n ≤ j) → Right 0 zeros i j
      at i j h k (inl p) (inl q) = inr (p, q, omega arith)
      at i j h k (inl p) (inr q) = inl (none i j h k ∙ sym (square_at n c i j h k ∙ rw (lt-ltb i n p, le-ltb j n q)))
      at i j h k (inr p) q = inl (none i j h k ∙ sym (square_at n c i j h k ∙ rw (le-ltb i n p)))

  pub more : (a : List (List ℕ)) (p q x : ℕ) → Held (16 * p + q) a → p < 16 → q < 16 → p < n → q < n → x ≡ c p q
      → Held (16 * p + (q + 1)) (stored a p q x)
  more a p q x s m o hp hq e = record {
    rows = length-set a p (set (get_or a p []) q x) ∙ s.rows;
    columns = λ i h. row_kept a p q x i ∙ s.columns i h;
    entries = λ i j h k. at i j h k (lt_or_ge (16 * i + j) (16 * p + q)) (lt_or_ge (16 * p + q) (16 * i + j)) (s.entries i j h k);
  }
    where
      here : entry (stored a p q x) p q ≡ entry (square n c) p q
      here =
          entry_stored a p q x (omega (arith, s.rows)) (omega (arith, s.columns p m))
          ∙ e ∙ sym (square_at n c p q m o ∙ rw (lt-ltb p n hp, lt-ltb q n hq))

      at : (i j : ℕ) → i < 16 → j < 16 → (16 * i + j < 16 * p + q) ⊎ (16 * p + q ≤ 16 * i + j)
          → (16 * p + q < 16 * i + j) ⊎ (16 * i + j ≤ 16 * p + q)
          → Right (16 * p + q) a i j → Right (16 * p + (q + 1)) (stored a p q x) i j
      at i j h k (inl u) v (inl w) = inl (entry_kept a p q x i j (λ f g. omega arith) ∙ w)
      at i j h k (inl u) v (inr w) = absurd (omega arith)
      at i j h k (inr u) (inl v) (inl w) = inl (entry_kept a p q x i j (λ f g. omega arith) ∙ w)
      at i j h k (inr u) (inl v) (inr w) = inr (w.0, w.1, omega arith)
      at i j h k (inr u) (inr v) w =
          let f : i ≡ p = omega arith in
          let g : j ≡ q = omega arith in
          inl (rw (f, g) here)

  -- past the last row no place is to come
  pub done : (a : List (List ℕ)) (p : ℕ) → Held (16 * p) a → min n 16 ≤ p → a ≡ square n c
  done a p s g =
      ext_get_or [] a (square n c) (s.rows ∙ sym (square_length n c))
      (λ i u. let h : i < 16 = omega (arith, s.rows) in
      ext_get_or 0 (get_or a i []) (get_or (square n c) i []) (s.columns i h ∙ sym (row_length n c i h))
      (λ j v. let k : j < 16 = omega (arith, s.columns i h) in at i j h k (s.entries i j h k)))
    where
      at : (i j : ℕ) → i < 16 → j < 16 → Right (16 * p) a i j → entry a i j ≡ entry (square n c) i j
      at i j h k (inl w) = w
      at i j h k (inr w) = absurd (omega arith)

-- ---- the loops
abbrev pub invariant-loop-q : goal.invariant-loop-q
invariant-loop-q l = Held l.platform.processors (cost l.platform (loaded l.wires)) (16 * l.p + l.q) l.costs

abbrev pub invariant-loop-p : goal.invariant-loop-p
invariant-loop-p l = Held l.platform.processors (cost l.platform (loaded l.wires)) (16 * l.p) l.costs
