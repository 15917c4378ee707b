-- A slice whose first k places were filled: its length, each of its places, one place more.
-- By extensionality: slices of one length with the same entries are one.
use Rattle.std.specs.Prelude.{◌≡◌, refl, ◌⊎◌, List, ◌++◌, map, ℕ, ◌+◌, ◌-◌, ◌≤◌, ◌<◌, min, length, get_or, drop, set}
use Rattle.std.proofs.Common.{ap, sym, ◌∙◌, inl, inr, arith, length-append, length-drop, length-set, get_or-append-add, get_or-drop}
use Rattle.std.proofs.Common.{get_or-set_same, get_or-set_other, ext_get_or}
use Rattle.std.proofs.Math.ListN.{get_or-append}
use Rattle.base.specs.Lists.{upto}
use Rattle.base.specs.Slices.{filled}
use Rattle.base.specs.Laws.Tests.{le_or_lt}
use Rattle.base.specs.Laws.Lists.{map-upto_at, map-upto-length}

pub filled-length : (f : ℕ → ℕ) (k : ℕ) (l : List ℕ) → k ≤ length l → length (filled f k l) ≡ length l
unfolding filled
filled-length f k l h =
    length-append (map f (upto k)) (drop k l) ∙ rw (map-upto-length f k, length-drop k l) (omega arith)

pub filled_at : (f : ℕ → ℕ) (k : ℕ) (l : List ℕ) (i : ℕ) → i < k → get_or (filled f k l) i 0 ≡ f i
unfolding filled
filled_at f k l i h =
    get_or-append (map f (upto k)) (drop k l) 0 i (rw (map-upto-length f k) h) ∙ map-upto_at f k i 0 h

pub filled_past : (f : ℕ → ℕ) (k : ℕ) (l : List ℕ) (i : ℕ) → k ≤ i → k ≤ length l → get_or (filled f k l) i 0 ≡ get_or l i 0
unfolding filled
filled_past f k l i h n =
    let e : i ≡ length (map f (upto k)) + (i - k) = omega (arith, map-upto-length f k) in
    let d : k + (i - k) ≡ i = omega arith in
    ap (λ (x : ℕ). get_or (map f (upto k) ++ drop k l) x 0) e
    ∙ get_or-append-add (map f (upto k)) (drop k l) (i - k) 0 ∙ get_or-drop k l (i - k) 0 ∙ ap (λ (x : ℕ). get_or l x 0) d

-- a slice of that length with those entries is the filled one
pub is_filled : (f : ℕ → ℕ) (k : ℕ) (l l' : List ℕ) → k ≤ length l → length l' ≡ length l
    → ((i : ℕ) → i < k → get_or l' i 0 ≡ f i) → ((i : ℕ) → k ≤ i → get_or l' i 0 ≡ get_or l i 0) → l' ≡ filled f k l
is_filled f k l l' h e a b = ext_get_or 0 l' (filled f k l) (e ∙ sym (filled-length f k l h)) (λ i _. go i (le_or_lt k i))
  where
    go : (i : ℕ) → (k ≤ i) ⊎ (i < k) → get_or l' i 0 ≡ get_or (filled f k l) i 0
    go i (inl p) = b i p ∙ sym (filled_past f k l i p h)
    go i (inr p) = a i p ∙ sym (filled_at f k l i p)

-- as many places as the slice has at most: no more than are there
pub filled_within : (f : ℕ → ℕ) (k : ℕ) (l : List ℕ) {l' : List ℕ} → k ≤ length l → l' ≡ filled f (min k (length l)) l → l' ≡ filled f k l
filled_within f k l h e = let m : min k (length l) ≡ k = omega arith in rw m at e

pub filled_none : (f : ℕ → ℕ) (l : List ℕ) → filled f 0 l ≡ l
unfolding filled upto
filled_none f l = refl

-- one place more
pub filled_more : (f : ℕ → ℕ) (k : ℕ) (l : List ℕ) → k < length l → set (filled f k l) k (f k) ≡ filled f (k + 1) l
filled_more f k l h =
    is_filled f (k + 1) l (set (filled f k l) k (f k)) (omega arith) (length-set (filled f k l) k (f k) ∙ filled-length f k l (omega arith))
    (λ i p. at i p (le_or_lt k i))
    (λ i p. get_or-set_other (filled f k l) k i (f k) 0 (λ e. omega arith) ∙ filled_past f k l i (omega arith) (omega arith))
  where
    at : (i : ℕ) → i < k + 1 → (k ≤ i) ⊎ (i < k) → get_or (set (filled f k l) k (f k)) i 0 ≡ f i
    at i p (inl q) =
        let e : i ≡ k = omega arith in
        rw e (get_or-set_same (filled f k l) k (f k) 0 (omega (arith, filled-length f k l (omega arith))))
    at i p (inr q) = get_or-set_other (filled f k l) k i (f k) 0 (λ e. omega arith) ∙ filled_at f k l i q

-- filled twice, it holds what it was filled with last
pub filled-filled : (f g : ℕ → ℕ) (k : ℕ) (l : List ℕ) → k ≤ length l → filled f k (filled g k l) ≡ filled f k l
filled-filled f g k l h =
    let n : k ≤ length (filled g k l) = omega (arith, filled-length g k l h) in
    is_filled f k l (filled f k (filled g k l)) h (filled-length f k (filled g k l) n ∙ filled-length g k l h)
    (λ i p. filled_at f k (filled g k l) i p)
    (λ i p. filled_past f k (filled g k l) i p n ∙ filled_past g k l i p h)
