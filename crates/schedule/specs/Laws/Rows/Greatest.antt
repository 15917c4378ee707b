-- The greatest of some values, as `max` over a slice finds it, by places.
use Rattle.std.proofs.Common.{◌≡◌, ◌⊎◌, refl, sym, ◌∙◌, List, [], ◌∷◌, ℕ, zero, suc, ◌≤◌, ◌<◌, max, length, take, get_or, map, arith}
use Rattle.std.proofs.Common.{◌+◌, subst, inl, inr}
use Rattle.std.proofs.Math.Numerals.{add-one}
use Rattle.std.proofs.Math.Seq.{take-suc}
use Rattle.std.proofs.lemmas.List.{take_all, get_or_past}
use Rattle.std.specs.List.{reduce, fold, range_with_len}
use Rattle.std.specs.Option.{unwrap_or}
use Rattle.std.proofs.lemmas.List.Sums.{fold-append}
use Rattle.std.proofs.lemmas.List.Folds.{fold-map}
use Rattle.std.proofs.lemmas.List.FromFn.{map-range_with_len_more}
use Rattle.base.specs.Rows.{most}
use Rattle.base.specs.Laws.Tests.{le_or_lt}

-- from 0 on, or from the first number on
from_first : (ys : List ℕ) → unwrap_or (reduce max ys) 0 ≡ fold max 0 ys
from_first [] = refl
from_first (y ∷ ys) = let e : max 0 y ≡ y = omega arith in rw e

-- past the end of the list nothing is greater
module _ {A : Type 0} (h : A → ℕ) {d : A} (least : h d ≡ 0) where
  place_by_place : (n : ℕ) (xs : List A) → fold (λ a x. max a (h x)) 0 (take n xs) ≡ most n (λ i. h (get_or xs i d))
  unfolding most
  place_by_place zero xs = refl
  place_by_place (suc n) xs = go (le_or_lt (length xs) n) (place_by_place n xs)
    where
      go : (length xs ≤ n) ⊎ (n < length xs) → fold (λ a x. max a (h x)) 0 (take n xs) ≡ most n (λ i. h (get_or xs i d))
          → fold (λ a x. max a (h x)) 0 (take (suc n) xs) ≡ max (most n (λ i. h (get_or xs i d))) (h (get_or xs n d))
      go (inl b) r =
          let past : h (get_or xs n d) ≡ 0 = rw (get_or_past xs n d b) least in
          let same : take (suc n) xs ≡ take n xs = take_all (suc n) xs (omega arith) ∙ sym (take_all n xs b) in
          rw (same, r) (omega arith)
      go (inr b) r = rw (take-suc xs n d b, fold-append, r)

  -- of what the first n elements have
  pub greatest_is : (n : ℕ) (xs : List A) → unwrap_or (reduce max (map h (take n xs))) 0 ≡ most n (λ i. h (get_or xs i d))
  greatest_is n xs = from_first (map h (take n xs)) ∙ fold-map max h 0 (take n xs) ∙ place_by_place n xs

-- of the first n numbers
pub greatest_number_is : (n : ℕ) (xs : List ℕ) → unwrap_or (reduce max (take n xs)) 0 ≡ most n (λ i. get_or xs i 0)
greatest_number_is n xs = from_first (take n xs) ∙ place_by_place (λ x. x) refl n xs

-- of the values at the numbers below n
one_by_one : (f : ℕ → ℕ) (n : ℕ) → fold max 0 (map f (range_with_len 0 n)) ≡ most n f
unfolding most
one_by_one f zero = refl
one_by_one f (suc n) =
    let e : fold max 0 (map f (range_with_len 0 (n + 1))) ≡ max (most n f) (f n) =
    rw (map-range_with_len_more f 0 n n (omega arith), fold-append, one_by_one f n) in
    subst (λ (m : ℕ). fold max 0 (map f (range_with_len 0 m)) ≡ max (most n f) (f n)) (add-one n) e

pub greatest_below_is : (f : ℕ → ℕ) (n : ℕ) → unwrap_or (reduce max (map f (range_with_len 0 n))) 0 ≡ most n f
greatest_below_is f n = from_first (map f (range_with_len 0 n)) ∙ one_by_one f n
