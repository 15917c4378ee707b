-- The values of a numbered row: how many, by place, as members, one more at the end, as a map over 0, 1, .. . By induction on their number.
use Rattle.std.specs.Prelude.{◌≡◌, length, get_or, take, drop}
use Rattle.std.proofs.Math.Path.{refl, ap}
use Rattle.std.proofs.Common.{sym, ◌∙◌, subst, add-zero, zero-add, add-one, drop-cons}
use mathlib.Core.List.{List, [], ◌∷◌, ◌++◌, map, map-append, map-id}
use Prim.Native.Nat.{ℕ, zero, suc, ◌+◌, ◌-◌, ◌≤◌, ◌<◌}
use native.Mathlib.Omega.{arith}
use Rattle.base.specs.Lists.{◌∈◌, upto, values}
use Rattle.base.specs.Laws.Lists.{for_cons, in_nothing, at_in}

module _ {A : Type 0} (f : ℕ → A) where
  pub length-values : (i k : ℕ) → length (values f i k) ≡ k
  unfolding values
  length-values i zero = refl
  length-values i (suc k) = ap suc (length-values (suc i) k)

  pub values_snoc : (i k : ℕ) → values f i (suc k) ≡ values f i k ++ (f (i + k) ∷ [])
  unfolding values
  values_snoc i zero = rw (add-zero i)
  values_snoc i (suc k) =
      let e : suc i + k ≡ i + suc k = omega arith in
      ap (λ (l : List A). f i ∷ l) (values_snoc (suc i) k ∙ ap (λ (n : ℕ). values f (suc i) k ++ (f n ∷ [])) e)

  pub values_more : (k : ℕ) → values f 0 (k + 1) ≡ values f 0 k ++ (f k ∷ [])
  values_more k = rw add-one (values_snoc 0 k ∙ rw (zero-add k))

  -- what holds of each value, and of what stands for none
  pub each_value : (P : A → Type 0) (d : A) → P d → ((n : ℕ) → P (f n)) → (i k n : ℕ) → P (get_or (values f i k) n d)
  unfolding values
  each_value P d z h i zero n = z
  each_value P d z h i (suc k) zero = h i
  each_value P d z h i (suc k) (suc n) = each_value P d z h (suc i) k n

pub values_same : {A : Type 0} (f g : ℕ → A) (i k : ℕ) → ((n : ℕ) → i ≤ n → n < i + k → f n ≡ g n) → values f i k ≡ values g i k
unfolding values
values_same f g i zero h = refl
values_same f g i (suc k) h =
    let t = values_same f g (suc i) k (λ n a b. h n (omega arith) (omega arith)) in
    rw (h i (omega arith) (omega arith), t)

pub map-values : {A B : Type 0} (h : A → B) (f : ℕ → A) (i k : ℕ) → map h (values f i k) ≡ values (λ n. h (f n)) i k
unfolding values
map-values h f i zero = refl
map-values {B = B} h f i (suc k) = ap (λ (l : List B). h (f i) ∷ l) (map-values h f (suc i) k)

-- the first values of an array are the array's beginning
values_from : (a : List ℕ) (i k : ℕ) → i + k ≤ length a → values (λ n. get_or a n 0) i k ≡ take k (drop i a)
unfolding values
values_from a i zero h = refl
values_from a i (suc k) h = rw (drop-cons a i 0 (omega arith))
    (ap (λ (l : List ℕ). get_or a i 0 ∷ l) (values_from a (suc i) k (omega arith)))

pub values-take : (a : List ℕ) (k : ℕ) → k ≤ length a → values (λ n. get_or a n 0) 0 k ≡ take k a
values-take a k h = values_from a 0 k (omega arith)

-- the values of a list are the list
back_from : {A : Type 0} (d : A) (xs : List A) (f : ℕ → A) (i : ℕ) → ((n : ℕ) → f (i + n) ≡ get_or xs n d) → values f i (length xs) ≡ xs
unfolding values
back_from d [] f i h = refl
back_from {A = A} d (x ∷ xs) f i h =
    let e : f i ≡ x = ap f (sym (add-zero i)) ∙ h 0 in
    let r = back_from d xs f (suc i) (λ n. let q : suc i + n ≡ i + suc n = omega arith in ap f q ∙ h (suc n)) in
    rw (e, r)

pub values_back : {A : Type 0} (d : A) (xs : List A) (f : ℕ → A) → ((n : ℕ) → f n ≡ get_or xs n d) → values f 0 (length xs) ≡ xs
values_back d xs f h = back_from d xs f 0 (λ n. ap f (zero-add n) ∙ h n)

module _ {A : Type 0} (f : ℕ → A) where
  value_from : (d : A) (i k n : ℕ) → n < k → get_or (values f i k) n d ≡ f (i + n)
  unfolding values
  value_from d i zero n h = absurd (omega arith)
  value_from d i (suc k) zero h = ap f (sym (add-zero i))
  value_from d i (suc k) (suc n) h = let e : suc i + n ≡ i + suc n = omega arith in value_from d (suc i) k n (omega arith) ∙ ap f e

  pub value_at : (d : A) (k n : ℕ) → n < k → get_or (values f 0 k) n d ≡ f n
  value_at d k n h = value_from d 0 k n h ∙ ap f (zero-add n)

  -- each value is a member
  pub value_in : (k n : ℕ) → n < k → f n ∈ values f 0 k
  value_in k n h =
      subst (λ (a : A). a ∈ values f 0 k) (value_at (f n) k n h) (at_in (f n) (values f 0 k) n (omega (arith, length-values f 0 k)))

  -- what holds of each value holds of each member
  pub for_values : (P : A → Type 0) (i k : ℕ) → ((n : ℕ) → i ≤ n → n < i + k → P (f n)) → (a : A) → a ∈ values f i k → P a
  unfolding values
  for_values P i zero h a m = absurd (in_nothing m)
  for_values P i (suc k) h a m =
      for_cons P (h i (omega arith) (omega arith)) (for_values P (suc i) k (λ n p q. h n (omega arith) (omega arith))) a m

  -- the values from place i to before place n: the first of them, and the others
  pub values_front : (i n : ℕ) → i < n → values f i (n - i) ≡ f i ∷ values f (suc i) (n - suc i)
  unfolding values
  values_front i n h = let e : n - i ≡ suc (n - suc i) = omega arith in rw e

  pub values_none : (i n : ℕ) → n ≤ i → values f i (n - i) ≡ []
  unfolding values
  values_none i n h = let e : n - i ≡ 0 = omega arith in rw e

  pub map-upto : (m : ℕ) → map f (upto m) ≡ values f 0 m
  unfolding upto values
  map-upto zero = refl
  map-upto (suc m) = map-append f (upto m) (m ∷ []) ∙ rw (map-upto m) (sym (values_snoc f 0 m ∙ rw (zero-add m)))

pub upto-values : (m : ℕ) → upto m ≡ values (λ i. i) 0 m
upto-values m = sym (map-id (upto m)) ∙ map-upto (λ i. i) m
