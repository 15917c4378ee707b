-- Sums over the numbers below n, and how many of them pass a test. By induction on n.
use Rattle.std.specs.Prelude.{◌≡◌, refl, ◌⊎◌, Bool, true, false, not, List, [], ◌∷◌, ◌++◌, ℕ, zero, suc, ◌+◌, ◌*◌, ◌≤◌, ◌<◌, T as Holds}
use Rattle.std.specs.Prelude.{length}
use Rattle.std.proofs.Common.{ap, inl, inr, add-zero, add-suc, arith}
use Rattle.base.specs.Choice.{pick}
use Rattle.base.specs.Lists.{upto, filter}
use Rattle.base.specs.Rows.{sum, one_if}
use Rattle.base.specs.Laws.Tests.{le_or_lt}

pub one_if_yes : (b : Bool) → Holds b → one_if b ≡ 1
unfolding one_if
one_if_yes true h = refl
one_if_yes false h = absurd h

pub one_if_no : (b : Bool) → Holds (not b) → one_if b ≡ 0
unfolding one_if
one_if_no true h = absurd h
one_if_no false h = refl

pub sum_le : (n : ℕ) (f g : ℕ → ℕ) → ((i : ℕ) → i < n → f i ≤ g i) → sum n f ≤ sum n g
unfolding sum
sum_le zero f g h = omega arith
sum_le (suc n) f g h = omega (arith, h n (omega arith), sum_le n f g (λ i k. h i (omega arith)))

pub sum_same : (n : ℕ) (f g : ℕ → ℕ) → ((i : ℕ) → i < n → f i ≡ g i) → sum n f ≡ sum n g
unfolding sum
sum_same zero f g h = refl
sum_same (suc n) f g h = omega (arith, h n (omega arith), sum_same n f g (λ i k. h i (omega arith)))

pub sum_add : (n : ℕ) (f g : ℕ → ℕ) → sum n (λ i. f i + g i) ≡ sum n f + sum n g
unfolding sum
sum_add zero f g = refl
sum_add (suc n) f g = omega (arith, sum_add n f g)

pub sum_each : (n c : ℕ) → sum n (λ i. c) ≡ n * c
unfolding sum
sum_each zero c = omega arith
sum_each (suc n) c = omega (arith, sum_each n c)

-- a double sum may be taken in either order
pub sum_swap : (a b : ℕ) (f : ℕ → ℕ → ℕ) → sum a (λ i. sum b (λ j. f i j)) ≡ sum b (λ j. sum a (λ i. f i j))
unfolding sum
sum_swap zero b f = omega (arith, sum_each b 0)
sum_swap (suc a) b f = omega (arith, sum_swap a b f, sum_add b (λ j. sum a (λ i. f i j)) (λ j. f a j))

-- a sum of terms of which only the one at p is not 0
pub sum_only : (n p : ℕ) (f : ℕ → ℕ) → ((i : ℕ) → i < n → ¬ (i ≡ p) → f i ≡ 0) → p < n → sum n f ≡ f p
unfolding sum
sum_only zero p f z h = absurd (omega arith)
sum_only (suc n) p f z h = go (le_or_lt (suc p) n) (λ k. sum_only n p f (λ i q. z i (omega arith)) k)
  where
    rest : (k : ℕ) → k ≤ n → n ≡ p → sum k f ≡ 0
    rest zero q e = refl
    rest (suc k) q e = omega (arith, rest k (omega arith) e, z k (omega arith) (omega arith))

    go : (p < n) ⊎ (n < suc p) → (p < n → sum n f ≡ f p) → sum n f + f n ≡ f p
    go (inl k) r = omega (arith, r k, z n (omega arith) (omega arith))
    go (inr k) r = let e : n ≡ p = omega arith in omega (arith, rest n (omega arith) e, ap f e)

-- terms of at most 1, no two of which are 1, sum to at most 1
pub sum_at_most_one : (n : ℕ) (f : ℕ → ℕ) → ((i : ℕ) → i < n → f i ≤ 1)
    → ((i j : ℕ) → i < j → j < n → 1 ≤ f i → 1 ≤ f j → ⊥) → sum n f ≤ 1
unfolding sum
sum_at_most_one zero f h d = omega arith
sum_at_most_one (suc n) f h d = go (le_or_lt 1 (f n)) (sum_at_most_one n f (λ i k. h i (omega arith)) (λ i j p q. d i j p (omega arith)))
  where
    none_at : (k : ℕ) → k < n → 1 ≤ f n → (1 ≤ f k) ⊎ (f k < 1) → f k ≡ 0
    none_at k q e (inl y) = absurd (d k n q (omega arith) y e)
    none_at k q e (inr y) = omega arith

    rest : (k : ℕ) → k ≤ n → 1 ≤ f n → sum k f ≡ 0
    rest zero q e = refl
    rest (suc k) q e = omega (arith, rest k (omega arith) e, none_at k (omega arith) e (le_or_lt 1 (f k)))

    go : (1 ≤ f n) ⊎ (f n < 1) → sum n f ≤ 1 → sum n f + f n ≤ 1
    go (inl k) r = omega (arith, rest n (omega arith) k, h n (omega arith))
    go (inr k) r = omega arith

length-filter_snoc : (p : ℕ → Bool) (l : List ℕ) (a : ℕ)
    → length (filter p (l ++ (a ∷ []))) ≡ length (filter p l) + one_if (p a)
unfolding filter one_if
length-filter_snoc p [] a = go (p a)
  where
    go : (b : Bool) → length (pick b (a ∷ []) []) ≡ 0 + one_if b
    go true = refl
    go false = refl
length-filter_snoc p (x ∷ l) a = go (p x) (length-filter_snoc p l a)
  where
    go : (b : Bool) → length (filter p (l ++ (a ∷ []))) ≡ length (filter p l) + one_if (p a)
        → length (pick b (x ∷ filter p (l ++ (a ∷ []))) (filter p (l ++ (a ∷ []))))
        ≡ length (pick b (x ∷ filter p l) (filter p l)) + one_if (p a)
    go true r = omega arith
    go false r = r

-- how many numbers below n pass a test, counted two ways
pub length-filter : (n : ℕ) (p : ℕ → Bool) → length (filter p (upto n)) ≡ sum n (λ i. one_if (p i))
unfolding upto filter sum
length-filter zero p = refl
length-filter (suc n) p = omega (arith, length-filter_snoc p (upto n) n, length-filter n p)

pub sum_ge : (n : ℕ) (f : ℕ → ℕ) (i : ℕ) → i < n → f i ≤ sum n f
unfolding sum
sum_ge zero f i h = absurd (omega arith)
sum_ge (suc n) f i h = go (le_or_lt (suc i) n) (λ k. sum_ge n f i k)
  where
    go : (i < n) ⊎ (n < suc i) → (i < n → f i ≤ sum n f) → f i ≤ sum n f + f n
    go (inl k) r = omega (arith, r k)
    go (inr k) r = let e : i ≡ n = omega arith in omega (arith, ap f e)

-- a sum falls where one term falls and none rises
pub sum_less : (n p : ℕ) (f g : ℕ → ℕ) → ((i : ℕ) → i < n → f i ≤ g i) → p < n → f p < g p → sum n f < sum n g
unfolding sum
sum_less zero p f g h b l = absurd (omega arith)
sum_less (suc n) p f g h b l = go (le_or_lt (suc p) n) (λ k. sum_less n p f g (λ i q. h i (omega arith)) k l)
  where
    go : (p < n) ⊎ (n < suc p) → (p < n → sum n f < sum n g) → sum n f + f n < sum n g + g n
    go (inl k) r = omega (arith, r k, h n (omega arith))
    go (inr k) r =
        let e : p ≡ n = omega arith in
        omega (arith, ap f e, ap g e, sum_le n f g (λ i q. h i (omega arith)))

pub one_if_le : (a b : Bool) → (Holds a → Holds b) → one_if a ≤ one_if b
unfolding one_if
one_if_le true true h = omega arith
one_if_le true false h = absurd (h tt)
one_if_le false true h = omega arith
one_if_le false false h = omega arith

pub one_if_most : (b : Bool) → one_if b ≤ 1
unfolding one_if
one_if_most true = omega arith
one_if_most false = omega arith

pub one_if_of : (b : Bool) → 1 ≤ one_if b → Holds b
unfolding one_if
one_if_of true h = tt
one_if_of false h = absurd (omega arith)

-- a sum grows by at most c a tick over k ticks in which no term passes c
pub sum_stretch : (f : ℕ → ℕ) (a k c : ℕ) → ((t : ℕ) → a ≤ t → t < a + k → f t ≤ c) → sum (a + k) f ≤ sum a f + k * c
unfolding sum
sum_stretch f a zero c h = rw (add-zero a) (omega arith)
sum_stretch f a (suc k) c h =
    rw (add-suc a k) (omega (arith, h (a + k) (omega arith) (omega arith), sum_stretch f a k c (λ t p q. h t p (omega arith))))

pub sum_grows : (f : ℕ → ℕ) (a b : ℕ) → a ≤ b → sum a f ≤ sum b f
unfolding sum
sum_grows f a zero h = let e : a ≡ 0 = omega arith in rw e (omega arith)
sum_grows f a (suc b) h = go (le_or_lt a b) (λ k. sum_grows f a b k)
  where
    go : (a ≤ b) ⊎ (b < a) → (a ≤ b → sum a f ≤ sum b f) → sum a f ≤ sum b f + f b
    go (inl k) r = omega (arith, r k)
    go (inr k) r = let e : a ≡ suc b = omega arith in rw e (omega arith)
