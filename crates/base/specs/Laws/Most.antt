-- The greatest and the sum of a row of numbers: by place, one place more, up to a place, of two rows. By induction on their number.
use Rattle.std.specs.Prelude.{◌≡◌, refl, ◌⊎◌, Bool, [], ◌∷◌, ℕ, zero, suc, ◌+◌, ◌≤◌, ◌<◌, max, ltb}
use Rattle.std.proofs.Common.{sym, ◌∙◌, inl, inr, add-one, arith, ltb→lt, lt→ltb}
use Rattle.base.specs.Choice.{pick}
use Rattle.base.specs.Lists.{upto, greatest}
use Rattle.base.specs.Rows.{sum, one_if, most}
use Rattle.base.specs.Laws.Tests.{fails, pick_yes, pick_no, le_or_lt}
use Rattle.base.specs.Laws.Lists.{greatest-append}
use Rattle.base.specs.Laws.Sums.{one_if_most, sum_same}

pub most_ge : (n : ℕ) (f : ℕ → ℕ) (i : ℕ) → i < n → f i ≤ most n f
unfolding most
most_ge zero f i h = absurd (omega arith)
most_ge (suc n) f i h = go (le_or_lt (suc i) n) (λ k. most_ge n f i k)
  where
    go : (suc i ≤ n) ⊎ (n < suc i) → (i < n → f i ≤ most n f) → f i ≤ max (most n f) (f n)
    go (inl k) r = omega (arith, r k)
    go (inr k) r = let e : i ≡ n = omega arith in rw e (omega arith)

pub most_at : (n : ℕ) (f : ℕ → ℕ) (t : ℕ) → t < most n f → (i : ℕ) × (i < n) × (t < f i)
unfolding most
most_at zero f t h = absurd (omega arith)
most_at (suc n) f t h = go (le_or_lt (suc t) (f n)) (λ k. most_at n f t k)
  where
    go : (suc t ≤ f n) ⊎ (f n < suc t) → (t < most n f → (i : ℕ) × (i < n) × (t < f i)) → (i : ℕ) × (i < suc n) × (t < f i)
    go (inl k) r = (n, omega arith, k)
    go (inr k) r = let z = r (omega arith) in (z.0, omega (arith, z.1), z.2)

-- a bound on each place is a bound on the greatest
pub most_below : (n : ℕ) (f : ℕ → ℕ) (b : ℕ) → ((i : ℕ) → i < n → f i ≤ b) → most n f ≤ b
most_below n f b h = go (le_or_lt (most n f) b)
  where
    go : (most n f ≤ b) ⊎ (b < most n f) → most n f ≤ b
    go (inl k) = k
    go (inr k) = let z = most_at n f b k in absurd (omega (arith, h z.0 z.1, z.2))

pub most_same : (n : ℕ) (f g : ℕ → ℕ) → ((i : ℕ) → i < n → f i ≡ g i) → most n f ≡ most n g
unfolding most
most_same zero f g h = refl
most_same (suc n) f g h = omega (arith, h n (omega arith), most_same n f g (λ i k. h i (omega arith)))

pub most_max : (n : ℕ) (f g : ℕ → ℕ) → most n (λ i. max (f i) (g i)) ≡ max (most n f) (most n g)
unfolding most
most_max zero f g = refl
most_max (suc n) f g = omega (arith, most_max n f g)

pub most_more : (n : ℕ) (f : ℕ → ℕ) → most (n + 1) f ≡ max (most n f) (f n)
unfolding most
most_more n f = rw add-one

pub sum_more : (n : ℕ) (f : ℕ → ℕ) → sum (n + 1) f ≡ sum n f + f n
unfolding sum
sum_more n f = rw add-one

-- 0 from place a on
pub most_cut : (n a : ℕ) (f : ℕ → ℕ) → a ≤ n → ((i : ℕ) → a ≤ i → i < n → f i ≡ 0) → most n f ≡ most a f
unfolding most
most_cut zero a f h z = let e : a ≡ 0 = omega arith in rw e
most_cut (suc n) a f h z = go (le_or_lt a n) (λ k. most_cut n a f k (λ i p q. z i p (omega arith)))
  where
    go : (a ≤ n) ⊎ (n < a) → (a ≤ n → most n f ≡ most a f) → max (most n f) (f n) ≡ most a f
    go (inl k) r = omega (arith, r k, z n k (omega arith))
    go (inr k) r = let e : a ≡ suc n = omega arith in rw e

pub sum_cut : (n a : ℕ) (f : ℕ → ℕ) → a ≤ n → ((i : ℕ) → a ≤ i → i < n → f i ≡ 0) → sum n f ≡ sum a f
unfolding sum
sum_cut zero a f h z = let e : a ≡ 0 = omega arith in rw e
sum_cut (suc n) a f h z = go (le_or_lt a n) (λ k. sum_cut n a f k (λ i p q. z i p (omega arith)))
  where
    go : (a ≤ n) ⊎ (n < a) → (a ≤ n → sum n f ≡ sum a f) → sum n f + f n ≡ sum a f
    go (inl k) r = omega (arith, r k, z n k (omega arith))
    go (inr k) r = let e : a ≡ suc n = omega arith in rw e

-- 0 at each place
pub most_none : (n : ℕ) (f : ℕ → ℕ) → ((i : ℕ) → i < n → f i ≡ 0) → most n f ≡ 0
unfolding most
most_none n f z = most_cut n 0 f (omega arith) (λ i a b. z i b)

pub sum_none : (n : ℕ) (f : ℕ → ℕ) → ((i : ℕ) → i < n → f i ≡ 0) → sum n f ≡ 0
unfolding sum
sum_none n f z = sum_cut n 0 f (omega arith) (λ i a b. z i b)

-- 0 from place a on, and f before it
abbrev pub until : ℕ → (ℕ → ℕ) → ℕ → ℕ
until a f k = pick (ltb k a) (f k) 0

pub until_before : (a : ℕ) (f : ℕ → ℕ) (k : ℕ) → k < a → until a f k ≡ f k
until_before a f k h = pick_yes (ltb k a) (f k) 0 (lt→ltb k a h)

pub until_past : (a : ℕ) (f : ℕ → ℕ) (k : ℕ) → a ≤ k → until a f k ≡ 0
until_past a f k h = pick_no (ltb k a) (f k) 0 (fails (ltb k a) (λ t. absurd (omega (arith, ltb→lt k a t))))

pub most_until : (n a : ℕ) (f : ℕ → ℕ) → a ≤ n → most a f ≡ most n (until a f)
most_until n a f h =
    most_same a f (until a f) (λ k b. sym (until_before a f k b)) ∙ sym (most_cut n a (until a f) h (λ k b c. until_past a f k b))

pub sum_until : (n a : ℕ) (f : ℕ → ℕ) → a ≤ n → sum a f ≡ sum n (until a f)
sum_until n a f h =
    sum_same a f (until a f) (λ k b. sym (until_before a f k b)) ∙ sym (sum_cut n a (until a f) h (λ k b c. until_past a f k b))

-- no more of n places pass a test than there are
pub count_most : (n : ℕ) (p : ℕ → Bool) → sum n (λ i. one_if (p i)) ≤ n
unfolding sum
count_most zero p = omega arith
count_most (suc n) p = omega (arith, count_most n p, one_if_most (p n))

-- of no place
pub none_yet : (f : ℕ → ℕ) → ◌≡◌ {A = ℕ} 0 (most 0 f)
unfolding most
none_yet f = refl

-- one place more: the greater of the greatest so far and the one here
pub one_place : (f : ℕ → ℕ) (k before after : ℕ) → before ≡ most k f → after ≡ max before (f k) → after ≡ most (k + 1) f
one_place f k before after e d = omega (arith, most_more k f)

-- the greatest over 0, 1, .. , n - 1
pub greatest-upto : (f : ℕ → ℕ) (n : ℕ) → greatest f (upto n) ≡ most n f
unfolding greatest upto most
greatest-upto f zero = refl
greatest-upto f (suc n) = omega (arith, greatest-append f (upto n) (n ∷ []), greatest-upto f n)
