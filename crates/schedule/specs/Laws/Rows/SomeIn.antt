-- A test over a row of places: that one place passes it, or some two, and what a loop over the places has left to ask.
use Rattle.std.specs.Prelude.{◌≡◌, ◌⊎◌, Bool, true, false, ◌||◌}
use Rattle.std.proofs.Math.Path.{refl, ap}
use Rattle.std.proofs.Common.{◌∙◌, subst, inl, inr}
use Rattle.std.specs.List.{list_any, range_with_len}
use Prim.Native.Nat.{ℕ, zero, suc, ◌+◌, ◌-◌, ◌≤◌, ◌<◌}
use Rattle.std.proofs.Math.Numerals.{add-one}
use native.Mathlib.Omega.{arith}
use Rattle.std.proofs.Math.Dec.{T as Holds}
use Rattle.base.specs.Lists.{values, any}
use Rattle.base.specs.Laws.Tests.{or_left, or_right, or_cases, le_or_lt}
use Rattle.schedule.specs.Pass.{some_in_places}

module _ (f : ℕ → Bool) where
  pub some_of : (i k n : ℕ) → i ≤ n → n < i + k → Holds (f n) → Holds (some_in_places f i k)
  unfolding some_in_places
  some_of i zero n a b h = absurd (omega arith)
  some_of i (suc k) n a b h = go (le_or_lt n i) (λ q. some_of (suc i) k n q (omega arith) h)
    where
      go : (n ≤ i) ⊎ (i < n) → (i < n → Holds (some_in_places f (suc i) k)) → Holds (f i || some_in_places f (suc i) k)
      go (inl q) r = let e : n ≡ i = omega arith in or_left (f i) (some_in_places f (suc i) k) (subst (λ (x : ℕ). Holds (f x)) e h)
      go (inr q) r = or_right (f i) (some_in_places f (suc i) k) (r q)

  pub some_at : (i k : ℕ) → Holds (some_in_places f i k) → (n : ℕ) × (i ≤ n) × (n < i + k) × Holds (f n)
  unfolding some_in_places
  some_at i zero h = absurd h
  some_at i (suc k) h = go (or_cases (f i) (some_in_places f (suc i) k) h) (some_at (suc i) k)
    where
      go : Holds (f i) ⊎ Holds (some_in_places f (suc i) k)
          → (Holds (some_in_places f (suc i) k) → (n : ℕ) × (suc i ≤ n) × (n < suc i + k) × Holds (f n))
          → (n : ℕ) × (i ≤ n) × (n < i + suc k) × Holds (f n)
      go (inl q) r = (i, omega arith, omega arith, q)
      go (inr q) r = let z = r q in (z.0, omega (arith, z.1), omega (arith, z.2), z.3)

  -- a loop over the places to before m: none is left, the test passes, it fails
  pub none_left : (i m : ℕ) → m ≤ i → some_in_places f i (m - i) ≡ false
  unfolding some_in_places
  none_left i m h = let e : m - i ≡ 0 = omega arith in rw e

  pub met : (i m : ℕ) → i < m → f i ≡ true → some_in_places f i (m - i) ≡ true
  unfolding some_in_places
  met i m h t = let e : m - i ≡ suc (m - (i + 1)) = omega arith in rw (e, t)

  pub passed : (i m : ℕ) → i < m → f i ≡ false → some_in_places f i (m - i) ≡ some_in_places f (i + 1) (m - (i + 1))
  unfolding some_in_places
  passed i m h t = let e : m - i ≡ suc (m - (i + 1)) = omega arith in rw (e, t, ← add-one i)

-- as `any` over a range asks it
pub any_in_range : (f : ℕ → Bool) (i k : ℕ) → list_any f (range_with_len i k) ≡ some_in_places f i k
unfolding some_in_places
any_in_range f i zero = refl
any_in_range f i (suc k) = rw (any_in_range f (i + 1) k, add-one)

pub some_same : (f g : ℕ → Bool) (i k : ℕ) → ((n : ℕ) → i ≤ n → n < i + k → f n ≡ g n) → some_in_places f i k ≡ some_in_places g i k
unfolding some_in_places
some_same f g i zero h = refl
some_same f g i (suc k) h =
    let t = some_same f g (suc i) k (λ n a b. h n (omega arith) (omega arith)) in
    rw (h i (omega arith) (omega arith), t)

-- a test of some two of the first m places
module _ (p : ℕ → ℕ → Bool) (m : ℕ) where
  abbrev pub some_pair : Bool
  some_pair = some_in_places (λ i. some_in_places (p i) 0 m) 0 m

  pub pair_of : (i k : ℕ) → i < m → k < m → Holds (p i k) → Holds some_pair
  pair_of i k a b h =
      some_of (λ n. some_in_places (p n) 0 m) 0 m i (omega arith) (omega arith) (some_of (p i) 0 m k (omega arith) (omega arith) h)

  pub pair_at_lem : Holds some_pair → (i : ℕ) × (k : ℕ) × (i < m) × (k < m) × Holds (p i k)
  pair_at_lem h =
      let x = some_at (λ n. some_in_places (p n) 0 m) 0 m h in
      let y = some_at (p x.0) 0 m x.3 in
      (x.0, y.0, omega (arith, x.2), omega (arith, y.2), y.3)

-- ---- a test of the values of a row

module _ {A : Type 0} (f : ℕ → A) where
  pub any_value : (p : A → Bool) (i k : ℕ) → any p (values f i k) ≡ some_in_places (λ n. p (f n)) i k
  unfolding any values some_in_places
  any_value p i zero = refl
  any_value p i (suc k) = ap (λ (b : Bool). p (f i) || b) (any_value p (suc i) k)

  pub any_pair : (p : A → A → Bool) (m : ℕ) → any (λ u. any (p u) (values f 0 m)) (values f 0 m) ≡ some_pair (λ i k. p (f i) (f k)) m
  any_pair p m =
      any_value (λ u. any (p u) (values f 0 m)) 0 m
      ∙ some_same (λ i. any (p (f i)) (values f 0 m)) (λ i. some_in_places (λ k. p (f i) (f k)) 0 m) 0 m (λ i a b. any_value (p (f i)) 0 m)
