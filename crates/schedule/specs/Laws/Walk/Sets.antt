-- A set of processors as the bits of a number: by its lowest bit and the rest. One bit more in front, the lowest member, and the set
-- without it.
use Rattle.std.specs.Prelude.{◌≡◌, ◌⊎◌, ℕ, zero, suc, ◌+◌, ◌*◌, ◌-◌, ◌^◌, ◌/◌, ◌%◌, ◌<◌, eqb, T as Holds}
use Rattle.std.proofs.Common.{sym, ap, ◌∙◌, inl, inr, div-one, pow-suc, arith, eqb→eq}
use Rattle.std.proofs.Math.Nat.{div-div-eq-div-mul}
use Rattle.std.specs.Int.Bits.{bit_and, and_step, and_self}
use Rattle.std.specs.Int.Count.{count_trailing_zeros, under}
use Rattle.base.specs.Laws.Tests.{eq→eqb, same_or_not}
use Rattle.schedule.specs.CoverPass.{has}

-- a bit is 0 or 1
bit : (set : ℕ) → (set % 2 ≡ 0) ⊎ (set % 2 ≡ 1)
bit set = go (same_or_not (set % 2) 0)
  where
    go : (set % 2 ≡ 0) ⊎ (set % 2 ≡ 0 → ⊥) → (set % 2 ≡ 0) ⊎ (set % 2 ≡ 1)
    go (inl e) = inl e
    go (inr n) = inr (omega arith)

-- the empty set has no member
pub in_empty : (P : ℕ) → Holds (has 0 P) → ⊥
unfolding has
in_empty zero h = h
in_empty (suc P) h = in_empty P h

-- a set of k bits has none from k on
pub member_below : (k set P : ℕ) → set < 2 ^ k → Holds (has set P) → P < k
unfolding has
member_below zero set P b h = let e : set ≡ 0 = omega arith in absurd (in_empty P (rw e at h))
member_below (suc k) set zero b h = omega arith
member_below (suc k) set (suc P) b h = omega (arith, member_below k (set / 2) P (omega arith) h)

-- a member by its bit
bit_at : (set P : ℕ) → has set P ≡ eqb (set / 2 ^ P % 2) 1
unfolding has
bit_at set zero = ap (λ (x : ℕ). eqb (x % 2) 1) (sym (div-one set))
bit_at set (suc P) =
    let double : 2 * 2 ^ P ≡ 2 ^ suc P = omega (arith, pow-suc 2 P) in
    bit_at (set / 2) P ∙ ap (λ (x : ℕ). eqb (x % 2) 1) (div-div-eq-div-mul set 2 (2 ^ P) ∙ ap (λ (x : ℕ). set / x) double)

pub bit_in : (set P : ℕ) → set / 2 ^ P % 2 ≡ 1 → Holds (has set P)
bit_in set P e = rw (bit_at set P) (eq→eqb (set / 2 ^ P % 2) 1 e)

pub bit_of : (set P : ℕ) → (set / 2 ^ P % 2 ≡ 1 → ⊥) → Holds (has set P) → ⊥
bit_of set P n h = n (eqb→eq (set / 2 ^ P % 2) 1 (rw (bit_at set P) at h))

-- ---- one bit more in front

pub front_in : (set more b : ℕ) → b < 2 → more ≡ set + set + b → has more zero ≡ eqb b 1
unfolding has
front_in set more b h e = let d : more % 2 ≡ b = omega arith in rw d

pub behind : (set more b P : ℕ) → b < 2 → more ≡ set + set + b → has more (suc P) ≡ has set P
unfolding has
behind set more b P h e = let d : more / 2 ≡ set = omega arith in rw d

-- ---- the lowest member

-- it is one, ..
pub lowest_in_lem : (k set : ℕ) → 0 < set → set < 2 ^ k → Holds (has set (count_trailing_zeros k set))
unfolding has count_trailing_zeros
lowest_in_lem zero set h b = absurd (omega arith)
lowest_in_lem (suc k) set h b = go (bit set) (lowest_in_lem k (set / 2))
  where
    go : (set % 2 ≡ 0) ⊎ (set % 2 ≡ 1) → (0 < set / 2 → set / 2 < 2 ^ k → Holds (has (set / 2) (count_trailing_zeros k (set / 2))))
        → Holds (has set (under (set % 2) (count_trailing_zeros k (set / 2))))
    go (inl e) r = rw e (r (omega arith) (omega arith))
    go (inr e) r = rw e (eq→eqb (set % 2) 1 e)

-- .. and none is below it
pub lowest_first : (k set P : ℕ) → P < count_trailing_zeros k set → Holds (has set P) → ⊥
unfolding has count_trailing_zeros
lowest_first zero set P h m = absurd (omega arith)
lowest_first (suc k) set P h m = go (bit set) P h m (lowest_first k (set / 2))
  where
    go : (set % 2 ≡ 0) ⊎ (set % 2 ≡ 1) → (P : ℕ) → P < under (set % 2) (count_trailing_zeros k (set / 2)) → Holds (has set P)
        → ((P : ℕ) → P < count_trailing_zeros k (set / 2) → Holds (has (set / 2) P) → ⊥) → ⊥
    go (inl e) zero h m r = rw e at m
    go (inl e) (suc P) h m r = r P (omega (arith, rw e at h)) m
    go (inr e) P h m r = absurd (omega (arith, rw e at h))

-- ---- the set without it

-- by its lowest bit: an odd set loses that, an even one keeps it 0 and loses its lowest member among the rest
odd_left : (set : ℕ) → set % 2 ≡ 1 → bit_and set (set - 1) ≡ set / 2 + set / 2 + 0
odd_left set e =
    let half : (set - 1) / 2 ≡ set / 2 = omega arith in
    let none : (set - 1) % 2 ≡ 0 = omega arith in
    omega (arith, rw (half, none, and_self (set / 2), e) at (and_step set (set - 1)))

even_left : (set : ℕ) → 0 < set → set % 2 ≡ 0
    → bit_and set (set - 1) ≡ bit_and (set / 2) (set / 2 - 1) + bit_and (set / 2) (set / 2 - 1) + 0
even_left set h e =
    let half : (set - 1) / 2 ≡ set / 2 - 1 = omega arith in
    omega (arith, rw (half, e) at (and_step set (set - 1)))

-- it has members of the set alone, and not the lowest
pub left_of : (k set P : ℕ) → 0 < set → set < 2 ^ k → Holds (has (bit_and set (set - 1)) P)
    → Holds (has set P) × (P ≡ count_trailing_zeros k set → ⊥)
unfolding has count_trailing_zeros
left_of zero set P h b m = absurd (omega arith)
left_of (suc k) set P h b m = go (bit set) P m (left_of k (set / 2))
  where
    go : (set % 2 ≡ 0) ⊎ (set % 2 ≡ 1) → (P : ℕ) → Holds (has (bit_and set (set - 1)) P)
        → ((P : ℕ) → 0 < set / 2 → set / 2 < 2 ^ k → Holds (has (bit_and (set / 2) (set / 2 - 1)) P)
        → Holds (has (set / 2) P) × (P ≡ count_trailing_zeros k (set / 2) → ⊥))
        → Holds (has set P) × (P ≡ under (set % 2) (count_trailing_zeros k (set / 2)) → ⊥)
    go (inl e) zero m r = absurd (rw (front_in _ _ 0 (omega arith) (even_left set h e)) at m)
    go (inl e) (suc P) m r =
        let z = r P (omega arith) (omega arith) (rw (behind _ _ 0 P (omega arith) (even_left set h e)) at m) in
        (z.0, λ q. z.1 (omega (arith, rw e at q)))
    go (inr e) zero m r = absurd (rw (front_in _ _ 0 (omega arith) (odd_left set e)) at m)
    go (inr e) (suc P) m r = (rw (behind _ _ 0 P (omega arith) (odd_left set e)) at m, λ q. absurd (omega (arith, rw e at q)))

-- and each other one
pub left_in : (k set P : ℕ) → 0 < set → set < 2 ^ k → Holds (has set P) → (P ≡ count_trailing_zeros k set → ⊥)
    → Holds (has (bit_and set (set - 1)) P)
unfolding has count_trailing_zeros
left_in zero set P h b m d = absurd (omega arith)
left_in (suc k) set P h b m d = go (bit set) P m d (left_in k (set / 2))
  where
    go : (set % 2 ≡ 0) ⊎ (set % 2 ≡ 1) → (P : ℕ) → Holds (has set P) → (P ≡ under (set % 2) (count_trailing_zeros k (set / 2)) → ⊥)
        → ((P : ℕ) → 0 < set / 2 → set / 2 < 2 ^ k → Holds (has (set / 2) P) → (P ≡ count_trailing_zeros k (set / 2) → ⊥)
        → Holds (has (bit_and (set / 2) (set / 2 - 1)) P))
        → Holds (has (bit_and set (set - 1)) P)
    go (inl e) zero m d r = absurd (rw e at m)
    go (inl e) (suc P) m d r =
        rw (behind _ _ 0 P (omega arith) (even_left set h e)) (r P (omega arith) (omega arith) m (λ q. d (rw e (ap suc q))))
    go (inr e) zero m d r = absurd (d (rw e))
    go (inr e) (suc P) m d r = rw (behind _ _ 0 P (omega arith) (odd_left set e)) m
