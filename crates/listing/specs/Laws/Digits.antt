-- The digits of a number, written from the last of ten places to the first: what is not written yet are the digits of what is left.
use Rattle.std.specs.Prelude.{Bool, true, false, ◌≡◌, List, [], ◌∷◌, ◌++◌, ℕ, zero, suc, ◌+◌, ◌-◌, ◌/◌, ◌%◌, ◌^◌, ◌≤◌, ◌<◌, ltb, length}
use Rattle.std.specs.Prelude.{set, drop}
use Rattle.std.proofs.Common.{sym, ◌∙◌, append-nil, append_assoc, lt-ltb, le-ltb, length-set, length-append, drop_of_length-le, drop-cons}
use Rattle.std.proofs.Common.{drop-set-lt, get_or-set_same, lt-length-set}
use native.Mathlib.Omega.{arith, pow_step}
use Rattle.base.specs.Choice.{pick}
use Rattle.listing.specs.Listing.{digits, decimal, field}

-- a place that was set, and those after it
drop_of_set : (l : List ℕ) (i v : ℕ) → i < length l → drop i (set l i v) ≡ v ∷ drop (suc i) l
drop_of_set l i v h =
    drop-cons (set l i v) i 0 (lt-length-set l i v h)
    ∙ rw (get_or-set_same l i v 0 h, drop-set-lt (suc i) l i v (omega arith))

-- the digits after place `at` are written, and those of `rest` are due up to it
pub record Spelt (x : ℕ) (places : List ℕ) (at rest : ℕ) : Type 0 where
  pub within : at < 10
  pub size : length places ≡ 10
  pub small : rest < 10 ^ suc at
  pub says : decimal x ≡ digits (suc at) rest ++ drop (suc at) places

pub spelt_none : (x : ℕ) (places : List ℕ) → x < 2 ^ 32 → length places ≡ 10 → Spelt x places 9 x
unfolding decimal
spelt_none x places h e = record {
  within = omega arith;
  size = e;
  small = omega arith;
  says = rw (drop_of_length-le places {i = 10} (omega (arith, e))) (sym (append-nil (digits 10 x)));
}

-- one digit more
pub spelt_more : (x : ℕ) (places : List ℕ) (at rest : ℕ) → Spelt x places at rest → 9 < rest
    → (0 < at) × Spelt x (set places at (48 + rest % 10)) (at - 1) (rest / 10)
unfolding digits
spelt_more x places zero rest S h = absurd (omega (arith, S.small, h))
spelt_more x places (suc k) rest S h =
    let d = 48 + rest % 10 in
    let e : suc k - 1 ≡ k = omega arith in (
      omega arith,
      rw e (record {
        within = omega (arith, S.within);
        size = length-set places (suc k) d ∙ S.size;
        small = omega (arith, S.small, pow_step 10 (suc k));
        says =
            S.says
            ∙ rw (
              le-ltb rest 10 h,
              append_assoc (digits (suc k) (rest / 10)) (d ∷ []) (drop (suc (suc k)) places),
              drop_of_set places (suc k) d (omega (arith, S.within, S.size)),
            );
      }),
    )

-- the first digit
pub spelt_all : (x : ℕ) (places : List ℕ) (at rest : ℕ) → Spelt x places at rest → rest ≤ 9
    → drop at (set places at (48 + rest)) ≡ decimal x
unfolding digits
spelt_all x places at rest S h =
    drop_of_set places at (48 + rest) (omega (arith, S.within, S.size)) ∙ sym (S.says ∙ rw (lt-ltb rest 10 (omega arith)))

-- ---- lengths

digits_length : (k x : ℕ) → length (digits k x) ≤ k
unfolding digits
digits_length zero x = omega arith
digits_length (suc k) x = go (ltb x 10) (length-append (digits k (x / 10)) ((48 + x % 10) ∷ [])) (digits_length k (x / 10))
  where
    go : (b : Bool) → length (digits k (x / 10) ++ ((48 + x % 10) ∷ [])) ≡ length (digits k (x / 10)) + 1 → length (digits k (x / 10)) ≤ k
        → length (pick b ((48 + x) ∷ []) (digits k (x / 10) ++ ((48 + x % 10) ∷ []))) ≤ suc k
    go true e h = omega arith
    go false e h = omega arith

pub decimal_length : (x : ℕ) → length (decimal x) ≤ 10
unfolding decimal
decimal_length x = digits_length 10 x

pub field_length : (x next : ℕ) → length (field x next) ≤ 11
unfolding field
field_length x next = omega (arith, decimal_length x, length-append (decimal x) (next ∷ []))
