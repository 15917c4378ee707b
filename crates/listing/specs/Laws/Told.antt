-- Digits read as a number, the most significant first: digit by digit, each ten times the one before.
use Rattle.std.specs.Prelude.{◌⊎◌, ◌≡◌, refl, List, [], ◌∷◌, ◌++◌, ℕ, zero, suc, ◌+◌, ◌*◌, ◌-◌, ◌/◌, ◌%◌, ◌^◌, ◌≤◌, ◌<◌}
use Rattle.std.proofs.Common.{inl, inr, ◌∙◌, lt-ltb, le-ltb}
use native.Mathlib.Omega.{arith, pow_step}
use Rattle.base.specs.Laws.Tests.{le_or_lt}
use Rattle.listing.specs.Listing.{digits}

-- the number that digits tell after the number v
unfoldable pub told : ℕ → List ℕ → ℕ
told v [] = v
told v (d ∷ ds) = told (10 * v + (d - 48)) ds

told_last : (v : ℕ) (ds : List ℕ) (d : ℕ) → told v (ds ++ (d ∷ [])) ≡ 10 * told v ds + (d - 48)
unfolding told
told_last v [] d = refl
told_last v (c ∷ ds) d = told_last (10 * v + (c - 48)) ds d

pub told_digits : (k x : ℕ) → x < 10 ^ k → told 0 (digits k x) ≡ x
unfolding told digits
told_digits zero x h = omega (arith, h)
told_digits (suc k) x h = go (le_or_lt 10 x) (λ g. told_digits k (x / 10) g)
  where
    go : (10 ≤ x) ⊎ (x < 10) → (x / 10 < 10 ^ k → told 0 (digits k (x / 10)) ≡ x / 10) → told 0 (digits (suc k) x) ≡ x
    go (inl g) r = rw (le-ltb x 10 g) (told_last 0 (digits k (x / 10)) (48 + x % 10) ∙ omega (arith, r (omega (arith, h, pow_step 10 k))))
    go (inr g) r = rw (lt-ltb x 10 g) (omega arith)
