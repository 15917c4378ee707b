-- Numbers and their bytes: each way back gives the same.
use Rattle.std.specs.Prelude.{◌≡◌, refl, List, [], ◌∷◌, ℕ, zero, suc, ◌+◌, ◌*◌, ◌/◌, ◌%◌, ◌^◌, ◌≤◌, ◌<◌, length, get_or, take, drop}
use Rattle.std.proofs.Common.{ap, add-one, arith, drop-cons}
use Rattle.std.proofs.Math.Nat.{pow-succ'}
use Rattle.base.specs.Number.{number, bytes, Bytes, none, more}

pub length_bytes : (k x : ℕ) → length (bytes k x) ≡ k
unfolding bytes
length_bytes zero x = refl
length_bytes (suc k) x = ap suc (length_bytes k (x / 256))

pub bytes_are : (k x : ℕ) → Bytes (bytes k x)
unfolding bytes
bytes_are zero x = none
bytes_are (suc k) x =
    let h : x % 256 < 256 = omega arith in
    more h (bytes_are k (x / 256))

pub number_bytes : (k x : ℕ) → x < 256 ^ k → number (bytes k x) ≡ x
unfolding number bytes
number_bytes zero x h = omega arith
number_bytes (suc k) x h =
    let h' : x < 256 * 256 ^ k = rw (pow-succ' 256 k) at h in
    let e : number (bytes k (x / 256)) ≡ x / 256 = number_bytes k (x / 256) (omega arith) in
    omega arith

pub bytes_number : (bs : List ℕ) → Bytes bs → bytes (length bs) (number bs) ≡ bs
unfolding number bytes
bytes_number [] none = refl
bytes_number (b ∷ bs) (more h r) =
    let e : (b + 256 * number bs) % 256 ≡ b = omega arith in
    let d : (b + 256 * number bs) / 256 ≡ number bs = omega arith in
    rw (e, d) (ap (λ (l : List ℕ). b ∷ l) (bytes_number bs r))

-- two and four bytes at a place
pub two_at : (l : List ℕ) (at : ℕ) → at + 2 ≤ length l → take 2 (drop at l) ≡ get_or l at 0 ∷ get_or l (at + 1) 0 ∷ []
two_at l at h = rw (drop-cons l at 0 (omega arith), add-one, drop-cons l (suc at) 0 (omega arith))

pub four_at : (l : List ℕ) (at : ℕ) → at + 4 ≤ length l →
    take 4 (drop at l) ≡ get_or l at 0 ∷ get_or l (at + 1) 0 ∷ get_or l (at + 2) 0 ∷ get_or l (at + 3) 0 ∷ []
four_at l at h =
    let e : at + 2 ≡ suc (suc at) = omega arith in
    let d : at + 3 ≡ suc (suc (suc at)) = omega arith in
    rw (
      drop-cons l at 0 (omega arith),
      drop-cons l (suc at) 0 (omega arith),
      drop-cons l (suc (suc at)) 0 (omega arith),
      drop-cons l (suc (suc (suc at))) 0 (omega arith),
      add-one,
      e,
      d,
    )
