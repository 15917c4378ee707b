-- What holds of every printed text: its numbers tell themselves, and one byte more than the greatest file has settles it.
use Rattle.std.specs.Prelude.{◌≡◌, List, ℕ, ◌^◌, ◌≤◌, ◌<◌, length, take, drop}
use Rattle.std.proofs.Common.{ap, arith, length-append}
use Rattle.job.specs.Read.{refused, read_job}
use Rattle.job.specs.Write.{settling_length}
use Rattle.job.specs.RoundTrip.{settled}
use Rattle.listing.specs.Listing.{decimal, refusal_line, listing_for, listing, ListingCall, listed, put_first, listing_call}
use Rattle.listing.specs.Laws.Told.{told, told_digits}

-- the digits of a number, read as one, are that number: no two numbers of 32 bits print the same
pub decimal_tells : (x : ℕ) → x < 10 ^ 10 → told 0 (decimal x) ≡ x
unfolding decimal
decimal_tells x h = told_digits 10 x h

-- an input is answered by its first n bytes, where no accepted file has as many
pub first_bytes : (file : List ℕ) (n : ℕ) → settling_length ≤ n → listing (take n file) ≡ listing file
unfolding listing
first_bytes file n h = ap listing_for (settled file n h)

-- a refused file's text is the line of its number
pub refused_text : (file out : List ℕ) (k : ℕ) → read_job file ≡ refused k → put_first (refusal_line k) out ≡ listing_call file out
unfolding listing_call listing listing_for
refused_text file out k e = rw e

-- what is put at the front of the buffer stands in it: its length is at most the buffer's
pub put_within : (bytes out : List ℕ) {n : ℕ} {out' : List ℕ} → listed n out' ≡ put_first bytes out → n ≤ length out'
unfolding put_first
put_within bytes out e =
    let size = ap (λ (c : ListingCall). c.written) e in
    let held = ap (λ (c : ListingCall). length c.buffer) e in
    omega (arith, size, held, length-append bytes (drop (length bytes) out))

-- so is a listing
pub text_within : (file out : List ℕ) {n : ℕ} {out' : List ℕ} → listed n out' ≡ listing_call file out → n ≤ length out'
unfolding listing_call
text_within file out e = put_within (listing file) out e
