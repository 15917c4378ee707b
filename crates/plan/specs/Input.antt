-- Enough of the input is read.
use Rattle.std.specs.Prelude.{◌≡◌, List, ℕ, take}
use Rattle.std.proofs.Common.{arith}
use Rattle.listing.specs.Listing.{listing}
use Rattle.listing.specs.Printed.{first_bytes}

-- what is printed for an input is what is printed for its first 16,384 bytes
pub enough : (file : List ℕ) → listing (take 16384 file) ≡ listing file
enough file = first_bytes file 16384 (omega arith)
