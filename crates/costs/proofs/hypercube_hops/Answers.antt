-- `hypercube_hops`: the digits that are set in p ^ q are as many as the binary places in which p and q differ, computed once for all pairs.
use mathlib.Core.Path.{◌≡◌, ◌∙◌}
use mathlib.Core.Bool.{Bool}
use Prim.Native.Nat.{ℕ, ◌<◌}
use native.Mathlib.Omega.{arith}
use lib.Dec.{T as Holds, eqb, eqb→eq}
use lib.Bits.{bit_xor}
use lib.Count.{ones}
use Rattle.base.specs.Lists.{upto, all, filter}
use Rattle.base.specs.Laws.Lists.{all_at, upto_in}
use Rattle.etf.specs.Topology.{hypercube_hops}
use Rattle.costs.proofs.hypercube_hops.Goals as goal

right : ℕ → ℕ → Bool
right p q = eqb (ones (bit_xor p q)) (hypercube_hops p q)

all_pairs : Holds (all (λ i. all (right i) (upto 16)) (upto 16))
unfolding right all upto ones hypercube_hops filter
all_pairs = tt

-- a number that is as many as the digits that are set
differing : (p q r : ℕ) → p < 16 → q < 16 → r ≡ ones (bit_xor p q) → r ≡ hypercube_hops p q
unfolding right
differing p q r h k e =
    let row = all_at (λ i. all (right i) (upto 16)) (upto 16) all_pairs p (upto_in 16 p h) in
    e ∙ eqb→eq _ _ (all_at (right p) (upto 16) row q (upto_in 16 q k))

pub returns : goal.returns
returns c =
    differing _ _ _ c.requires.0 c.requires.1 (omega arith)
