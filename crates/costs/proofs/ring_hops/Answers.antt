-- `ring_hops`: d is the difference of p and q, and the lesser of both ways round the ring is theirs.
use Rattle.std.proofs.Common.{arith}
use Rattle.etf.specs.Topology.{difference, ring_hops}
use Rattle.costs.proofs.ring_hops.Goals as goal

pub returns : goal.returns
unfolding ring_hops difference
returns c =
    grind arith
