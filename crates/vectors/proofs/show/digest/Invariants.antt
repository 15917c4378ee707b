-- `digest`: the digest so far is one.
use Rattle.std.proofs.Common.{◌<◌}
use Rattle.vectors.proofs.show.digest.Given as goal

abbrev pub invariant-loop-number : goal.invariant-loop-number
invariant-loop-number g l = l.sum < 4294967291
