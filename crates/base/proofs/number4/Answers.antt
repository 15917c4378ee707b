-- `number4` is the number of its bytes.
use Rattle.std.proofs.Common.{arith}
use Rattle.base.specs.Number.{number}
use Rattle.base.proofs.number4.Goals as goal

pub returns : goal.returns
unfolding number
returns c =
    let h = c.from_le_bytes.ensures in omega arith
