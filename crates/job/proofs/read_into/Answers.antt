-- `read_into`: a refused file beside zeros.
use Rattle.job.specs.Laws.Taking.{nothing_read}
use Rattle.job.proofs.read_into.Goals as goal

pub returns-in-Err : goal.returns-in-Err
returns-in-Err c =
    nothing_read _ _ _ _ c.nothing.ensures c.zeros-in-Err.ensures c.in-Err.ensures
