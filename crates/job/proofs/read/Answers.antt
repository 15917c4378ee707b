-- `read`: a refused file beside zeros.
use Rattle.job.specs.Laws.Taking.{nothing_read}
use Rattle.job.proofs.read.Goals as goal

pub returns-in-Err : goal.returns-in-Err
returns-in-Err c =
    nothing_read _ _ _ _ c.nothing-found.ensures c.zeros.ensures c.in-Err.ensures
