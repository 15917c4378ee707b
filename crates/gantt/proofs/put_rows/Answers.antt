-- `put_rows`: the rows put so far are stores one after the other.
use Rattle.std.proofs.Common.{refl, arith}
use Rattle.gantt.specs.Laws.Rows.{rows_none, rows_put, rows_all}
use Rattle.gantt.proofs.put_rows.Goals as goal

pub loop-p-init : goal.loop-p-init
loop-p-init c =
    rows_none _ _

pub loop-p-preserved : goal.loop-p-preserved
loop-p-preserved c =
    rows_put _ _ _ _ _ _ _ c.loop-p.invariant c.put_row.ensures refl refl

pub returns : goal.returns
returns c =
    rows_all _ _ _ _ _ (omega arith) c.requires.1 c.loop-p.invariant
