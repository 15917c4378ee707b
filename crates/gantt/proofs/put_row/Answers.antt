-- `put_row`: the stores before the cells, the cells and the stores after them are the row's bytes.
use Rattle.std.proofs.Common.{◌≡◌, ◌+◌, ◌-◌, length-set, refl, arith}
use Rattle.gantt.specs.Page.{cells, dot}
use Rattle.gantt.specs.Laws.Rows.{run_filled, row_put}
use Rattle.gantt.proofs.put_row.Goals as goal

pub returns : goal.returns
returns c =
    let count : c.args.at + 68 - (c.args.at + 4) ≡ cells = omega arith in
    let put = run_filled _ c.fill.new.part (c.args.at + 4) cells dot (simp length-set (omega arith))
    (rw count at c.fill.ensures) in
    row_put _ _ _ _ _ _ _ _ _ _ c.tens.ensures refl refl refl refl refl (rw count put)
