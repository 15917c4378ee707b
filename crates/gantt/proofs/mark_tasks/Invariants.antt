-- `mark_tasks`: before task t the rows have the cells of the tasks below it.
use Rattle.std.proofs.Common.{◌≡◌, ◌++◌, ◌*◌, drop}
use Rattle.gantt.specs.Page.{rows}
use Rattle.gantt.specs.Pass.{cells_by}
use Rattle.gantt.proofs.mark_tasks.Given as goal

abbrev pub invariant-loop-t : goal.invariant-loop-t
invariant-loop-t l = l.out ≡ rows (cells_by l.width l.durations l.starts l.processors l.t) l.n ++ drop (70 * l.n) l.initial.out
