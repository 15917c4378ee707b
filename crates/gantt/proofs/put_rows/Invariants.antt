-- `put_rows`: the rows put so far are stores one after the other.
use Rattle.std.proofs.Common.{◌≡◌}
use Rattle.std.proofs.lemmas.List.Edits.{sets}
use Rattle.gantt.specs.Page.{dot, rows}
use Rattle.gantt.proofs.put_rows.Given as goal

abbrev pub invariant-loop-p : goal.invariant-loop-p
invariant-loop-p l = l.out ≡ sets l.initial.out 0 (rows (λ P j. dot) l.p)
