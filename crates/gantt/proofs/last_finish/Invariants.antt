-- `last_finish`: before task t the last is the greatest finish of the tasks below t.
use Rattle.std.proofs.Common.{◌≡◌, ◌+◌, get_or}
use Rattle.base.specs.Rows.{most}
use Rattle.gantt.proofs.last_finish.Given as goal

abbrev pub invariant-loop-t : goal.invariant-loop-t
invariant-loop-t l = l.last ≡ most l.t (λ T. get_or l.starts T 0 + get_or l.durations T 0)
