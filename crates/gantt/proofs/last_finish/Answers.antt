-- `last_finish`: before task t the last is the greatest finish of the tasks below t; each turn adds one task.
use Rattle.base.specs.Laws.Most.{none_yet, one_place}
use Rattle.gantt.proofs.last_finish.Goals as goal

pub loop-t-init : goal.loop-t-init
loop-t-init c =
    none_yet _

pub loop-t-preserved : goal.loop-t-preserved
loop-t-preserved c =
    one_place _ _ _ _ c.loop-t.invariant c.max-last.ensures
