-- `least::of_last`: the latest finish of the tasks before t, and the smallest sum of those that have it.
use Rattle.std.proofs.Common.{◌<◌, ◌∙◌, arith}
use Rattle.schedule.specs.Pass.{finish_in}
use Rattle.schedule.proofs.least.of_last.Invariants.{begun, carried, alone, tied, higher}
use Rattle.schedule.proofs.least.of_last.Goals as goal
use Rattle.schedule.proofs.least.of_last.Goals.{then-end-finish, else-end-finish+then-finish-end, else-end-finish+else-finish-end}

pub loop-t-preserved : goal.loop-t-preserved
loop-t-preserved c =
    let here = c.finish-finish.ensures in
    let some : 0 < finish_in c.args.table.now c.loop-t.t = omega (arith, c.args.table.now.instance.ready.takes_time _ c.loop-t-test.true) in
    let g = c.loop-t.invariant in
    (elim c.if-end-finish.branch [
      | then-end-finish w ↦ carried _ _ (w.end-is ∙ here) w.least-is (alone _ _ g (omega (arith, w.if-end-finish.true, here)))
      | else-end-finish+then-finish-end w ↦ carried _ _ w.end-is w.least-is
          (tied _ _ g (omega (arith, w.if-end-finish.false, here)) some (omega (arith, w.if-finish-end.true, here)) w.min-least.ensures)
      | else-end-finish+else-finish-end w ↦ carried _ _ w.end-is w.least-is
          (higher _ _ g (omega (arith, w.if-end-finish.false, here)) some (λ e. absurd (omega (arith, e, w.if-finish-end.false, here))))
    ])

pub loop-t-init : goal.loop-t-init
loop-t-init c = begun _ _
