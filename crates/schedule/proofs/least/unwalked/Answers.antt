-- `least::unwalked`: the entries before t are set.
use Rattle.std.proofs.Common.{◌<◌, length, refl, inl, inr, arith}
use Rattle.schedule.specs.Laws.Rows.Entry.{stored}
use Rattle.schedule.proofs.least.unwalked.Invariants.{done, turn}
use Rattle.schedule.proofs.least.unwalked.Goals as goal
use Rattle.schedule.proofs.least.unwalked.Goals.{else-idle-t-eq0, then-idle-t-eq0}

pub loop-t-preserved : goal.loop-t-preserved
loop-t-preserved c =
    let b : c.loop-t.t < length c.loop-t.sums = omega (arith, c.loop-t.invariant.size) in
    turn _ c.loop-t.invariant c.loop-t-test.true (stored b refl)
    (elim c.if-idle-t-eq0.branch [
      | then-idle-t-eq0 w ↦ inr (omega (arith, w.if-idle-t-eq0.true), w.sums-is)
      | else-idle-t-eq0 w ↦ inl (omega (arith, w.if-idle-t-eq0.false), w.sums-is)
    ])

pub returns : goal.returns
returns c = done _ c.loop-t-test.false c.loop-t.invariant
