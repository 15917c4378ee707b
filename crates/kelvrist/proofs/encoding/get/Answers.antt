-- `encoding::get`: the entries stored so far are the tasks of the plan's bytes, place by place.
use mathlib.Core.Path.{◌≡◌, refl}
use native.Mathlib.Omega.{arith}
use Rattle.base.specs.Number.{number}
use Rattle.kelvrist.specs.Laws.Encoded.{Got, got_more}
use Rattle.kelvrist.proofs.encoding.get.Goals as goal

pub loop-t-init : goal.loop-t-init
unfolding Got
loop-t-init c = λ T h. absurd (omega arith)

pub loop-t-preserved : goal.loop-t-preserved
unfolding number
loop-t-preserved c =
    let e = c.from_le_bytes.ensures in
    got_more _ _ _ _ _ _ _ c.loop-t.invariant (omega arith) (omega arith) (omega arith) refl refl (omega arith)

pub returns : goal.returns
unfolding Got
returns c =
    let e : c.loop-t.t ≡ c.args.tasks = omega arith in
    rw e at c.loop-t.invariant
