-- `encoding::put`: the tasks put so far are stores one after the other.
use native.Mathlib.Omega.{arith}
use borrow.Author.Rules.{rules}
use Rattle.kelvrist.specs.Laws.Encoded.{put_none, put_more, put_all}
use Rattle.kelvrist.proofs.encoding.put.Goals as goal

pub loop-t-init : goal.loop-t-init
loop-t-init c = put_none _ _ _

pub loop-t-preserved : goal.loop-t-preserved
loop-t-preserved c = put_more _ _ _ _ _ _ c.loop-t.invariant c.put_task.ensures

pub returns : goal.returns
returns c = put_all _ _ _ _ _ _ (omega arith) (search rules) c.loop-t.invariant
