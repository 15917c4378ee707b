-- `encoding::get`: the entries stored so far are the tasks of the plan's bytes, place by place.
use Rattle.kelvrist.specs.Laws.Encoded.{Got}
use Rattle.kelvrist.proofs.encoding.get.Given as goal

abbrev pub invariant-loop-t : goal.invariant-loop-t
invariant-loop-t l = Got l.plan l.starts l.processors l.t
