-- `encoding::put`: the tasks put so far are stores one after the other.
use mathlib.Core.Path.{◌≡◌}
use lib.ListN.{get_or}
use lib.Seq.{sets}
use Rattle.kelvrist.specs.PlanBytes.{plan_bytes}
use Rattle.kelvrist.proofs.encoding.put.Given as goal

abbrev pub invariant-loop-t : goal.invariant-loop-t
invariant-loop-t l = l.plan ≡ sets l.initial.plan 0 (plan_bytes l.t (λ T. get_or l.processors T 0) (λ T. get_or l.starts T 0))
