-- `checker::misplaced`: the tasks that are left have the first trouble of all, as long as none was met.
use mathlib.Core.Path.{◌≡◌}
use Prim.Native.Nat.{◌-◌}
use Rattle.schedule.specs.Pass.{place_troubles}
use Rattle.schedule.proofs.checker.misplaced.Given as goal

abbrev pub invariant-loop-t : goal.invariant-loop-t
invariant-loop-t l = place_troubles l.instance.processors l.plan.starts.now l.plan.processors.now l.t (l.instance.tasks - l.t)
    ≡ place_troubles l.instance.processors l.plan.starts.now l.plan.processors.now 0 l.instance.tasks
