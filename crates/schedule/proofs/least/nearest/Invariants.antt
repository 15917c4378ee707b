-- `least::nearest`: before row p the rows below p have their least; each turn stores one.
use Rattle.schedule.specs.CoverPass.{Nearest}
use Rattle.schedule.proofs.least.nearest.Given as goal

abbrev pub invariant-loop-p : goal.invariant-loop-p
invariant-loop-p l = Nearest l.instance.costs.now l.instance.processors l.most l.p l.least
