-- `least::nearest_in`: before place q the least is no more than what each place below q has, but for p.
use Rattle.schedule.specs.CoverPass.{NoMore}
use Rattle.schedule.proofs.least.nearest_in.Given as goal

abbrev pub invariant-loop-q : goal.invariant-loop-q
invariant-loop-q l = NoMore l.row l.q l.p l.most l.least
