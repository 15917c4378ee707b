-- `say` refuses by 9 for a slice too short, and else says what `checker::keeps_rules` says.
use Rattle.std.proofs.Common.{arith}
use Rattle.std.proofs.lemmas.Bool.Decides.{nat_tests}
use Rattle.schedule.specs.Pass.{said}
use Rattle.schedule.specs.Laws.Calls.{said_checked}
use Rattle.schedule.proofs.say.Goals as goal

pub returns-then-plan-instance : goal.returns-then-plan-instance
unfolding said
returns-then-plan-instance c = grind (arith, nat_tests)

pub keeps_rules-requires : goal.keeps_rules-requires
keeps_rules-requires c = (c.if-plan-instance.false, c.if-plan-instance-2.false)

pub returns : goal.returns
returns c = said_checked _ _ _ _ c.if-plan-instance.false c.if-plan-instance-2.false c.keeps_rules.ensures
