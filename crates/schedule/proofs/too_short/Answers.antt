-- `too_short` asks for the lengths in the order of the definition.
use Rattle.std.proofs.Common.{arith}
use Rattle.std.proofs.lemmas.Bool.Decides.{nat_tests}
use Rattle.schedule.specs.Pass.{short_of}
use Rattle.schedule.proofs.too_short.Goals as goal

pub returns-then-processors-tasks : goal.returns-then-processors-tasks
unfolding short_of
returns-then-processors-tasks c = grind (arith, nat_tests)

pub returns-else-processors-tasks : goal.returns-else-processors-tasks
unfolding short_of
returns-else-processors-tasks c = grind (arith, nat_tests)
