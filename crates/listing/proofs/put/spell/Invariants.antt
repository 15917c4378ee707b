-- `put::spell`: the digits after place `at` are written, and those of what is left are due.
use Rattle.listing.specs.Laws.Digits.{Spelt}
use Rattle.listing.proofs.put.spell.Given as goal

abbrev pub invariant-loop-rest : goal.invariant-loop-rest
invariant-loop-rest l = Spelt l.x l.digits l.at l.rest

abbrev pub decreases-loop-rest : goal.decreases-loop-rest
decreases-loop-rest l = l.rest
