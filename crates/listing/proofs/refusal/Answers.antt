-- `refusal`: the line that is put is the refusal's.
use native.Mathlib.Omega.{arith}
use Rattle.base.specs.Text.{text}
use Rattle.listing.specs.Laws.Listed.{refusal_put}
use Rattle.listing.proofs.refusal.Goals as goal

pub returns-clause-out_after : goal.returns-clause-out_after
unfolding text
returns-clause-out_after c = refusal_put c.line.ensures.put (omega (arith, c.from.ensures)) (omega arith)
