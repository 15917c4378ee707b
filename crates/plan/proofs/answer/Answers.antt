-- `answer`: a refused file's line is its listing.
use Rattle.listing.specs.Laws.Listed.{refused_listed}
use Rattle.plan.proofs.answer.Goals as goal

pub returns-in_default : goal.returns-in_default
returns-in_default c = refused_listed _ _ c.read-r.ensures c.in_default.is c.number.ensures c.refusal.ensures.out_after
