-- `answer`: a refused file's line is what is printed for it, and so is the page of the plan that the planner leaves.
use Rattle.std.proofs.Common.{arith, refl}
use Rattle.page.specs.Laws.Printed.{refusal_printed, draws_all, page_printed}
use Rattle.page.proofs.answer.Goals as goal

pub returns-in-Err : goal.returns-in-Err
returns-in-Err c =
    refusal_printed _ _ _ _ _ refl refl refl c.plan.ensures _ c.in-Err.is c.number.ensures c.refusal.ensures.out_after

pub unreachable-requires : goal.unreachable-requires
unreachable-requires c =
    draws_all _ _ _ _ _ refl refl refl c.plan.ensures _ _ c.in_default.is (omega (arith, c.fits-out)) c.draw.ensures
    c.in_default-draw.is

pub returns : goal.returns
returns c =
    page_printed _ _ _ _ _ refl refl refl c.plan.ensures _ _ c.in_default.is (omega (arith, c.fits-out)) c.draw.ensures c.in-Ok.is
