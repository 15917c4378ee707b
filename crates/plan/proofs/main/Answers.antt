-- `main`: what is written is a part of the output.
use Rattle.std.proofs.Common.{sym, length-take-le}
use Rattle.listing.specs.Printed.{text_within}
use Rattle.plan.proofs.main.Goals as goal

pub slice_bounds-output-end : goal.slice_bounds-output-end
slice_bounds-output-end c = text_within _ _ c.answer-length.ensures

pub slice_bounds-write_all-end : goal.slice_bounds-write_all-end
slice_bounds-write_all-end c = sym (length-take-le _ _ (text_within _ _ c.answer-length.ensures))
