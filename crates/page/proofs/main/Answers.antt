-- `main`: what is written is a part of the output.
use Rattle.std.proofs.Common.{sym, length-take-le}
use Rattle.page.specs.Laws.Printed.{printed_within}
use Rattle.page.proofs.main.Goals as goal

pub slice_bounds-output-end : goal.slice_bounds-output-end
slice_bounds-output-end c = printed_within _ _ c.answer-length.ensures

pub slice_bounds-write_all-end : goal.slice_bounds-write_all-end
slice_bounds-write_all-end c = sym (length-take-le _ _ (printed_within _ _ c.answer-length.ensures))
