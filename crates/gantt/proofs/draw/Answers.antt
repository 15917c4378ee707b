-- `draw` passes the reader's number on, refuses by 9 for a short buffer and by what the checker says, and else puts rows and marks.
use native.Mathlib.Omega.{arith}
use Rattle.std.proofs.lemmas.Result.{err_from_is_err_and}
use Rattle.gantt.specs.Laws.Layout.{rows_front}
use Rattle.gantt.specs.Laws.Drawn.{passes_on, too_short, not_checked, few_processors}
use Rattle.gantt.specs.Laws.Drawn.{arrays_reach, finishes_fit, no_late_end, drawable, page_drawn}
use Rattle.gantt.proofs.draw.Goals as goal

pub returns-in_default : goal.returns-in_default
returns-in_default c =
    passes_on _ _ _ _ _ c.judge_into-judged.ensures _ c.in_default.is c.refusal.ensures

pub returns-then-out-length : goal.returns-then-out-length
returns-then-out-length c =
    too_short _ _ _ _ _ c.judge_into-judged.ensures c.in-Counts.is c.from-n.ensures _ (omega (arith, c.if-out-length.true))

pub returns-in_err-checked : goal.returns-in_err-checked
returns-in_err-checked c =
    let p = err_from_is_err_and c.from_residual.result c.from_residual.ensures.1 in
    rw (p.1, p.2)
    (not_checked _ _ _ _ _ c.judge_into-judged.ensures c.in-Counts.is c.from-n.ensures _ (omega (arith, c.if-out-length.false))
    c.in_err-checked.was)

pub last_finish-last-requires : goal.last_finish-last-requires
last_finish-last-requires c =
    let reach =
    arrays_reach _ _ _ _ _ c.judge_into-judged.ensures c.in-Counts.is c.from-n.ensures
    c.in_ok-checked.was in record {
      tasks_in_bounds = reach;
      by_index = finishes_fit _ _ _ _ _ c.judge_into-judged.ensures c.in-Counts.is c.from-n.ensures
          c.in_ok-checked.was;
    }

pub overflow_add-width : goal.overflow_add-width
overflow_add-width c =
    record {
      fits =
          omega (
            arith,
            no_late_end _ _ _ _ _ c.judge_into-judged.ensures c.in-Counts.is c.from-n.ensures
                c.in_ok-checked.was c.last_finish-last.ensures,
          );
    }

pub put_rows-requires : goal.put_rows-requires
put_rows-requires c = (
  omega (arith, few_processors _ _ _ _ _ c.judge_into-judged.ensures c.in-Counts.is, c.from-n.ensures),
  omega (arith, c.if-out-length.false),
)

pub mark_tasks-requires : goal.mark_tasks-requires
mark_tasks-requires c =
    record {
      drawable = drawable _ _ _ _ _ c.judge_into-judged.ensures c.in-Counts.is c.from-n.ensures
          c.in_ok-checked.was c.last_finish-last.ensures (omega arith);
      n_in_bounds
          = (omega (arith, c.if-out-length.false, c.put_rows.auto.out), rows_front _ _ _ _ c.put_rows.ensures);
    }

pub returns : goal.returns
returns c =
    page_drawn _ _ _ _ _ c.judge_into-judged.ensures c.in-Counts.is c.from-n.ensures
    c.in_ok-checked.was c.last_finish-last.ensures (omega arith) _ _ _
    (omega (arith, c.if-out-length.false)) c.put_rows.ensures c.mark_tasks.ensures
