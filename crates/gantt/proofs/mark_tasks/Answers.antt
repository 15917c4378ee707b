-- `mark_tasks`: before task t the rows have the cells of the tasks below it, and task t marks the cells from that of its first tick to its
-- last's.
use Rattle.std.proofs.Common.{◌≡◌, ◌++◌, ℕ, ◌+◌, ◌-◌, ◌*◌, ◌/◌, ◌≤◌, List, length, get_or, drop, refl, ap, ◌∙◌, arith}
use Rattle.gantt.specs.Page.{mark}
use Rattle.gantt.specs.Laws.Rows.{run_filled}
use Rattle.gantt.specs.Laws.Marks.{turn, cells_none, marked_more}
use Rattle.gantt.proofs.mark_tasks.Goals as goal

pub loop-t-init : goal.loop-t-init
loop-t-init c =
    c.requires.n_in_bounds.1 ∙ ap (λ (l : List ℕ). l ++ drop (70 * c.args.n) c.args.out.now) (cells_none _ _ _ _ _)

pub loop-t-preserved : goal.loop-t-preserved
loop-t-preserved c =
    let s = get_or c.args.starts.now c.loop-t.t 0 in
    let d = get_or c.args.durations.now c.loop-t.t 0 in
    let first = s / c.args.width in
    let last = (s + d - 1) / c.args.width in
    let from = 70 * c.from.result + 4 in
    let q = turn _ _ _ _ _ _ c.requires.drawable c.loop-t.t c.loop-t-test.true in
    let count : from + last + 1 - (from + first) ≡ last - first + 1 = omega (arith, q.order) in
    let room : from + first + (last - first + 1) ≤ length c.loop-t.out =
    omega (arith, q.order, q.within, q.below, c.from.ensures, c.requires.n_in_bounds.0, c.loop-t.auto.out) in
    let put = run_filled c.loop-t.out c.fill.new.part (from + first) (last - first + 1) mark room
    (rw count at c.fill.ensures) in
    marked_more _ _ _ _ _ _ _ _ _ _ _ _ _ _ refl refl c.from.ensures q.wide q.time q.in_time (omega (arith, q.below, c.from.ensures)) refl
    refl c.loop-t.invariant (rw count put)
