-- `planner::choose`: the loop keeps that the search over the tasks that are left, from the best so far, gives the answer.
-- Nothing that is left beats a pair that starts at the clock.
use mathlib.Core.Path.{refl, sym, ◌∙◌}
use borrow.Author.Rules.{rules}
use Rattle.schedule.specs.Laws.Planner.SearchSteps.{row_by_late, row_by_none, starts_now, search_from, from_none, from_ended}
use Rattle.schedule.specs.Laws.Planner.SearchSteps.{from_same, from_waits, from_unfinished, from_tried, from_stopped}
use Rattle.schedule.proofs.planner.choose.Goals as goal
use Rattle.schedule.proofs.planner.choose.Goals.{else-progress-t-eq0, then-progress-t-eq0+then-latest-t+else-best-clock}
use Rattle.schedule.proofs.planner.choose.Goals.{else-progress-t-eq0-via-else-progress-t-eq0}
use Rattle.schedule.proofs.planner.choose.Goals.{else-progress-t-eq0-via-then-progress-t-eq0+else-latest-t}

pub loop-i-init : goal.loop-i-init
unfolding search_from
loop-i-init g c =
    (search rules, refl)

pub task_at-t-requires : goal.task_at-t-requires
task_at-t-requires g c = c.requires.in_order c.loop-i.i c.loop-i-test.true

pub try_task-best-requires : goal.try_task-best-requires
try_task-best-requires g c =
    let t = c.task_at-t.ensures.value in
    let may = c.requires.may_try c.loop-i.i c.loop-i-test.true
    (starts_now _ c.args.progress.now.waiting c.args.latest.now _ (rw t at c.if-progress-t-eq0.true) (rw t at c.if-latest-t.true)) in
    record {
      may_try = (rw t may, c.loop-i.invariant.0);
      free_in_bounds = c.requires.free_in_bounds;
    }

pub returns-then-is_empty : goal.returns-then-is_empty
returns-then-is_empty g c =
    from_none _ _ _ _ _ (λ U x h. row_by_none _ _ _ _ _ x h (search rules)) _ _ _

pub returns-then-best-clock : goal.returns-then-best-clock
returns-then-best-clock g c =
    let t = c.task_at-t.ensures.value in
    from_stopped _ _ _ _ _ _ _ _ _ c.loop-i-test.true c.loop-i.invariant.1
    (rw t at c.if-progress-t-eq0.true) (rw t at c.if-latest-t.true) _ (rw t at c.try_task-best.ensures)
    (λ U. row_by_late _ _ _ _ U) c.if-best-clock.true

pub loop-i-preserved : goal.loop-i-preserved
loop-i-preserved g c =
    let v = c.loop-i.invariant in
    let t = c.task_at-t.ensures.value in
    (elim c.if-progress-t-eq0.branch [
      | then-progress-t-eq0+then-latest-t+else-best-clock w ↦ from_same _ _ _ _ _ _ _ _ _ _ w.best-is w.if-best-clock.false
          (from_tried _ _ _ _ _ _ _ _ _ c.loop-i-test.true v.1
          (rw t at w.if-progress-t-eq0.true) (rw t at w.if-latest-t.true) _ (rw t at w.try_task-best.ensures))
      | else-progress-t-eq0 w ↦ from_same _ _ _ _ _ _ _ _ _ _ w.best-is v.0
          (elim w.else-progress-t-eq0.branch [
            | else-progress-t-eq0-via-then-progress-t-eq0+else-latest-t w' ↦
                from_unfinished _ _ _ _ _ _ _ _ _ c.loop-i-test.true v.1
                (rw t at w'.if-progress-t-eq0.true) (rw t at w'.if-latest-t.false)
            | else-progress-t-eq0-via-else-progress-t-eq0 w' ↦
                from_waits _ _ _ _ _ _ _ _ _ c.loop-i-test.true v.1 (rw t at w'.if-progress-t-eq0.false)
          ])
    ])

pub returns : goal.returns
returns g c =
    sym (from_ended _ _ _ _ _ _ _ _ c.loop-i-test.false) ∙ c.loop-i.invariant.1
