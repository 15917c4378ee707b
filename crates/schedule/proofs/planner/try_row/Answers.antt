-- `planner::try_row`: the loop keeps that the best so far, tried against the processors that are left, gives the answer.
-- Nothing that is left beats a pair that starts at the clock.
use mathlib.Core.Path.{refl, ap, sym, ◌∙◌}
use native.Mathlib.Omega.{arith}
use borrow.Author.Rules.{rules}
use Rattle.schedule.specs.Pass.{first_best}
use Rattle.schedule.proofs.planner.try_row.Invariants.{whole, ended, early, sooner, later}
use Rattle.schedule.proofs.planner.try_row.Goals as goal
use Rattle.schedule.proofs.planner.try_row.Goals.{else-arrival-best, then-arrival-best}

pub loop-p-init : goal.loop-p-init
loop-p-init c =
    (search rules, ap (first_best _) (whole _ _ _ _ _))

pub offset_bounds-row-p : goal.offset_bounds-row-p
offset_bounds-row-p c =
    let b = c.requires.by_index.0 c.loop-p.p-index (search rules) in
    search rules

pub bounds-row-p : goal.bounds-row-p
bounds-row-p c =
    let b = c.requires.by_index.0 c.loop-p.p-index (search rules) in
    search rules

pub returns-then-arrival-clock : goal.returns-then-arrival-clock
returns-then-arrival-clock c =
    sym (early _ _ _ _ _ _ _ refl (search rules) _ c.loop-p.invariant.0 c.if-arrival-clock.true) ∙ c.loop-p.invariant.1

pub loop-p-preserved : goal.loop-p-preserved
loop-p-preserved c =
    (elim c.if-arrival-best.branch [
      | then-arrival-best w ↦ sooner _ _ _ _ _ _ _ refl (search rules) _ _ _ c.loop-p.invariant.0 c.loop-p.invariant.1
          c.if-arrival-clock.false (omega (arith, w.if-arrival-best.true)) w.best-is
      | else-arrival-best w ↦ later _ _ _ _ _ _ _ refl
          (search rules) _ _ _ c.loop-p.invariant.0 c.loop-p.invariant.1
          c.if-arrival-clock.false (omega (arith, w.if-arrival-best.false)) w.best-is
    ])

pub returns : goal.returns
returns c =
    sym (ended _ _ _ _ _ _ _ c.loop-p-test.false) ∙ c.loop-p.invariant.1
