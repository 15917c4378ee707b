-- `checker::keeps_rules`: what the three calls answer is the checker's answer to the plan (Laws/Checker/Number), and where no task is in
-- trouble each has its place.
use mathlib.Core.Path.{refl}
use Rattle.std.proofs.lemmas.Result.{err_from_is_err_and}
use Rattle.schedule.specs.Handed.{plannable}
use Rattle.schedule.specs.Laws.Checker.Number.{says_place, places, says_overlap, says_early, says_yes}
use Rattle.schedule.proofs.checker.keeps_rules.Goals as goal

pub returns-in_err-misplaced : goal.returns-in_err-misplaced
returns-in_err-misplaced c =
    let p = err_from_is_err_and c.from_residual.result c.from_residual.ensures.1 in
    rw (p.1, p.2) (says_place (plannable c.args.instance.now) _ _ c.in_err-misplaced.ensures _ refl)

pub invariant_of-table : goal.invariant_of-table
invariant_of-table c = record { in_place = places (plannable c.args.instance.now) _ _ c.in_ok-misplaced.ensures refl c.requires }

pub returns-then-overlap : goal.returns-then-overlap
returns-then-overlap c =
    says_overlap (plannable c.args.instance.now) _ _ c.in_ok-misplaced.ensures refl c.any_overlap-overlap.ensures c.if-overlap.true

pub returns-then-early : goal.returns-then-early
returns-then-early c =
    says_early (plannable c.args.instance.now) _ _ c.in_ok-misplaced.ensures refl c.any_overlap-overlap.ensures c.if-overlap.false
    c.any_early-early.ensures c.if-early.true

pub returns : goal.returns
returns c =
    says_yes (plannable c.args.instance.now) _ _ c.in_ok-misplaced.ensures refl c.any_overlap-overlap.ensures c.if-overlap.false
    c.any_early-early.ensures c.if-early.false
