-- `checker::any_overlap`: `any` asks the test of each task.
use Rattle.std.proofs.Common.{refl, ◌∙◌, arith, rules}
use Rattle.std.proofs.lemmas.Iterator.{YieldsList-from_range}
use Rattle.std.proofs.lemmas.Iterator.Search.{any_from_yields_List}
use Rattle.schedule.specs.Pass.{overlaps_in}
use Rattle.schedule.specs.Laws.Rows.SomeIn.{any_in_range}
use Rattle.schedule.proofs.checker.any_overlap.Goals as goal

pub returns : goal.returns
returns c =
    let m = c.args.table.now.instance.tasks in
    let test = overlaps_in c.args.table.now in
    any_from_yields_List test _ _ _ c.any.ensures.ran (YieldsList-from_range 0 m m refl (omega arith)) (λ x b q k. search rules)
    ∙ any_in_range test 0 m
