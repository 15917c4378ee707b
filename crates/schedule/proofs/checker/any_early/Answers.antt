-- `checker::any_early`: `any` asks the test of each edge.
use Rattle.std.proofs.Common.{refl, ◌∙◌, arith, rules}
use Rattle.std.proofs.lemmas.Iterator.{YieldsList-from_range}
use Rattle.std.proofs.lemmas.Iterator.Search.{any_from_yields_List}
use Rattle.schedule.specs.Pass.{early_in}
use Rattle.schedule.specs.Laws.Rows.SomeIn.{any_in_range}
use Rattle.schedule.proofs.checker.any_early.Goals as goal

pub returns : goal.returns
returns c =
    let l = c.args.table.now.instance.edges in
    let test = early_in c.args.table.now in
    any_from_yields_List test _ _ _ c.any.ensures.ran (YieldsList-from_range 0 l l refl (omega arith)) (λ x b q k. search rules)
    ∙ any_in_range test 0 l
