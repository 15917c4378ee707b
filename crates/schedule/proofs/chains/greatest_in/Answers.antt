-- `chains::greatest_in`: what `max` finds among the first n, by places.
use Rattle.std.proofs.Common.{◌≡◌, sym, ap, ◌∙◌, ℕ, max, take, Option, arith}
use Rattle.std.proofs.lemmas.Grind.{common_steps}
use Rattle.std.specs.List.{reduce}
use Rattle.std.specs.Option.{unwrap_or}
use Rattle.std.proofs.lemmas.Iterator.{YieldsList, YieldsList-from_slice}
use Rattle.std.proofs.lemmas.Iterator.Consumers.{YieldsList-from_copied, max_from_yields_List}
use Rattle.std.proofs.lemmas.Iterator.Adapters.{option_map_id}
use Rattle.schedule.specs.Laws.Rows.Greatest.{greatest_number_is}
use Rattle.schedule.proofs.chains.greatest_in.Goals as goal

pub returns : goal.returns
returns c =
    let first = take c.args.n c.args.row.now in
    let rest : c.copied.result.iter.rest.now ≡ first = grind (arith, common_steps, c.iter.ensures.rest) in
    let all : YieldsList _ (λ (x : ℕ). x) c.copied.result first = YieldsList-from_copied (YieldsList-from_slice first rest) in
    let found : c.max.result ≡ reduce max first =
    sym (option_map_id c.max.result) ∙ max_from_yields_List c.copied.result c.max.result c.max.ensures.ran all in
    c.unwrap_or.ensures ∙ ap (λ (o : Option ℕ). unwrap_or o 0) found ∙ greatest_number_is c.args.n c.args.row.now
