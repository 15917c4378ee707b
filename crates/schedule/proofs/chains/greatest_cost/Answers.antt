-- `chains::greatest_cost`: what `max` finds among the rows' greatest, by places.
use Rattle.std.proofs.Common.{◌≡◌, refl, sym, ap, ◌∙◌, List, [], ℕ, max, map, take, get_or, Option, arith, rules}
use Rattle.std.proofs.lemmas.Grind.{common_steps}
use Rattle.std.specs.List.{reduce}
use Rattle.std.specs.Option.{unwrap_or}
use Rattle.std.proofs.lemmas.Iterator.{YieldsList-from_slice, YieldsList-from_map}
use Rattle.std.proofs.lemmas.Iterator.Consumers.{max_from_yields_List}
use Rattle.std.proofs.lemmas.Iterator.Adapters.{option_map_id}
use Rattle.base.specs.Rows.{most}
use Rattle.base.specs.Laws.Most.{most_none}
use Rattle.schedule.specs.CoverPass.{greatest_in}
use Rattle.schedule.specs.Laws.Rows.Greatest.{greatest_is}
use Rattle.schedule.proofs.chains.greatest_cost.Goals as goal

pub returns : goal.returns
unfolding greatest_in
returns c =
    let n = c.args.instance.now.processors in
    let costs = c.args.instance.now.costs.now in
    let of_row : List ℕ → ℕ = λ row. most n (λ q. get_or row q 0) in
    let rest : c.map.result.iter.rest.now ≡ take n costs = grind (arith, common_steps, c.iter.ensures.rest, c.map.ensures.source) in
    let found : c.max.result ≡ reduce max (map of_row (take n costs)) =
    sym (option_map_id c.max.result)
    ∙ max_from_yields_List c.map.result c.max.result c.max.ensures.ran
    (YieldsList-from_map _ of_row (YieldsList-from_slice (take n costs) rest) c.map.ensures.closure (λ x r q k. search rules)) in
    c.unwrap_or.ensures ∙ ap (λ (o : Option ℕ). unwrap_or o 0) found ∙ greatest_is of_row {d = []} (most_none n _ (λ q b. refl)) n costs
