-- `emit::judge_links`: what is left of the row, after the last key, has the trouble of the whole, as long as none was met.
use Rattle.std.proofs.Common.{◌≡◌, ℕ, suc, ◌+◌, ◌*◌, ◌-◌, ◌≤◌, ◌<◌, List, sym, ◌∙◌, add-one, arith, get_or}
use Rattle.std.proofs.lemmas.Result.{err_from_is_err_and}
use Rattle.base.specs.Lists.{values}
use Rattle.job.specs.Job.{Edge}
use Rattle.job.specs.Table.{is_trouble}
use Rattle.job.specs.Write.{edge_held}
use Rattle.job.specs.Pass.{edge, key, link_trouble, links_trouble}
use Rattle.job.specs.Laws.Judged.{first_some, first_none}
use Rattle.job.proofs.emit.judge_links.Goals as goal

module _ (from to counts : List ℕ) (m l i least : ℕ) where
  abbrev left : List Edge
  left = values (edge_held from to counts) i (l - i)

  none_left : l ≤ i → links_trouble m least left ≡ 0
  unfolding links_trouble values
  none_left h = let e : l - i ≡ 0 = omega arith in rw e

  module _ (h : i < l) where
    met : (r : ℕ) → r ≡ link_trouble m least (edge (get_or from i 0) (get_or to i 0) (get_or counts i 0)) → (r ≡ 0 → ⊥)
        → links_trouble m least left ≡ r
    unfolding links_trouble values edge_held
    met r is z = let e : l - i ≡ suc (l - (i + 1)) = omega arith in rw (e, ← is) (first_some _ _ z)

    on : (k : ℕ) → k ≡ 256 * get_or from i 0 + get_or to i 0
        → 0 ≡ link_trouble m least (edge (get_or from i 0) (get_or to i 0) (get_or counts i 0))
        → links_trouble m least left ≡ links_trouble m (k + 1) (values (edge_held from to counts) (i + 1) (l - (i + 1)))
    unfolding links_trouble values edge_held key
    on k q z = let e : l - i ≡ suc (l - (i + 1)) = omega arith in rw (e, ← q, ← add-one i) (first_none _ _ (sym z))

pub returns-in_err-judge_link : goal.returns-in_err-judge_link
returns-in_err-judge_link c =
    let p = err_from_is_err_and c.from_residual.result c.from_residual.ensures.1 in
    rw (p.1, p.2) (record {
      first = sym (met _ _ _ _ _ _ _ c.loop-i-test.true _ c.in_err-judge_link.ensures (is_trouble _)) ∙ c.loop-i.invariant;
      to_fits = c.type_inv.to;
      count_fits = c.type_inv.counts;
    })

pub loop-i-preserved : goal.loop-i-preserved
loop-i-preserved c =
    sym (on _ _ _ _ _ _ _ c.loop-i-test.true _ c.key-least.ensures.0 c.in_ok-judge_link.ensures) ∙ c.loop-i.invariant

pub returns : goal.returns
returns c = record {
  first = sym (none_left _ _ _ _ _ _ _ c.loop-i-test.false) ∙ c.loop-i.invariant;
  to_fits = c.type_inv.to;
  count_fits = c.type_inv.counts;
}
