-- `emit::judge_results`: the results of the tasks still to come have the trouble of all, as long as none was met.
use Rattle.std.proofs.Common.{◌≡◌, ℕ, ◌+◌, ◌-◌, ◌≤◌, ◌<◌, Bool, false, List, refl, sym, ◌∙◌, add-one, arith, length, get_or}
use Rattle.std.proofs.lemmas.Result.{err_from_is_err_and}
use Rattle.base.specs.Lists.{values}
use Rattle.base.specs.Laws.Values.{value_at}
use Rattle.job.specs.Table.{is_trouble}
use Rattle.job.specs.Write.{results_held}
use Rattle.job.specs.Pass.{sends, results_from, delivery_trouble, results_trouble}
use Rattle.job.specs.Laws.Judged.{first_some, first_none}
use Rattle.job.specs.Laws.Lists.{empty_is, empty_nil}
use Rattle.job.specs.Laws.Results.{held_from, from_with, from_without, from_end}
use Rattle.job.proofs.emit.judge_results.Goals as goal
use Rattle.job.proofs.emit.judge_results.Goals.{then-count-ne0+in_ok-judge_delivery, else-count-ne0}

module _ (from counts : List ℕ) (m l : ℕ) where
  -- the first trouble of the results from task t on
  abbrev left : ℕ → ℕ
  left t = results_trouble (sends from l) (results_from counts t (m - t))

  abbrev all : ℕ
  all = results_trouble (sends from l) (results_held counts m)

  no_result : (many : ℕ) → many ≡ length (results_held counts m) → many ≡ 0 → 0 ≡ all
  unfolding results_trouble
  no_result many e z = rw (empty_nil (results_held counts m) (empty_is (results_held counts m) (omega arith))) refl

  begin : left 0 ≡ all
  begin = let e : m - 0 ≡ m = omega arith in rw (e, held_from counts m) refl

  module _ (t : ℕ) where
    none_left : m ≤ t → left t ≡ 0
    unfolding results_trouble
    none_left h = rw (from_end counts t m h) refl

    module _ (h : t < m) where
      past : get_or counts t 0 ≡ 0 → left t ≡ left (t + 1)
      past z = rw (from_without counts t m h z, add-one t) refl

      module _ (d : get_or counts t 0 ≡ 0 → ⊥) (few : m ≤ 256) (sent : List Bool) (is : sent ≡ values (sends from l) 0 256) where
        own : delivery_trouble (get_or sent t false) (get_or counts t 0) ≡ delivery_trouble (sends from l t) (get_or counts t 0)
        own = rw (is, value_at (sends from l) false 256 t (omega arith)) refl

        met : (r : ℕ) → r ≡ delivery_trouble (get_or sent t false) (get_or counts t 0) → (r ≡ 0 → ⊥) → left t ≡ r
        unfolding results_trouble
        met r e z = rw (from_with counts t m h d, ← own, ← e) (first_some _ _ z)

        on : 0 ≡ delivery_trouble (get_or sent t false) (get_or counts t 0) → left t ≡ left (t + 1)
        unfolding results_trouble
        on z = rw (from_with counts t m h d, ← own, add-one t) (first_none _ _ (sym z))

pub returns-then-results-eq0-clause-judged : goal.returns-then-results-eq0-clause-judged
returns-then-results-eq0-clause-judged c = record {
  first = no_result _ _ _ _ _ c.result_count-results.ensures c.if-results-eq0.true;
  fits = c.type_inv.counts;
}

pub loop-t-init : goal.loop-t-init
loop-t-init c = begin _ _ _ _

pub returns-in_err-judge_delivery-clause-judged : goal.returns-in_err-judge_delivery-clause-judged
returns-in_err-judge_delivery-clause-judged c =
    let p = err_from_is_err_and c.from_residual.result c.from_residual.ensures.1 in
    rw (p.1, p.2) (record {
      first =
          sym (met _ _ _ _ _ c.loop-t-test.true c.if-count-ne0.true c.requires.1 _ c.senders-sent.ensures _
          c.in_err-judge_delivery.ensures (is_trouble _)) ∙ c.loop-t.invariant;
      fits = c.type_inv.counts;
    })

pub loop-t-preserved : goal.loop-t-preserved
loop-t-preserved c =
    let h = c.loop-t-test.true in
    sym (elim c.if-count-ne0.branch [
      | then-count-ne0+in_ok-judge_delivery w ↦
          on _ _ _ _ _ h w.if-count-ne0.true c.requires.1 _ c.senders-sent.ensures w.in_ok-judge_delivery.ensures
      | else-count-ne0 w ↦ past _ _ _ _ _ h w.if-count-ne0.false
    ]) ∙ c.loop-t.invariant

pub returns-clause-judged : goal.returns-clause-judged
returns-clause-judged c = record {
  first = sym (none_left _ _ _ _ _ c.loop-t-test.false) ∙ c.loop-t.invariant;
  fits = c.type_inv.counts;
}
