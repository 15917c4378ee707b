-- `emit::judge_steps`: what is left of the row has the trouble of the whole, as long as none was met.
use Rattle.std.proofs.Common.{◌≡◌, ℕ, ◌+◌, ◌≤◌, ◌<◌, List, sym, ◌∙◌, add-one, drop, length, get_or, drop-cons, drop_of_length-le}
use Rattle.std.proofs.lemmas.Result.{err_from_is_err_and}
use Rattle.job.specs.Table.{is_trouble}
use Rattle.job.specs.Pass.{step_trouble, steps_trouble}
use Rattle.job.specs.Laws.Judged.{first_some, first_none}
use Rattle.job.proofs.emit.judge_steps.Goals as goal

module _ (ds : List ℕ) (i : ℕ) where
  none_left : length ds ≤ i → steps_trouble (drop i ds) ≡ 0
  unfolding steps_trouble
  none_left h = rw (drop_of_length-le ds h)

  module _ (h : i < length ds) where
    met : (r : ℕ) → r ≡ step_trouble (get_or ds i 0) → (r ≡ 0 → ⊥) → steps_trouble (drop i ds) ≡ r
    unfolding steps_trouble
    met r is z = rw (drop-cons ds i 0 h, ← is) (first_some _ _ z)

    on : 0 ≡ step_trouble (get_or ds i 0) → steps_trouble (drop i ds) ≡ steps_trouble (drop (i + 1) ds)
    unfolding steps_trouble
    on z = rw (drop-cons ds i 0 h, add-one) (first_none _ _ (sym z))

pub returns-in_err-judge_step : goal.returns-in_err-judge_step
returns-in_err-judge_step c =
    let p = err_from_is_err_and c.from_residual.result c.from_residual.ensures.1 in
    rw (p.1, p.2) (record {
      first = sym (met _ _ c.loop-duration-test.true _ c.in_err-judge_step.ensures (is_trouble _)) ∙ c.loop-duration.invariant;
      fits = c.type_inv.durations;
    })

pub loop-duration-preserved : goal.loop-duration-preserved
loop-duration-preserved c = sym (on _ _ c.loop-duration-test.true c.in_ok-judge_step.ensures) ∙ c.loop-duration.invariant

pub returns : goal.returns
returns c = record {
  first = sym (none_left _ _ c.loop-duration-test.false) ∙ c.loop-duration.invariant;
  fits = c.type_inv.durations;
}
