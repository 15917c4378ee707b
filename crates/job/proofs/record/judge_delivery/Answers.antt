-- `record::judge_delivery`: the trouble of the count, and after it one case of the definition for each return.
use native.Mathlib.Omega.{arith}
use Rattle.job.specs.Pass.{count_trouble, delivery_trouble}
use Rattle.job.specs.Laws.Judged.{ranged_err, ranged_ok}
use Rattle.job.proofs.record.judge_delivery.Goals as goal

pub returns-in_err-judge_count : goal.returns-in_err-judge_count
unfolding count_trouble delivery_trouble
returns-in_err-judge_count c = grind (arith, ranged_err, ranged_ok)

pub returns-then-sent : goal.returns-then-sent
unfolding count_trouble delivery_trouble
returns-then-sent c = grind (arith, ranged_err, ranged_ok)

pub returns : goal.returns
unfolding count_trouble delivery_trouble
returns c = grind (arith, ranged_err, ranged_ok)
