-- `record::judge_result`: the trouble of the delivery, and after it one case of the definition for each return.
use native.Mathlib.Omega.{arith}
use Rattle.job.specs.Pass.{delivery_trouble, result_trouble}
use Rattle.job.specs.Laws.Judged.{ranged_err, ranged_ok}
use Rattle.job.proofs.record.judge_result.Goals as goal

pub returns-in_err-judge_delivery : goal.returns-in_err-judge_delivery
unfolding delivery_trouble result_trouble
returns-in_err-judge_delivery c = grind (arith, ranged_err, ranged_ok)

pub returns-then-tasks-task : goal.returns-then-tasks-task
unfolding delivery_trouble result_trouble
returns-then-tasks-task c = grind (arith, ranged_err, ranged_ok)

pub returns : goal.returns
unfolding delivery_trouble result_trouble
returns c = grind (arith, ranged_err, ranged_ok)
