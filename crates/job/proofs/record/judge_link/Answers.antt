-- `record::judge_link`: the trouble of the count, and after it one case of the definition for each return.
use native.Mathlib.Omega.{arith}
use Rattle.job.specs.Record.{joins}
use Rattle.job.specs.Pass.{key, count_trouble, link_trouble}
use Rattle.job.specs.Laws.Judged.{ranged_err, ranged_ok}
use Rattle.job.proofs.record.judge_link.Goals as goal

pub returns-in_err-judge_count : goal.returns-in_err-judge_count
unfolding count_trouble link_trouble joins key
returns-in_err-judge_count c = grind (arith, ranged_err, ranged_ok)

pub returns-then-to-from : goal.returns-then-to-from
unfolding count_trouble link_trouble joins key
returns-then-to-from c = grind (arith, ranged_err, ranged_ok)

pub returns-then-key-least : goal.returns-then-key-least
unfolding count_trouble link_trouble joins key
returns-then-key-least c = grind (arith, ranged_err, ranged_ok)

pub returns : goal.returns
unfolding count_trouble link_trouble joins key
returns c = grind (arith, ranged_err, ranged_ok)
