-- `judge` puts together what `judge_into` answers.
use Rattle.schedule.proofs.judge.Goals as goal

pub returns : goal.returns
returns c = rw c.put_together.ensures c.judge_into-judged.ensures
