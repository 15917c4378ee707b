-- `checker::is_early`: the start against the arrival at the task's processor.
use Rattle.schedule.specs.Pass.{early_at}
use Rattle.schedule.proofs.checker.is_early.Goals as goal

pub returns : goal.returns
unfolding early_at
returns c = rw (c.of_edge-sent.ensures.arrival_value, c.processor.ensures.value, c.from-t.ensures)
