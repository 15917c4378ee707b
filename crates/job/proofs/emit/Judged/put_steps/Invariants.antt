-- `emit::Judged::put_steps`: the steps put so far are those of the first tasks, and there is room for the others.
use Rattle.std.proofs.Common.{get_or}
use Rattle.job.specs.Write.{step_bytes}
use Rattle.job.specs.Laws.Putting.{Putting}
use Rattle.job.proofs.emit.Judged.put_steps.Given as goal

abbrev pub invariant-loop-duration : goal.invariant-loop-duration
invariant-loop-duration l =
    Putting step_bytes (λ t. get_or l.self.job.arrays.now.durations t 0) l.self.job.tasks l.duration-index l.initial.out l.out l.start l.at
