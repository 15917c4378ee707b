-- `emit::judge_steps`: what is left of the row has the trouble of the whole, as long as none was met.
use Rattle.std.proofs.Common.{◌≡◌, drop}
use Rattle.job.specs.Pass.{steps_trouble}
use Rattle.job.proofs.emit.judge_steps.Given as goal

abbrev pub invariant-loop-duration : goal.invariant-loop-duration
invariant-loop-duration l = steps_trouble (drop l.duration-index l.durations) ≡ steps_trouble l.durations
