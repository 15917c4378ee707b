-- `emit::judge_results`: the results of the tasks still to come have the trouble of all, as long as none was met.
use Rattle.std.proofs.Common.{◌≡◌, ◌-◌, length}
use Rattle.job.specs.Write.{results_held}
use Rattle.job.specs.Pass.{sends, results_from, results_trouble}
use Rattle.job.proofs.emit.judge_results.Given as goal

abbrev pub invariant-loop-t : goal.invariant-loop-t
invariant-loop-t l =
    let n = length l.counts in
    results_trouble (sends l.from l.edges) (results_from l.counts l.t (n - l.t))
    ≡ results_trouble (sends l.from l.edges) (results_held l.counts n)
