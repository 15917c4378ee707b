-- `emit::judge_links`: what is left of the row, after the last key, has the trouble of the whole, as long as none was met.
use Rattle.std.proofs.Common.{◌≡◌, ◌-◌, length}
use Rattle.base.specs.Lists.{values}
use Rattle.job.specs.Write.{edge_held}
use Rattle.job.specs.Pass.{links_trouble}
use Rattle.job.proofs.emit.judge_links.Given as goal

abbrev pub invariant-loop-i : goal.invariant-loop-i
invariant-loop-i l =
    let n = length l.from in
    links_trouble l.tasks l.least (values (edge_held l.from l.to l.counts) l.i (n - l.i))
    ≡ links_trouble l.tasks 0 (values (edge_held l.from l.to l.counts) 0 n)
