-- `emit::Judged::put_links`: the links put so far are the first ones, and there is room for the others.
use Rattle.job.specs.Write.{link_bytes, edge_held}
use Rattle.job.specs.Laws.Putting.{Putting}
use Rattle.job.proofs.emit.Judged.put_links.Given as goal

abbrev pub invariant-loop-i : goal.invariant-loop-i
invariant-loop-i l =
    let a = l.self.job.arrays.now in
    Putting link_bytes (edge_held a.from a.to a.counts) l.self.job.edges l.i l.initial.out l.out l.start l.at
