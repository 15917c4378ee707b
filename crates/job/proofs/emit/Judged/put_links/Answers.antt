-- `emit::Judged::put_links`: the links put so far are the first ones, and there is room for the others.
use Rattle.std.proofs.Common.{ℕ, ◌+◌, ◌≤◌, ◌<◌, List, arith, length}
use Rattle.job.specs.Job.{Edge}
use Rattle.job.specs.Write.{link_bytes, edge_held, held_job}
use Rattle.job.specs.Laws.Sizes.{link_size}
use Rattle.job.specs.Laws.Putting.{Putting, putting_none, putting_room, putting_more, putting_done}
use Rattle.job.proofs.emit.Judged.put_links.Goals as goal

room : {f : ℕ → Edge} {m i : ℕ} {out₀ out : List ℕ} {start at : ℕ} → Putting link_bytes f m i out₀ out start at → i < m
    → at + 5 ≤ length out
room {f} {m} {i} p h = omega (arith, putting_room link_bytes f m p h, link_size (f i))

pub loop-i-init : goal.loop-i-init
unfolding held_job
loop-i-init c = putting_none _ _ _ _ _ c.requires

pub put_link-at-requires : goal.put_link-at-requires
put_link-at-requires c = room c.loop-i.invariant c.loop-i-test.true

pub loop-i-preserved : goal.loop-i-preserved
unfolding edge_held
loop-i-preserved c = putting_more _ _ _ c.loop-i.invariant c.loop-i-test.true c.put_link-at.auto.out c.put_link-at.ensures

pub returns : goal.returns
unfolding held_job
returns c = putting_done _ _ _ c.loop-i.invariant c.loop-i-test.false
