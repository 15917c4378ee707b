-- `emit::Judged::put_steps`: the steps put so far are those of the first tasks, and there is room for the others.
use Rattle.std.proofs.Common.{ℕ, ◌+◌, ◌≤◌, ◌<◌, List, arith, length}
use Rattle.std.proofs.Common.{get_or-take}
use Rattle.std.proofs.lemmas.List.{length-take}
use Rattle.job.specs.Write.{step_bytes, held_job}
use Rattle.job.specs.Laws.Sizes.{step_size}
use Rattle.job.specs.Laws.Putting.{Putting, putting_none, putting_room, putting_more, putting_done}
use Rattle.job.proofs.emit.Judged.put_steps.Goals as goal

room : {f : ℕ → ℕ} {m i : ℕ} {out₀ out : List ℕ} {start at : ℕ} → Putting step_bytes f m i out₀ out start at → i < m → at + 5 ≤ length out
room {f} {m} {i} p h = omega (arith, putting_room step_bytes f m p h, step_size (f i))

pub loop-duration-init : goal.loop-duration-init
unfolding held_job
loop-duration-init c = putting_none _ _ _ _ _ c.requires

pub put_step-at-requires : goal.put_step-at-requires
put_step-at-requires c = room c.loop-duration.invariant (omega (arith, length-take {A = ℕ}))

pub loop-duration-preserved : goal.loop-duration-preserved
loop-duration-preserved c =
    let h : c.loop-duration.duration-index < c.args.self.now.job.tasks = omega (arith, length-take {A = ℕ}) in
    putting_more _ _ _ c.loop-duration.invariant h c.put_step-at.auto.out (rw get_or-take at c.put_step-at.ensures)

pub returns : goal.returns
unfolding held_job
returns c = putting_done _ _ _ c.loop-duration.invariant (omega (arith, c.loop-duration-test.false))
