-- `emit::Judged::file_length`: the length that document 01 gives a file, and 4 bytes for each wire and each result.
use Rattle.std.proofs.Common.{◌≡◌, ℕ, ◌+◌, ◌*◌, arith, length, get_or}
use Rattle.std.proofs.lemmas.List.{length-map}
use Rattle.base.specs.Laws.Values.{length-values}
use Rattle.job.specs.declared.HeldJob.{HeldJob}
use Rattle.job.specs.Record.{wire_pairs}
use Rattle.job.specs.Write.{edge_held, wire_held, results_held, file_of, held_job, job_held}
use Rattle.job.specs.Laws.Written.{file_size}
use Rattle.job.proofs.emit.Judged.file_length.Goals as goal

held_size : (x : HeldJob) (w n : ℕ) → w ≡ length (wire_pairs x.platform) → n ≡ length (results_held x.arrays.now.results x.tasks)
    → 4 + 4 * w + 5 * x.tasks + 5 * x.edges + 4 * n + 1 ≡ length (file_of (job_held x))
unfolding held_job
held_size x w n wires_are results_are =
    omega (
      arith,
      wires_are,
      results_are,
      file_size (job_held x),
      length-map (wire_pairs x.platform) (wire_held x.arrays.now.wires),
      length-values (λ t. get_or x.arrays.now.durations t 0) 0 x.tasks,
      length-values (edge_held x.arrays.now.from x.arrays.now.to x.arrays.now.counts) 0 x.edges,
    )

pub returns : goal.returns
returns c = held_size c.args.self.now.job _ _ c.wire_count.ensures.0 c.args.self.now.counted
