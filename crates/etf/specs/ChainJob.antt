-- The job whose tasks are a chain: none of its size takes more rounds.
use Rattle.std.specs.Prelude.{map, ℕ, suc, ◌-◌, replicate}
use Rattle.base.specs.Lists.{upto}
use Rattle.job.specs.Job.{Edge, Job, blank, with_rack, with_tasks, with_edges}

-- a message from task T to the next
abbrev pub arrow : ℕ → Edge
arrow T = record { from = T; to = suc T; count = 1 }

-- m tasks of one tick, each with a message to the next, on n processors wired flat, c = 1
unfoldable pub chain_job : ℕ → ℕ → Job
chain_job n m =
    with_edges (with_tasks (with_rack blank (record { processors = n; topology = 0; unit = 1 })) (replicate m 1)) (map arrow (upto (m - 1)))
