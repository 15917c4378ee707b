-- `emit::judge_wires`: the wires of the pairs still to come have the trouble of all, as long as none was met.
use Rattle.std.proofs.Common.{◌≡◌, ℕ, List, map}
use Rattle.job.specs.Record.{pairs}
use Rattle.job.specs.Write.{wire_held}
use Rattle.job.specs.Pass.{due_from, wires_trouble}
use Rattle.job.proofs.emit.judge_wires.Given as goal

-- the wires of the pairs from (p, q) on have the trouble of all
abbrev pub Judging : List ℕ → ℕ → ℕ → ℕ → Type 0
Judging costs n p q = wires_trouble (map (wire_held costs) (due_from n p q)) ≡ wires_trouble (map (wire_held costs) (pairs n))

abbrev pub invariant-loop-from : goal.invariant-loop-from
invariant-loop-from l = Judging l.job.arrays.now.wires l.n l.from 0

abbrev pub invariant-loop-to : goal.invariant-loop-to
invariant-loop-to l = Judging l.job.arrays.now.wires l.n l.from l.to
