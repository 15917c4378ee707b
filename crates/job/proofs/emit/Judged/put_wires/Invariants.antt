-- `emit::Judged::put_wires`: the wires put so far are those of the pairs before, and there is room for those of the pairs still to come.
use Rattle.std.proofs.Common.{◌≡◌, ℕ, ◌+◌, ◌≤◌, length}
use mathlib.Core.List.{List, ◌++◌, map, flat_map}
use Rattle.base.specs.Slices.{Put}
use Rattle.job.specs.Record.{pairs}
use Rattle.job.specs.Write.{wire_bytes, wire_held}
use Rattle.job.specs.Pass.{due_from}
use Rattle.job.proofs.emit.Judged.put_wires.Given as goal

-- the bytes of the wires of pairs
abbrev pub wires_of : List ℕ → List (ℕ × ℕ) → List ℕ
wires_of costs xs = flat_map wire_bytes (map (wire_held costs) xs)

-- the wires of the pairs before (p, q) have been put from `start` on, `at` is the place after them, and there is room for what is left
pub record Wiring (costs : List ℕ) (n : ℕ) (out₀ out : List ℕ) (start at p q : ℕ) : Type 0 where
  pub long : length out ≡ length out₀
  pub room : at + length (wires_of costs (due_from n p q)) ≤ length out₀
  pub so_far : List (ℕ × ℕ)
  pub parts : so_far ++ due_from n p q ≡ pairs n
  pub put : Put out₀ out start at (wires_of costs so_far)

abbrev pub invariant-loop-from : goal.invariant-loop-from
invariant-loop-from l = Wiring l.self.job.arrays.now.wires l.n l.fn.out l.out l.start l.at l.from 0

abbrev pub invariant-loop-to : goal.invariant-loop-to
invariant-loop-to l = Wiring l.self.job.arrays.now.wires l.n l.fn.out l.out l.start l.at l.from l.to
