-- `emit::Judged::put_results`: the results put so far are those of the first tasks, and there is room for all.
use Rattle.std.proofs.Common.{◌≡◌, ℕ, ◌+◌, ◌≤◌, length}
use mathlib.Core.List.{List, flat_map}
use Rattle.base.specs.Slices.{Put}
use Rattle.job.specs.Write.{result_bytes, results_held}
use Rattle.job.proofs.emit.Judged.put_results.Given as goal

-- the results of the first t of m tasks have been put from `start` on, `at` is the place after them, and there is room for all
pub record Delivering (counts : List ℕ) (m : ℕ) (out₀ out : List ℕ) (start at t : ℕ) : Type 0 where
  pub long : length out ≡ length out₀
  pub room : start + length (flat_map result_bytes (results_held counts m)) ≤ length out₀
  pub put : Put out₀ out start at (flat_map result_bytes (results_held counts t))

abbrev pub invariant-loop-t : goal.invariant-loop-t
invariant-loop-t l = Delivering l.self.job.arrays.now.results l.self.job.tasks l.initial.out l.out l.start l.at l.t
