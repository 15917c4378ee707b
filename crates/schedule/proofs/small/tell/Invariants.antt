-- `small::tell`: before edge k the tasks were told what the edges `first` to before k tell; each turn adds one edge, which changes the task
-- that it goes to alone.
use mathlib.Core.Path.{◌≡◌}
use mathlib.Core.List.{List}
use Prim.Native.Nat.{ℕ}
use lib.ListN.{length}
use Rattle.schedule.specs.SmallPass.{Told}
use Rattle.schedule.proofs.small.tell.Given as goal

-- the lengths stay, and what the edges before edge k tell has been told
pub record Going (first finish : ℕ) (to waiting scratch waiting₁ scratch₁ : List ℕ) (k : ℕ) : Type 0 where
  pub waiting_size : length waiting₁ ≡ 256
  pub scratch_size : length scratch₁ ≡ length scratch
  pub told : Told first k finish to waiting scratch waiting₁ scratch₁

abbrev pub invariant-loop-k : goal.invariant-loop-k
invariant-loop-k l = Going l.done.first l.done.finish l.to l.initial.waiting l.initial.scratch l.waiting l.scratch l.k
