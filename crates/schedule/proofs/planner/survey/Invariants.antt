-- `planner::survey`: the loop keeps the next moment and the free processors among those looked at; a turn adds one processor to each.
use mathlib.Core.Path.{◌≡◌}
use mathlib.Core.List.{List}
use Prim.Native.Nat.{ℕ, ◌≤◌}
use lib.ListN.{length, get_or}
use Rattle.base.specs.Lists.{values}
use Rattle.schedule.specs.Pass.{soonest, free_among}
use Rattle.schedule.proofs.planner.survey.Given as goal

-- what is known of the first p processors
pub record Going (busy : List ℕ) (n clock : ℕ) (free : List ℕ) (next count p : ℕ) : Type 0 where
  pub fewer : count ≤ p
  pub room : length free ≡ 16
  pub soon : next ≡ soonest busy clock p
  pub listed : values (λ i. get_or free i 0) 0 count ≡ free_among busy clock p

abbrev pub invariant-loop-p : goal.invariant-loop-p
invariant-loop-p l = Going l.busy l.n l.clock l.free l.next l.count l.p
