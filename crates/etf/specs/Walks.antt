-- The cover's walk, as a record of what is to hold of it.
use Rattle.std.specs.Prelude.{◌≡◌, ℕ, ◌≤◌}
use Rattle.std.proofs.Math.Option.{some}
use Rattle.etf.specs.Instance.{Instance, tasks}
use Rattle.etf.specs.Rule.{planned}
use Rattle.etf.specs.Cover.{Walk, FinishesLast, walk, last_task, cover}

-- the walk whose sum is C: begun with the last task, it adds up to C with every number of moves that reaches its end,
-- and is a walk of 02 §7
pub record CoverWalk (I : Instance) : Type 0 where
  pub task : ℕ
  pub is_last : last_task I (planned I) ≡ some task
  pub finishes_last : FinishesLast I (planned I) task
  pub adds : (k : ℕ) → tasks I ≤ k → walk I (planned I) k task ≡ cover I
  pub walked : Walk I (planned I) task (cover I)
