-- `Senders::work_out`: before edge k, which goes to the task, the row has the arrivals by the edges before it; a turn goes on to the next
-- edge into the task, and the edges between send it nothing.
use mathlib.Core.Path.{◌≡◌}
use mathlib.Core.List.{List}
use Prim.Native.Nat.{ℕ, ◌-◌, ◌<◌}
use lib.ListN.{length, get_or}
use Rattle.base.specs.Rows.{most}
use Rattle.schedule.specs.SmallPass.{Sources, sources_of, sent_for}
use Rattle.schedule.specs.Laws.Planner.WorkedOut.{Into}
use Rattle.schedule.proofs.small.Senders.work_out.Given as goal

-- the arrivals at n processors by the edges before k
pub record Going (S : Sources) (T n : ℕ) (row : List ℕ) (k : ℕ) : Type 0 where
  pub size : length row ≡ 16
  pub into : Into S T k
  pub so_far : (P : ℕ) → P < n → get_or row P 0 ≡ most k (sent_for S T P)

abbrev pub invariant-loop-edge : goal.invariant-loop-edge
invariant-loop-edge l = Going (sources_of l.self) l.task l.self.instance.now.processors l.row l.edge

abbrev pub decreases-loop-edge : goal.decreases-loop-edge
decreases-loop-edge l = l.self.instance.now.edges - l.edge
