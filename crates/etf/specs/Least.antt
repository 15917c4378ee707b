-- The least cover (02 §7: "The tightest figure for the sales sheet"): the least sum over all walks of the kind that `Cover.antt` calls
-- `Walk`, each begun with a task that finishes last.
use Rattle.std.proofs.Math.Option.{none, some}
use mathlib.Core.List.{List, [], map, flat_map}
use Rattle.std.specs.Prelude.{ℕ, zero, suc, ◌+◌, ltb, eqb}
use Rattle.base.specs.Lists.{upto, filter, smallest}
use Rattle.job.specs.Job.{Edge}
use Rattle.etf.specs.Instance.{Instance, tasks, into}
use Rattle.etf.specs.Schedule.{Placement, placement_of, finish, message_time_to, reach, last_finish}
use Rattle.etf.specs.Rule.{planned}
use Rattle.etf.specs.Cover.{Back, idle, latest_idle_tick}

module _ (I : Instance) (ps : List Placement) where
  -- 02 §7: "each idle board at that tick", t, which the bundle of edge e "would reach .. after that tick"
  unfoldable pub serving : ℕ → Edge → List ℕ
  serving t e = filter (λ P. ltb t (reach I ps P e)) (idle I ps t)

  -- the moves that a walk may make at task T, through each processor that serves along each edge into it; none where no tick is short
  -- before its start (`LeastWalks.antt`: they are those that `MayGoBack` allows)
  unfoldable pub moves : ℕ → List Back
  moves T =
      elim (latest_idle_tick I ps (placement_of ps T).start)
      [ none ↦ [] | some t ↦ flat_map (λ e. map (λ P. record { edge = e; through = P }) (serving t e)) (into I T) ]

  -- the least sum of a walk from task T, in at most k moves; 0 where it stops
  unfoldable pub least_from : ℕ → ℕ → ℕ
  least_from zero T = 0
  least_from (suc k) T = smallest (λ b. message_time_to I ps b.through b.edge + least_from k b.edge.from) (moves T)

  -- 02 §7: "any step that finishes last"
  unfoldable pub last_tasks : List ℕ
  last_tasks = filter (λ T. eqb (finish I (placement_of ps T)) (last_finish I ps)) (upto (tasks I))

-- 02 §7: "the least C over all such walks, each begun with any step that finishes last".
-- Edges go from lower to higher tasks, so a walk has fewer than m moves (`LeastWalks.antt`).
unfoldable pub least : Instance → ℕ
least I = smallest (least_from I (planned I) (tasks I)) (last_tasks I (planned I))
