-- The cover's walk: C is what the walk's rule says, whatever the number of moves allowed, and the sum of one of the walks of 02 §7.
use Rattle.std.specs.Prelude.{◌≡◌, ℕ, suc, ◌+◌, ◌<◌}
use Rattle.std.proofs.Math.Option.{none, some}
use Rattle.std.proofs.Common.{arith}
use Rattle.etf.specs.Instance.{Instance, WellFormed, tasks}
use Rattle.etf.specs.Schedule.{placement_of, message_time_to}
use Rattle.etf.specs.Rule.{planned}
use Rattle.etf.specs.Cover.{latest_idle_tick, back, walk, cover}
use Rattle.etf.proofs.Laws.Back.{stopped, walk_is, walk_enough}
use Rattle.etf.proofs.Laws.Planned.{last_task_lem}
use Rattle.etf.specs.Walks.{CoverWalk}

module _ (I : Instance) (W : WellFormed I) where
  -- what the walk from task T adds, by the rule alone: nothing where it stops,
  -- else the message time of the move and what the walk from the predecessor adds
  pub walk_rule : (T : ℕ) → T < tasks I
      → walk I (planned I) (tasks I) T
      ≡ elim (back I (planned I) T)
      [ none ↦ 0 | some b ↦ message_time_to I (planned I) b.through b.edge + walk I (planned I) (tasks I) b.edge.from ]
  unfolding walk
  walk_rule T b = walk_enough I W (tasks I) (suc (tasks I)) T b (omega arith) b

  -- any number of moves above T gives the same
  pub enough_moves : (k T : ℕ) → T < k → T < tasks I → walk I (planned I) k T ≡ walk I (planned I) (tasks I) T
  enough_moves k T h b = walk_enough I W k (tasks I) T h b b

  -- the walk stops only where no tick before the task's start is short
  pub stops_right : (T : ℕ) → T < tasks I → back I (planned I) T ≡ none
      → latest_idle_tick I (planned I) (placement_of (planned I) T).start ≡ none
  stops_right T b e = stopped I W T b e

pub cover_walk : (I : Instance) → WellFormed I → CoverWalk I
unfolding cover
cover_walk I W =
    let t = last_task_lem I W in
    let b = t.2.below in
    let w = walk_is I W (tasks I) t.0 b b in
    record {
      task = t.0;
      is_last = t.1;
      finishes_last = t.2;
      adds = λ k h. rw (t.1, cover) (enough_moves I W k t.0 (omega arith) b);
      walked = rw (t.1, cover) w;
    }
