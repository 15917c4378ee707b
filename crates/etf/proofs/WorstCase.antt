-- How far from the best the planner's schedule can be (00: demand 3), for any instance, with messages of any cost and any priority order.
use Rattle.std.specs.Prelude.{◌≡◌, ℕ, ◌≤◌, ◌<◌}
use Rattle.etf.specs.Instance.{Instance, WellFormed, tasks}
use Rattle.etf.specs.Schedule.{last_finish}
use Rattle.etf.specs.Rule.{planned}
use Rattle.etf.specs.Cover.{Walk, FinishesLast, cover}
use Rattle.etf.specs.Dearest.{dearest}
use Rattle.etf.specs.Ideal.{Ideal, makespan}
use Rattle.etf.proofs.Walks.{cover_walk}
use Rattle.etf.proofs.Laws.Walk.{walk_dearest}
use Rattle.etf.proofs.Laws.Bound.{last_bound, own_ideal, own_makespan}
use Rattle.etf.specs.WorstCase.{Within}

module _ (I : Instance) (W : WellFormed I) where
  -- every walk's sum is at most the dearest chain
  pub walk_within : (T C : ℕ) → T < tasks I → Walk I (planned I) T C → C ≤ dearest I
  walk_within = walk_dearest I W

  -- 02 §7: the comparison holds with every walk begun with any task that finishes last, for every ideal schedule
  pub any_walk_within : (T C : ℕ) → FinishesLast I (planned I) T → Walk I (planned I) T C
      → (R : Ideal I) → Within I.processors (last_finish I (planned I)) (makespan I R) C (dearest I)
  any_walk_within T C f w R =
      record { end_within = last_bound I W R T C f.below f.at_last w; cover_within = walk_within T C f.below w }

  -- demand 3: E is the last finish of the planner's schedule, F the makespan of any ideal schedule, C the cover, D the dearest chain
  pub within : (R : Ideal I) → Within I.processors (last_finish I (planned I)) (makespan I R) (cover I) (dearest I)
  within R = let c = cover_walk I W in any_walk_within c.task (cover I) c.finishes_last c.walked R

  -- there is an ideal schedule: the planner's own is one, with its last finish as makespan
  pub some_ideal : (R : Ideal I) × (makespan I R ≡ last_finish I (planned I))
  some_ideal = (own_ideal I W, own_makespan I W)
