-- Results (02 §2): the end is what the document says, and the comparison with an ideal schedule has the dearest result time beside C.
use Rattle.std.specs.Prelude.{◌≡◌, List, ℕ, ◌+◌, ◌*◌, ◌≤◌, ◌<◌, max}
use Rattle.std.proofs.Common.{arith, mul-le-mul_left}
use Rattle.base.specs.Lists.{◌∈◌, upto, greatest}
use Rattle.job.specs.Job.{Result, result_count, RiseByTask}
use Rattle.etf.specs.Instance.{Instance, ordered, WellFormed, tasks, duration}
use Rattle.etf.specs.Schedule.{Placement, placement_of, finish, last_finish, end, dearest_result}
use Rattle.etf.specs.Rule.{planned}
use Rattle.etf.specs.Cover.{Walk, FinishesLast, cover}
use Rattle.etf.specs.Dearest.{dearest}
use Rattle.etf.specs.Ideal.{Ideal, makespan}
use Rattle.etf.specs.WorstCase.{Within}
use Rattle.etf.proofs.WorstCase
use Rattle.etf.proofs.Laws.Planned.{sound_plan, home}
use Rattle.etf.proofs.Laws.Ticks.{placement_once}
use Rattle.etf.proofs.Laws.Ordered.{ideal_ordered, makespan_ordered}
use Rattle.etf.proofs.Laws.Results
use Rattle.etf.specs.Results.{WithinResults}

-- ---- the end of any schedule, whole or begun

module _ (I : Instance) (result : ℕ → ℕ) (ps : List Placement) where
  -- no earlier than the last finish, and later by the dearest result time at most
  pub end_before : last_finish I ps ≤ end I result ps
  end_before = Results.end_before I result ps

  pub end_after : end I result ps ≤ last_finish I ps + dearest_result I result ps
  end_after = Results.end_after I result ps

  -- without results it is the last finish (01: "The plan's end is the greatest finish"), and the dearest result time is 0
  pub without : ((u : Placement) → u ∈ ps → result u.task ≡ 0) → (end I result ps ≡ last_finish I ps) × (dearest_result I result ps ≡ 0)
  without none = let n = Results.no_time I result ps none in (omega (arith, end_before, end_after, n), n)

-- ---- the planner's schedule

module _ (I : Instance) (result : ℕ → ℕ) where
  -- where the comparison holds of the last finish with some C, it holds of the end with that C and the results
  pub with_results : (F C D : ℕ) → Within I.processors (last_finish I (planned I)) F C D
      → WithinResults I.processors (end I result (planned I)) F C (dearest_result I result (planned I)) D
  with_results F C D k = record {
    end_within = omega (arith, k.end_within, mul-le-mul_left I.processors (end_after I result (planned I)));
    cover_within = k.cover_within;
  }

module _ (I : Instance) (W : WellFormed I) where
  -- 02 §2: "A plan's end becomes the greatest of all finishes and of each result's finish plus its count times the cost from its board to
  -- board 0", for results that rise by task
  pub end_is : (results : List Result) → RiseByTask results → ((r : Result) → r ∈ results → r.task < tasks I)
      → end I (result_count results) (planned I)
      ≡ max (last_finish I (planned I))
      (greatest (λ r. finish I (placement_of (planned I) r.task) + r.count * I.cost (placement_of (planned I) r.task).processor 0)
      results)
  end_is results up b =
      Results.by_results I (planned I) (placement_once (planned I) (sound_plan I W).once) results up (λ r h. home I W r.task (b r h))

  -- 02 §2: "the dearest result time (a count times that cost) of our plan"
  pub dearest_is : (results : List Result) → RiseByTask results → ((r : Result) → r ∈ results → r.task < tasks I)
      → dearest_result I (result_count results) (planned I)
      ≡ greatest (λ r. r.count * I.cost (placement_of (planned I) r.task).processor 0) results
  dearest_is results up b =
      Results.dearest_by_results I (planned I) (placement_once (planned I) (sound_plan I W).once) results up
      (λ r h. home I W r.task (b r h))

  -- the end by task number
  pub by_task_lem : (result : ℕ → ℕ)
      → end I result (planned I)
      ≡ greatest (λ T. (placement_of (planned I) T).start + duration I T + result T * I.cost (placement_of (planned I) T).processor 0)
      (upto (tasks I))
  by_task_lem result =
      Results.by_task_lem I (planned I) (placement_once (planned I) (sound_plan I W).once)
      (λ u h. ((sound_plan I W).in_range_lem u h).0) (home I W)
      result

  -- with every walk begun with any task that finishes last, for every ideal schedule
  pub any_walk_within : (result : ℕ → ℕ) (T C : ℕ) → FinishesLast I (planned I) T → Walk I (planned I) T C → (R : Ideal I)
      → WithinResults I.processors (end I result (planned I)) (makespan I R) C (dearest_result I result (planned I)) (dearest I)
  any_walk_within result T C f w R = with_results I result (makespan I R) C (dearest I) (WorstCase.any_walk_within I W T C f w R)

  -- with the cover
  pub within : (result : ℕ → ℕ) (R : Ideal I)
      → WithinResults I.processors (end I result (planned I)) (makespan I R) (cover I) (dearest_result I result (planned I)) (dearest I)
  within result R = with_results I result (makespan I R) (cover I) (dearest I) (WorstCase.within I W R)

  -- without results: the end is document 01's, and the dearest result time is 0
  pub planned_without : (result : ℕ → ℕ) → ((T : ℕ) → T < tasks I → result T ≡ 0)
      → (end I result (planned I) ≡ last_finish I (planned I)) × (dearest_result I result (planned I) ≡ 0)
  planned_without result none = without I result (planned I) (λ u h. none u.task ((sound_plan I W).in_range_lem u h).0)

-- 02 §6: "The distance from the rival is shown over an arbitrary priority order": E, C, R and D are those of the planner with that order;
-- F is of any ideal schedule of the instance, which knows of none
pub any_order_within : (I : Instance) (order : List ℕ) → WellFormed (ordered order I) → (result : ℕ → ℕ) (S : Ideal I)
    → WithinResults I.processors (end (ordered order I) result (planned (ordered order I))) (makespan I S) (cover (ordered order I))
    (dearest_result (ordered order I) result (planned (ordered order I))) (dearest (ordered order I))
unfolding ordered
any_order_within I order W result S =
    rw (makespan_ordered I order S) at (within (ordered order I) W result (ideal_ordered I order S))
