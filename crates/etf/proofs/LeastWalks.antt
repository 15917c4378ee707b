-- The least cover is what 02 §7 asks for: one walk has this sum, none of that kind has a smaller one, and the comparison with an ideal
-- schedule holds with it in place of C.
use Rattle.std.specs.Prelude.{◌≡◌, List, [], ℕ, ◌≤◌, ◌<◌}
use Rattle.std.proofs.Math.Option.{none}
use Rattle.base.specs.Lists.{◌∈◌}
use Rattle.etf.specs.Instance.{Instance, ordered, WellFormed, tasks}
use Rattle.etf.specs.Schedule.{Placement, placement_of, end, dearest_result}
use Rattle.etf.specs.Rule.{planned}
use Rattle.etf.specs.Cover.{Back, latest_idle_tick, MayGoBack, Walk, FinishesLast, cover}
use Rattle.etf.specs.Dearest.{dearest}
use Rattle.etf.specs.Least.{moves, least_from, least}
use Rattle.etf.specs.Ideal.{Ideal, makespan}
use Rattle.etf.proofs.Walks.{cover_walk}
use Rattle.etf.proofs.WorstCase.{walk_within}
use Rattle.etf.specs.Results.{WithinResults}
use Rattle.etf.proofs.Results.{any_walk_within}
use Rattle.etf.proofs.Laws.Ordered.{ideal_ordered, makespan_ordered}
use Rattle.etf.proofs.Laws.Moves
use Rattle.etf.proofs.Laws.Least

module _ (I : Instance) (ps : List Placement) where
  -- the list of moves is the relation of `Cover.antt`: in any schedule, a walk may make those moves and no others
  pub moves_allowed : (T : ℕ) (b : Back) → b ∈ moves I ps T → MayGoBack I ps T b
  moves_allowed = Moves.moves_of I ps

  pub all_moves : (T : ℕ) (b : Back) → MayGoBack I ps T b → b ∈ moves I ps T
  all_moves = Moves.moves_in I ps

module _ (I : Instance) (W : WellFormed I) where
  -- in the planner's schedule no task is left without a move while a tick before its start is short: a walk stops only where it may
  pub stops_right : (T : ℕ) → T < tasks I → moves I (planned I) T ≡ []
      → latest_idle_tick I (planned I) (placement_of (planned I) T).start ≡ none
  stops_right = Moves.stops_only I W

  -- of the walks from one task: one has this sum, and none has a smaller one
  pub one_from : (T : ℕ) → T < tasks I → Walk I (planned I) T (least_from I (planned I) (tasks I) T)
  one_from T b = Least.least_walk I W (tasks I) T b b

  pub none_less_from : (T C : ℕ) → T < tasks I → Walk I (planned I) T C → least_from I (planned I) (tasks I) T ≤ C
  none_less_from T C b w = Least.least_low I W (tasks I) T C b w

  -- any number of moves above T gives the same
  pub enough_moves : (k T : ℕ) → T < k → T < tasks I → least_from I (planned I) k T ≡ least_from I (planned I) (tasks I) T
  enough_moves k T h b = Least.least_enough I W k (tasks I) T h b b

  -- 02 §7: "one has this sum"
  pub one_has : (T : ℕ) × FinishesLast I (planned I) T × Walk I (planned I) T (least I)
  one_has = Least.least_begun I W

  -- 02 §7: "No walk of that kind has a smaller sum"
  pub none_less : (T C : ℕ) → FinishesLast I (planned I) T → Walk I (planned I) T C → least I ≤ C
  none_less = Least.least_first I W

  -- so it is at most C, whose walk is of that kind
  pub at_most_cover : least I ≤ cover I
  at_most_cover = let c = cover_walk I W in none_less c.task (cover I) c.finishes_last c.walked

  -- and at most the dearest chain
  pub at_most_dearest : least I ≤ dearest I
  at_most_dearest = let w = one_has in walk_within I W w.0 (least I) w.1.below w.2

  -- 02 §7: "the rival comparison holds with it in place of C (plus the result time where a job has one)", for every ideal schedule
  pub within : (result : ℕ → ℕ) (R : Ideal I)
      → WithinResults I.processors (end I result (planned I)) (makespan I R) (least I) (dearest_result I result (planned I)) (dearest I)
  within result R = let w = one_has in any_walk_within I W result w.0 (least I) w.1 w.2 R

-- with any priority order, of which the ideal schedule knows nothing (as `any_order_within` of `Results.antt`, with C)
pub any_order_within : (I : Instance) (order : List ℕ) → WellFormed (ordered order I) → (result : ℕ → ℕ) (S : Ideal I)
    → WithinResults I.processors (end (ordered order I) result (planned (ordered order I))) (makespan I S) (least (ordered order I))
    (dearest_result (ordered order I) result (planned (ordered order I))) (dearest (ordered order I))
unfolding ordered
any_order_within I order W result S =
    rw (makespan_ordered I order S) at (within (ordered order I) W result (ideal_ordered I order S))
