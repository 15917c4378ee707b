-- An instance with another priority order: what does not look at the order is the same.
use Rattle.std.specs.Prelude.{◌≡◌, List}
use Rattle.std.proofs.Math.Path.{refl, ap}
use Prim.Native.Nat.{ℕ, zero, suc, ◌+◌, ◌*◌, ◌<◌}
use Rattle.base.specs.Lists.{◌∈◌, upto}
use Rattle.etf.specs.Instance.{Instance, ordered, WellFormed, tasks, duration, into, message_time}
use Rattle.etf.specs.Schedule.{Placement}
use Rattle.etf.specs.Dearest.{greatest_cost, dearest_to, dearest}
use Rattle.etf.specs.Checker.{Keeps}
use Rattle.etf.specs.Ideal.{Ideal, makespan}
use Rattle.base.specs.Laws.Lists.{greatest_same}

module _ (I : Instance) (order : List ℕ) where
  pub ordered_well : WellFormed I → ((T : ℕ) → T < tasks I → T ∈ order) → ((T : ℕ) → T ∈ order → T < tasks I) → WellFormed (ordered order I)
  unfolding ordered duration
  ordered_well W all only = record {
    some_processor = W.some_processor;
    some_task = W.some_task;
    takes_time = W.takes_time;
    goes_up = W.goes_up;
    has_all = all;
    has_only = only;
  }

  -- an ideal schedule of the one is one of the other
  pub ideal_ordered : Ideal I → Ideal (ordered order I)
  unfolding ordered duration
  ideal_ordered R =
      record { processor = R.processor; start = R.start; on_processor = R.on_processor; apart = R.apart; in_turn = R.in_turn }

  pub ideal_back : Ideal (ordered order I) → Ideal I
  unfolding ordered duration
  ideal_back R =
      record { processor = R.processor; start = R.start; on_processor = R.on_processor; apart = R.apart; in_turn = R.in_turn }

  pub makespan_ordered : (R : Ideal I) → makespan (ordered order I) (ideal_ordered R) ≡ makespan I R
  unfolding ideal_ordered makespan ordered duration
  makespan_ordered R = refl

  cost_ordered : greatest_cost (ordered order I) ≡ greatest_cost I
  unfolding greatest_cost ordered
  cost_ordered = refl

  dearest_to_ordered : (k T : ℕ) → dearest_to (ordered order I) k T ≡ dearest_to I k T
  unfolding dearest_to into ordered greatest_cost
  dearest_to_ordered zero T = refl
  dearest_to_ordered (suc k) T =
      greatest_same (λ e. e.count * greatest_cost I + dearest_to (ordered order I) k e.from)
      (λ e. e.count * greatest_cost I + dearest_to I k e.from) (into I T)
      (λ e h. ap (λ x. e.count * greatest_cost I + x) (dearest_to_ordered k e.from))

  pub dearest_ordered : dearest (ordered order I) ≡ dearest I
  unfolding dearest ordered
  dearest_ordered =
      greatest_same (dearest_to (ordered order I) (tasks I)) (dearest_to I (tasks I)) (upto (tasks I))
      (λ T h. dearest_to_ordered (tasks I) T)

  -- the checker's rules
  pub keeps_ordered : (ps : List Placement) → Keeps (ordered order I) ps → Keeps I ps
  unfolding ordered duration message_time
  keeps_ordered ps K =
      record { on_processor = K.on_processor; not_late = K.not_late; apart = K.apart; in_time = K.in_time }
