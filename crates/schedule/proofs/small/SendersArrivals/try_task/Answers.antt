-- `Senders::try_task`: nothing of the task's row beats the leader where one edge's messages are late; else the row is the one worked out.
use mathlib.Core.Path.{◌≡◌, sym, ap, ◌∙◌}
use mathlib.Core.List.{List}
use Prim.Native.Nat.{ℕ, ◌≤◌, ◌<◌}
use native.Mathlib.Omega.{arith}
use borrow.Author.Rules.{rules}
use lib.ListN.{length, get_or}
use Rattle.base.specs.Laws.Values.{for_values}
use Rattle.schedule.specs.declared.planner.Pair.{Pair}
use Rattle.schedule.specs.declared.instance.Instance.{Instance}
use Rattle.schedule.specs.Handed.{plannable}
use Rattle.schedule.specs.Pass.{first_best, row_by}
use Rattle.schedule.specs.SmallPass.{sources_of, worked_out}
use Rattle.schedule.specs.Laws.Planner.SearchSteps.{first_best_stays, row_by_same}
use Rattle.schedule.proofs.small.SendersArrivals.try_task.Goals as goal

module _ (clock : ℕ) (f : ℕ → ℕ) (free : List ℕ) (count T : ℕ) where
  -- no arrival is before the leader's start
  leads : (b : Pair) → ((i : ℕ) → i < count → b.start ≤ f (get_or free i 0)) → first_best b (row_by clock f free count T) ≡ b
  unfolding row_by
  leads b h = first_best_stays b _ (for_values _ (λ x. b.start ≤ x.start) 0 count (λ n p q. omega (arith, h n (omega arith))))

  -- the arrivals stand in a row, at the first n places
  worked : (n : ℕ) (row : List ℕ) (b r : Pair) → ((i : ℕ) → i < count → get_or free i 0 < n) → ((P : ℕ) → P < n → get_or row P 0 ≡ f P)
      → r ≡ first_best b (row_by clock (λ P. get_or row P 0) free count T) → r ≡ first_best b (row_by clock f free count T)
  worked n row b r low e d =
      d ∙ ap (first_best b) (row_by_same clock (λ P. get_or row P 0) f free count T (λ i h. e (get_or free i 0) (low i h)))

-- the free processors are of the first 16
few : (x : Instance) (free : List ℕ) → ((i : ℕ) → i < length free → get_or free i 0 < x.processors)
    → (i : ℕ) → i < length free → get_or free i 0 < 16
few x free low i k = omega (arith, low i k, (plannable x).few_processors)

pub is_beaten-requires : goal.is_beaten-requires
is_beaten-requires c =
    record {
      walkable = c.requires.may_try.0;
      free_in_bounds = few c.args.self.now.instance.now c.args.free.now c.requires.free_in_bounds;
    }

pub returns-then-is_beaten : goal.returns-then-is_beaten
returns-then-is_beaten c =
    sym (leads _ _ _ _ _ _ (c.is_beaten.ensures c.if-is_beaten.true))

pub try_row-requires : goal.try_row-requires
try_row-requires c =
    record {
      in_bounds = search rules;
      by_index = (few c.args.self.now.instance.now c.args.free.now c.requires.free_in_bounds, c.requires.may_try.1);
    }

pub returns : goal.returns
returns c =
    worked _ (worked_out (sources_of c.args.self.now) c.args.task) _ _ _ _ c.work_out-row.result c.args.leader c.try_row.result
    c.requires.free_in_bounds c.work_out-row.ensures.1 c.try_row.ensures
