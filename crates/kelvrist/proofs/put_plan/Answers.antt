-- `put_plan` passes a refusal on, refuses by 9 a plan too short for what is planned, and else writes the bytes of what the arrays hold.
use mathlib.Core.Path.{◌≡◌, ap, ◌∙◌}
use mathlib.Core.List.{List, [], ◌++◌}
use Prim.Native.Nat.{ℕ, ◌*◌, ◌≤◌, ◌<◌}
use native.Mathlib.Omega.{arith}
use borrow.Author.Tests.{lt-ltb, le-ltb}
use lib.ListN.{length, get_or, drop}
use Rattle.std.proofs.lemmas.Result.{err_from_is_err_and}
use Rattle.std.proofs.Common.{Result, Ok, Err}
use Rattle.job.specs.declared.table.Refusal.{Refusal}
use Rattle.job.specs.Table.{number_of as table_number}
use Rattle.schedule.specs.declared.Outcome.{Outcome}
use Rattle.schedule.specs.Answers.Planned.{as_planned}
use Rattle.schedule.specs.Call.{called}
use Rattle.kelvrist.specs.PlanBytes.{returned, plan_bytes}
use Rattle.kelvrist.specs.Numbers.{in_bytes}
use Rattle.kelvrist.proofs.put_plan.Goals as goal

module _ (r : Result Outcome Refusal) (s p plan : List ℕ) where
  refuses : {k : Refusal} → r ≡ Err k → returned (table_number k) plan ≡ in_bytes (called (as_planned r) s p []) plan
  refuses h = rw h

  module _ {o : Outcome} (h : r ≡ Ok o) where
    too_short : length plan < 5 * o.tasks → returned 9 plan ≡ in_bytes (called (as_planned r) s p []) plan
    too_short l = rw (h, lt-ltb (length plan) (5 * o.tasks) l)

    -- the tasks that were put are those of the plan
    fills : (plan' : List ℕ) → 5 * o.tasks ≤ length plan
        → plan' ≡ plan_bytes o.tasks (λ T. get_or p T 0) (λ T. get_or s T 0) ++ drop (5 * o.tasks) plan
        → returned 0 plan' ≡ in_bytes (called (as_planned r) s p []) plan
    fills plan' l g = ap (returned 0) g ∙ rw (h, le-ltb (length plan) (5 * o.tasks) l)

pub returns-in_err-outcome : goal.returns-in_err-outcome
returns-in_err-outcome c =
    let p = err_from_is_err_and c.from_residual.result c.from_residual.ensures.1 in rw (p.1, p.2) (refuses _ _ _ _ c.in_err-outcome.was)

pub overflow_mul-tasks : goal.overflow_mul-tasks
overflow_mul-tasks c = record { fits = omega (arith, (c.requires _ c.in_ok-outcome.was).0) }

pub returns-then-plan-tasks : goal.returns-then-plan-tasks
returns-then-plan-tasks c = too_short _ _ _ _ c.in_ok-outcome.was c.if-plan-tasks.true

pub put-requires : goal.put-requires
put-requires c =
    let fits = c.requires _ c.in_ok-outcome.was in
    (omega (arith, fits.1), omega (arith, fits.2), omega (arith, c.if-plan-tasks.false))

pub returns : goal.returns
returns c = fills _ _ _ _ c.in_ok-outcome.was _ c.if-plan-tasks.false c.put.ensures
