-- The planner's answer.
use Rattle.std.specs.Prelude.{◌≡◌, Result, Ok, Err, ℕ}
use Rattle.std.proofs.Common.{sym, ap, ◌∙◌}
use Rattle.job.specs.declared.table.Refusal.{Refusal}
use Rattle.job.specs.Table.{number_of, refusal, refusal_is}
use Rattle.schedule.specs.declared.Outcome.{Outcome}

-- a plan, or the number of a refusal
pub data Planned : Type 0 where
  Plan : Outcome → Planned
  Refused : ℕ → Planned

-- a program's result as this answer
abbrev pub as_planned : Result Outcome Refusal → Planned
as_planned (Ok o) = Plan o
as_planned (Err e) = Refused (number_of e)

-- it tells which result that is
pub one_result : (r s : Result Outcome Refusal) → as_planned r ≡ as_planned s → r ≡ s
one_result (Ok o) (Ok p) h = cc
one_result (Ok o) (Err e) h = cc
one_result (Err d) (Ok p) h = cc
one_result (Err d) (Err e) h =
    let n : number_of d ≡ number_of e = cc in ap Err (sym (refusal_is d) ∙ (ap refusal n ∙ refusal_is e))
