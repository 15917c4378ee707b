-- `check_plan` refuses a plan that is not taken off its bytes, and else says what `check` says.
use mathlib.Core.Logic.{⊎_elim}
use mathlib.Core.Path.{◌≡◌, ap, sym, ◌∙◌}
use mathlib.Core.List.{List}
use Prim.Native.Nat.{ℕ}
use Rattle.std.proofs.Common.{Result, Ok, Err}
use Rattle.std.proofs.lemmas.Result.{err_from_is_err_and}
use Rattle.job.specs.declared.table.Refusal.{Refusal}
use Rattle.job.specs.Table.{number_of}
use Rattle.schedule.specs.Answers.Checked.{as_checked}
use Rattle.schedule.specs.Check.{check_call}
use Rattle.schedule.specs.Answers.Number.{answer_number}
use Rattle.kelvrist.specs.PlanBytes.{check_bytes_call}
use Rattle.kelvrist.specs.Numbers.{check_number, checked_number, check_passes_on, check_short, check_number_lem}
use Rattle.kelvrist.specs.Pass.{Taken}
use native.Mathlib.Omega.{arith}
use Rattle.schedule.specs.Answers.Number.{some_number}
use Rattle.kelvrist.specs.Laws.Taken.{not_taken}
use Rattle.kelvrist.proofs.check_plan.Goals as goal

module _ {file plan starts processors : List ℕ} {taken : Result Unit Refusal}
    (t : Taken file plan (answer_number taken) starts processors) where
  refuses : {e : Refusal} → taken ≡ Err e → number_of e ≡ check_bytes_call file plan
  refuses {e} is =
      let r = number_of e in
      ⊎_elim (λ says. sym (check_passes_on file plan r says)) (λ w. w.0 ∙ sym (check_short file plan w.1 w.2 w.3))
      (not_taken (rw is at t) (omega (arith, some_number e)))

  answers : (c : Result Unit Refusal) {u : Unit} → taken ≡ Ok u → as_checked c ≡ check_call file starts processors
      → answer_number c ≡ check_bytes_call file plan
  answers c is c-is =
      let h = t.held (ap answer_number is) in
      checked_number c
      ∙ (ap check_number c-is
      ∙ sym (check_number_lem file plan h.job h.says starts processors h.has_bytes h.has_starts h.has_processors
      (λ T i. (h.starts_are T i, h.processors_are T i))))

pub returns-in_err-take_plan : goal.returns-in_err-take_plan
returns-in_err-take_plan c =
    let p = err_from_is_err_and c.from_residual.result c.from_residual.ensures.1 in
    rw (p.1, p.2) (refuses c.take_plan.ensures c.in_err-take_plan.was)

pub returns : goal.returns
returns c = answers c.take_plan.ensures c.check.result c.in_ok-take_plan.was c.check.ensures
