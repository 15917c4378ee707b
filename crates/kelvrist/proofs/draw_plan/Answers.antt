-- `draw_plan` refuses a plan that is not taken off its bytes, and else gives what `draw` gives, with its bytes.
use mathlib.Core.Logic.{⊎_elim}
use mathlib.Core.Path.{◌≡◌, ap, sym, ◌∙◌}
use mathlib.Core.List.{List}
use Prim.Native.Nat.{ℕ}
use Rattle.std.proofs.Common.{Result, Ok, Err}
use Rattle.std.proofs.lemmas.Result.{err_from_is_err_and}
use Rattle.job.specs.declared.table.Refusal.{Refusal}
use Rattle.job.specs.Table.{number_of}
use Rattle.gantt.specs.Answer.{as_drawn as as_drawn_answer}
use Rattle.gantt.specs.Draw.{drawn, draw_call}
use Rattle.schedule.specs.Answers.Number.{answer_number}
use Rattle.kelvrist.specs.PageBytes.{drew, as_drawn_call, page_bytes_call}
use Rattle.kelvrist.specs.Page.{page_passes_on, page_short, as_drawn, drawn_number}
use Rattle.kelvrist.specs.Pass.{Taken}
use native.Mathlib.Omega.{arith}
use Rattle.schedule.specs.Answers.Number.{some_number}
use Rattle.kelvrist.specs.Laws.Taken.{not_taken}
use Rattle.kelvrist.proofs.draw_plan.Goals as goal

module _ {file plan starts processors : List ℕ} {taken : Result Unit Refusal}
    (t : Taken file plan (answer_number taken) starts processors) where
  refuses : {e : Refusal} (page : List ℕ) → taken ≡ Err e → drew (number_of e) page ≡ page_bytes_call file plan page
  refuses {e} page is =
      let r = number_of e in
      ⊎_elim (λ says. sym (page_passes_on file plan page r says)) (λ w. rw w.0 (sym (page_short file plan page w.1 w.2 w.3)))
      (not_taken (rw is at t) (omega (arith, some_number e)))

  draws : (page : List ℕ) {page' : List ℕ} (d : Result ℕ Refusal) {u : Unit} → taken ≡ Ok u
      → drawn (as_drawn_answer d) page' ≡ draw_call file starts processors page
      → drew (answer_number d) page' ≡ page_bytes_call file plan page
  draws page {page'} d is d-is =
      let h = t.held (ap answer_number is) in
      ap (λ (k : ℕ). drew k page') (drawn_number d)
      ∙ (ap as_drawn_call d-is
      ∙ sym (as_drawn file plan page h.job h.says starts processors h.has_bytes h.has_starts h.has_processors
      (λ T i. (h.starts_are T i, h.processors_are T i))))

pub returns-in_err-taken : goal.returns-in_err-taken
returns-in_err-taken c =
    let p = err_from_is_err_and c.from_residual.result c.from_residual.ensures.1 in
    rw (p.1, p.2) (refuses c.take_plan-taken.ensures _ c.in_err-taken.was)

pub returns : goal.returns
returns c = draws c.take_plan-taken.ensures _ c.draw.result c.in_ok-taken.was c.draw.ensures
