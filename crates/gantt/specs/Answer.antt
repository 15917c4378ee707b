-- What the call that draws a page answers: the page's length, or the number of a refusal.
use Rattle.std.specs.Prelude.{◌≡◌, Result, Ok, Err, ℕ}
use Rattle.std.proofs.Common.{sym, ap, ◌∙◌}
use Rattle.job.specs.declared.table.Refusal.{Refusal}
use Rattle.job.specs.Table.{number_of, refusal, refusal_is}

pub data Drawn : Type 0 where
  Length : ℕ → Drawn
  Refused : ℕ → Drawn

-- a program's result as this answer
abbrev pub as_drawn : Result ℕ Refusal → Drawn
as_drawn (Ok n) = Length n
as_drawn (Err e) = Refused (number_of e)

-- it tells which result that is
pub one_result : (r s : Result ℕ Refusal) → as_drawn r ≡ as_drawn s → r ≡ s
one_result (Ok m) (Ok n) h = cc
one_result (Ok m) (Err e) h = cc
one_result (Err d) (Ok n) h = cc
one_result (Err d) (Err e) h =
    let n : number_of d ≡ number_of e = cc in ap Err (sym (refusal_is d) ∙ (ap refusal n ∙ refusal_is e))
