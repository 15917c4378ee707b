-- The checker's answer.
use Rattle.std.specs.Prelude.{◌≡◌, Result, Ok, Err, refl, ℕ}
use Rattle.std.proofs.Common.{sym, ap, ◌∙◌}
use Rattle.job.specs.declared.Arrays.{Arrays}
use Rattle.job.specs.declared.Reading.{Reading}
use Rattle.job.specs.declared.table.Refusal.{Refusal}
use Rattle.job.specs.Read.{reading_as}
use Rattle.job.specs.Table.{number_of, refusal, refusal_is}
use Rattle.schedule.specs.declared.Judged.{Judged}
use Rattle.schedule.specs.declared.JudgedFound.{JudgedFound}

-- a yes, or the number of a refusal
pub data Checked : Type 0 where
  Yes : Checked
  Refused : ℕ → Checked

-- a program's result as this answer
abbrev pub as_checked : Result Unit Refusal → Checked
as_checked (Ok x) = Yes
as_checked (Err e) = Refused (number_of e)

-- it tells which result that is
pub one_result : (r s : Result Unit Refusal) → as_checked r ≡ as_checked s → r ≡ s
one_result (Ok x) (Ok y) h = refl
one_result (Ok x) (Err e) h = cc
one_result (Err d) (Ok y) h = cc
one_result (Err d) (Err e) h =
    let n : number_of d ≡ number_of e = cc in ap Err (sym (refusal_is d) ∙ (ap refusal n ∙ refusal_is e))

-- what was read of a job file, and the checker's answer to a plan for it
pub record Judgement : Type 0 where
  pub reading : Reading
  pub checked : Checked

abbrev pub as_judgement : Judged → Judgement
as_judgement j = record { reading = j.reading; checked = as_checked j.checked }

-- .. beside the arrays that were filled
abbrev pub found_judgement : JudgedFound → Arrays → Judgement
found_judgement j a = record { reading = reading_as j.found a; checked = as_checked j.checked }
