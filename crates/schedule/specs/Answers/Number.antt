-- An answer as a number.
use Rattle.std.specs.Prelude.{◌≡◌, ◌⊎◌, Result, Ok, Err, ℕ, ◌≤◌, ◌<◌}
use Rattle.std.proofs.Common.{inl, inr, ap, ◌∙◌, arith}
use Rattle.base.specs.Laws.Tests.{le_or_lt}
use Rattle.job.specs.declared.table.Refusal.{Refusal}
use Rattle.job.specs.Table.{number_of, refusal, refusal_is}

-- 0 for an acceptance, or the refusal's number
abbrev pub answer_number : {T : Type 0} → Result T Refusal → ℕ
answer_number (Ok x) = 0
answer_number (Err e) = number_of e

-- no refusal has the number 0
pub some_number : (e : Refusal) → 1 ≤ number_of e
unfolding refusal
some_number e = go (le_or_lt 1 (number_of e))
  where
    go : (1 ≤ number_of e) ⊎ (number_of e < 1) → 1 ≤ number_of e
    go (inl h) = h
    go (inr h) =
        let z : 0 ≡ number_of e = omega arith in
        absurd (omega (arith, z, ap number_of (ap refusal z ∙ refusal_is e)))
