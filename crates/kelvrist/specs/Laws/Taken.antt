-- Why a plan is not taken off its bytes: the file is refused by that number, or the plan is too short for the file's job (9).
use Rattle.std.proofs.Common.{inl, inr, ⊎_elim, ◌∙◌, arith, lt-ltb, le-ltb}
use Rattle.std.specs.Prelude.{◌≡◌, refl, List, ℕ, ◌*◌, ◌<◌, length}
use Rattle.base.specs.Laws.Tests.{lt_or_ge}
use Rattle.job.specs.Read.{Answer, accepted, refused, read_job}
use Rattle.etf.specs.Instance.{tasks}
use Rattle.etf.specs.OfJob.{instance}
use Rattle.schedule.specs.Answered.{Refuses}
use Rattle.kelvrist.specs.Pass.{taken_number, Taken}

pub not_taken : {file plan starts processors : List ℕ} {n : ℕ} → Taken file plan n starts processors → 0 < n
    → Refuses file (λ j. length plan < 5 * tasks (instance j)) n
unfolding taken_number
not_taken {file} {plan} {n = n} t some = go (read_job file) refl t.number_is
  where
    go : (a : Answer) → read_job file ≡ a → n ≡ taken_number a plan → Refuses file (λ j. length plan < 5 * tasks (instance j)) n
    go (accepted j) e n-is =
        let a = length plan in
        let b = 5 * tasks (instance j) in
        ⊎_elim (λ s. inr (rw (lt-ltb a b s) at n-is, j, e, s)) (λ h. absurd (omega (arith, some, rw (le-ltb a b h) at n-is))) (lt_or_ge a b)
    go (refused k) e n-is = inl (e ∙ rw n-is)
