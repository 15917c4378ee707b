-- The planner from C, by any tie rule, refuses, with its number, or accepts: by the reader's answer and, for an accepted job, by the
-- plan's room.
use Rattle.std.specs.Prelude.{◌⊎◌, ◌≡◌, List, ℕ, ◌*◌, ◌≤◌, ◌<◌, length}
use Rattle.std.proofs.Common.{⊎_elim, inl, inr, sym, ap, ◌∙◌, subst, arith}
use borrow.Author.Tests.{lt-ltb, le-ltb}
use Rattle.base.specs.Laws.Tests.{lt_or_ge}
use Rattle.job.specs.Job.{Job}
use Rattle.etf.specs.Instance.{Instance, tasks}
use Rattle.etf.specs.OfJob.{instance}
use Rattle.kelvrist.specs.PlanBytes.{BytesCall, returned, plan_bytes_for, plan_bytes_call_by}
use Rattle.schedule.specs.Call.{CallNumber}
use Rattle.schedule.specs.Answered.{Refuses, Accepts, refuses_or_accepts, refusal_number}

module _ (file plan : List ℕ) where
  abbrev pub BytesRefused : ℕ → Type 0
  BytesRefused = Refuses file (λ j. length plan < 5 * tasks (instance j))

  abbrev pub BytesTaken : Type 0
  BytesTaken = Accepts file (λ j. 5 * tasks (instance j) ≤ length plan)

  bytes : ((k : ℕ) × BytesRefused k) ⊎ BytesTaken
  bytes = refuses_or_accepts file _ _ (λ j. lt_or_ge (length plan) (5 * tasks (instance j)))

module _ (by : Job → Instance) (file plan : List ℕ) where
  pub bytes_refused : (k : ℕ) → BytesRefused file plan k → plan_bytes_call_by by file plan ≡ returned k plan
  unfolding plan_bytes_call_by plan_bytes_for
  bytes_refused k (inl e) = rw e
  bytes_refused k (inr (z, j, e, s)) = rw (e, plan_bytes_for, lt-ltb (length plan) (5 * tasks (instance j)) s, z)

  pub bytes_number : (k : ℕ) → BytesRefused file plan k → (plan_bytes_call_by by file plan).number ≡ k
  bytes_number k r = ap (λ (c : BytesCall). c.number) (bytes_refused k r)

  bytes_taken : BytesTaken file plan → (plan_bytes_call_by by file plan).number ≡ 0
  unfolding plan_bytes_call_by plan_bytes_for
  bytes_taken (j, e, f) = rw (e, plan_bytes_for, le-ltb (length plan) (5 * tasks (instance j)) f)

  pub bytes_answered : ((plan_bytes_call_by by file plan).number ≡ 0) ⊎ CallNumber (plan_bytes_call_by by file plan).number
  bytes_answered =
      ⊎_elim (λ r. inr (subst CallNumber (sym (bytes_number r.0 r.1)) (refusal_number file _ r.0 r.1)))
      (λ a. inl (bytes_taken a)) (bytes file plan)

  pub bytes_cause : (k : ℕ) → 1 ≤ k → (plan_bytes_call_by by file plan).number ≡ k → BytesRefused file plan k
  bytes_cause k p h =
      ⊎_elim (λ r. subst (BytesRefused file plan) (sym (bytes_number r.0 r.1) ∙ h) r.1)
      (λ a. absurd (omega (arith, p, h, bytes_taken a))) (bytes file plan)

-- by one tie rule it returns the number that it returns by another
pub one_number : (by by₂ : Job → Instance) (file plan : List ℕ)
    → (plan_bytes_call_by by file plan).number ≡ (plan_bytes_call_by by₂ file plan).number
one_number by by₂ file plan =
    ⊎_elim (λ r. bytes_number by file plan r.0 r.1 ∙ sym (bytes_number by₂ file plan r.0 r.1))
    (λ a. bytes_taken by file plan a ∙ sym (bytes_taken by₂ file plan a)) (bytes file plan)
