-- The planner and the cover call, by any tie rule, as the two calls on three slices that they are: each law is the one for any such call.
use Rattle.std.specs.Prelude.{true, false, ◌⊎◌, ◌≡◌, List, ℕ}
use Rattle.std.proofs.Math.Logic.{inl, inr, ⊎_elim}
use Rattle.std.proofs.Common.{sym}
use Rattle.base.specs.Laws.Tests.{impossible}
use Rattle.job.specs.Job.{Job}
use Rattle.etf.specs.Instance.{Instance}
use Rattle.schedule.specs.declared.Outcome.{Outcome}
use Rattle.schedule.specs.declared.Figures.{Figures}
use Rattle.schedule.specs.Answers.Planned.{Planned, Plan, Refused as NotPlanned}
use Rattle.schedule.specs.Answers.Covered.{Covered, Cover, Refused as NotCovered}
use Rattle.schedule.specs.Call.{called, CallNumber}
use Rattle.schedule.specs.Plan.{outcome_by, plan_call_by}
use Rattle.schedule.specs.Cover.{figures, cover_call_by}
use Rattle.schedule.specs.Answered.{SlicesRefused, SlicesTaken, call_refused, call_number, call_answer, call_answered, call_cause}
use Rattle.schedule.specs.Answered.{Accepted, accepted_as}

-- what they answer about a job; `by` is its instance, with its tie rule
abbrev pub plan_answer : (Job → Instance) → Job → Planned
plan_answer by j = Plan (outcome_by by j)

abbrev pub cover_answer : (Job → Instance) → Job → Covered
cover_answer by j = Cover (figures (by j))

-- ---- an answer is a refusal or not, and its number is one

not_planned : (o : Outcome) (k : ℕ) → ¬ (Plan o ≡ NotPlanned k)
not_planned o k e = let z : false ≡ true = cc in impossible z

not_covered : (f : Figures) (k : ℕ) → ¬ (Cover f ≡ NotCovered k)
not_covered f k e = let z : false ≡ true = cc in impossible z

plan_one : (i k : ℕ) → NotPlanned i ≡ NotPlanned k → i ≡ k
plan_one i k e = cc

cover_one : (i k : ℕ) → NotCovered i ≡ NotCovered k → i ≡ k
cover_one i k e = cc

module _ (by : Job → Instance) (file starts processors scratch : List ℕ) where
  -- ---- the planner

  pub plan_refused : (k : ℕ) → SlicesRefused file starts processors scratch k
      → plan_call_by by file starts processors scratch ≡ called (NotPlanned k) starts processors scratch
  unfolding plan_call_by
  plan_refused = call_refused file starts processors scratch by NotPlanned (plan_answer by)

  pub plan_number_lem : (k : ℕ) → SlicesRefused file starts processors scratch k
      → (plan_call_by by file starts processors scratch).answer ≡ NotPlanned k
  unfolding plan_call_by
  plan_number_lem = call_number file starts processors scratch by NotPlanned (plan_answer by)

  pub plan_cause : (k : ℕ) → (plan_call_by by file starts processors scratch).answer ≡ NotPlanned k
      → SlicesRefused file starts processors scratch k
  unfolding plan_call_by
  plan_cause =
      call_cause file starts processors scratch by NotPlanned (plan_answer by) plan_one (λ k j e. not_planned (outcome_by by j) k (sym e))

  pub plan_taken : (a : SlicesTaken file starts processors scratch)
      → (plan_call_by by file starts processors scratch).answer ≡ Plan (outcome_by by a.0)
  unfolding plan_call_by
  plan_taken = call_answer file starts processors scratch by NotPlanned (plan_answer by)

  pub plan_answered : ((o : Outcome) × ((plan_call_by by file starts processors scratch).answer ≡ Plan o))
      ⊎ ((k : ℕ) × ((plan_call_by by file starts processors scratch).answer ≡ NotPlanned k) × CallNumber k)
  unfolding plan_call_by
  plan_answered =
      ⊎_elim (λ a. inl (outcome_by by a.0, call_answer file starts processors scratch by NotPlanned (plan_answer by) a)) inr
      (call_answered file starts processors scratch by NotPlanned (plan_answer by))

  -- what its acceptance says
  abbrev pub PlannedAs : Outcome → Type 0
  PlannedAs o = Accepted file starts processors scratch by NotPlanned (plan_answer by) (Plan o)

  pub planned_as : (o : Outcome) → (plan_call_by by file starts processors scratch).answer ≡ Plan o → PlannedAs o
  unfolding plan_call_by
  planned_as o h = accepted_as file starts processors scratch by NotPlanned (plan_answer by) (Plan o) (not_planned o) h

  pub outcome_is : {o : Outcome} (P : PlannedAs o) → o ≡ outcome_by by P.job
  outcome_is P = let e = P.answer_is in cc

  -- ---- the cover call

  pub cover_refused : (k : ℕ) → SlicesRefused file starts processors scratch k
      → cover_call_by by file starts processors scratch ≡ called (NotCovered k) starts processors scratch
  unfolding cover_call_by
  cover_refused = call_refused file starts processors scratch by NotCovered (cover_answer by)

  pub cover_number : (k : ℕ) → SlicesRefused file starts processors scratch k
      → (cover_call_by by file starts processors scratch).answer ≡ NotCovered k
  unfolding cover_call_by
  cover_number = call_number file starts processors scratch by NotCovered (cover_answer by)

  pub cover_cause : (k : ℕ) → (cover_call_by by file starts processors scratch).answer ≡ NotCovered k
      → SlicesRefused file starts processors scratch k
  unfolding cover_call_by
  cover_cause =
      call_cause file starts processors scratch by NotCovered (cover_answer by) cover_one (λ k j e. not_covered (figures (by j)) k (sym e))

  pub cover_taken : (a : SlicesTaken file starts processors scratch)
      → (cover_call_by by file starts processors scratch).answer ≡ Cover (figures (by a.0))
  unfolding cover_call_by
  cover_taken = call_answer file starts processors scratch by NotCovered (cover_answer by)

  pub cover_answered : ((f : Figures) × ((cover_call_by by file starts processors scratch).answer ≡ Cover f))
      ⊎ ((k : ℕ) × ((cover_call_by by file starts processors scratch).answer ≡ NotCovered k) × CallNumber k)
  unfolding cover_call_by
  cover_answered =
      ⊎_elim (λ a. inl (figures (by a.0), call_answer file starts processors scratch by NotCovered (cover_answer by) a)) inr
      (call_answered file starts processors scratch by NotCovered (cover_answer by))

  abbrev pub CoveredAs : Figures → Type 0
  CoveredAs f = Accepted file starts processors scratch by NotCovered (cover_answer by) (Cover f)

  pub covered_as : (f : Figures) → (cover_call_by by file starts processors scratch).answer ≡ Cover f → CoveredAs f
  unfolding cover_call_by
  covered_as f h = accepted_as file starts processors scratch by NotCovered (cover_answer by) (Cover f) (not_covered f) h

  pub figures_is : {f : Figures} (Q : CoveredAs f) → f ≡ figures (by Q.job)
  figures_is Q = let e = Q.answer_is in cc

  -- so each refuses as the other does
  pub plan_as_cover : (k : ℕ) → (cover_call_by by file starts processors scratch).answer ≡ NotCovered k
      → (plan_call_by by file starts processors scratch).answer ≡ NotPlanned k
  plan_as_cover k h = plan_number_lem k (cover_cause k h)

  pub cover_as_plan : (k : ℕ) → (plan_call_by by file starts processors scratch).answer ≡ NotPlanned k
      → (cover_call_by by file starts processors scratch).answer ≡ NotCovered k
  cover_as_plan k h = cover_number k (plan_cause k h)

-- and the planner by one tie rule as the planner by another
pub one_as_other : (by by₂ : Job → Instance) (file starts processors scratch : List ℕ) (k : ℕ)
    → (plan_call_by by file starts processors scratch).answer ≡ NotPlanned k
    → (plan_call_by by₂ file starts processors scratch).answer ≡ NotPlanned k
one_as_other by by₂ file starts processors scratch k h =
    plan_number_lem by₂ file starts processors scratch k (plan_cause by file starts processors scratch k h)
