-- The planner for small controllers (02 §4) beside the larger entry, for every file and all slices: the same plan and the same refusals,
-- "only 9 has the new length". The checker accepts what it leaves.
use Rattle.std.specs.Prelude.{Bool, true, false, ◌||◌, ◌⊎◌, ◌≡◌, List, ℕ, ◌≤◌, ltb, length, replicate}
use Rattle.std.proofs.Math.Logic.{inl, inr, ⊎_elim}
use Rattle.std.proofs.Math.Path.{refl, ap}
use Rattle.std.proofs.Common.{sym, arith, le-ltb}
use Rattle.std.proofs.lemmas.List.{length-replicate}
use Rattle.base.specs.Choice.{pick}
use Rattle.base.specs.Slices.{filled}
use Rattle.base.specs.Laws.Tests.{impossible}
use Rattle.job.specs.Job.{Job}
use Rattle.job.specs.Read.{Answer, accepted, refused, read_job}
use Rattle.job.specs.Accepted.{accepted_job}
use Rattle.etf.specs.Instance.{tasks}
use Rattle.etf.specs.OfJob.{instance}
use Rattle.etf.proofs.Jobs.{by_number}
use Rattle.schedule.specs.declared.Outcome.{Outcome}
use Rattle.schedule.specs.Answers.Planned.{Planned, Plan, Refused}
use Rattle.schedule.specs.Answers.Checked.{Yes}
use Rattle.schedule.specs.Call.{Call, called, arrival_places, laid_out_call, plan_by, is_too_short, CallNumber, call_for}
use Rattle.schedule.specs.Plan.{outcome, plan_call, plan_call_by}
use Rattle.schedule.specs.Small.{small_places, laid_small, small_call}
use Rattle.schedule.specs.Check.{check_call}
use Rattle.schedule.specs.Answered.{RefusedFor, TakenFor, refused_by, number_by, answer_by, answered_by, cause_by}
use Rattle.schedule.specs.Answered.{AcceptedBy, accepted_by}
use Rattle.schedule.specs.Laws.Checker.OwnPlan.{filled_yes}

-- what it answers about a job, and what it leaves
abbrev pub small_answer : Job → Planned
small_answer j = Plan (outcome j)

abbrev pub small_accept : Job → List ℕ → List ℕ → List ℕ → Call Planned
small_accept j = laid_small (small_answer j) (instance j)

not_planned : (o : Outcome) (k : ℕ) → ¬ (Plan o ≡ Refused k)
not_planned o k e = let z : false ≡ true = cc in impossible z

one_number : (i k : ℕ) → Refused i ≡ Refused k → i ≡ k
one_number i k e = cc

-- ---- what the call does by itself

module _ (file starts processors scratch : List ℕ) where
  -- why it refuses by k: the reader does, or the job is accepted and a slice too short for it, the scratch for 512 places (9)
  abbrev pub SmallRefused : ℕ → Type 0
  SmallRefused = RefusedFor small_places file starts processors scratch

  abbrev pub SmallTaken : Type 0
  SmallTaken = TakenFor small_places file starts processors scratch

  pub with_answer : (j : Job) → (small_accept j starts processors scratch).answer ≡ small_answer j
  unfolding laid_small
  with_answer j = refl

  -- with a cause for k it refuses by k and leaves the slices as they were
  pub small_refused : (k : ℕ) → SmallRefused k → small_call file starts processors scratch ≡ called (Refused k) starts processors scratch
  unfolding small_call
  small_refused = refused_by small_places file starts processors scratch Refused small_answer small_accept with_answer

  pub small_number : (k : ℕ) → SmallRefused k → (small_call file starts processors scratch).answer ≡ Refused k
  unfolding small_call
  small_number = number_by small_places file starts processors scratch Refused small_answer small_accept with_answer

  -- and by a number only with its cause
  pub small_cause : (k : ℕ) → (small_call file starts processors scratch).answer ≡ Refused k → SmallRefused k
  unfolding small_call
  small_cause =
      cause_by small_places file starts processors scratch Refused small_answer small_accept with_answer one_number
      (λ k j e. not_planned (outcome j) k (sym e))

  -- an accepted job and slices with room: it plans
  pub small_taken : (a : SmallTaken) → (small_call file starts processors scratch).answer ≡ Plan (outcome a.0)
  unfolding small_call
  small_taken = answer_by small_places file starts processors scratch Refused small_answer small_accept with_answer

  pub small_answered : ((o : Outcome) × ((small_call file starts processors scratch).answer ≡ Plan o))
      ⊎ ((k : ℕ) × ((small_call file starts processors scratch).answer ≡ Refused k) × CallNumber k)
  unfolding small_call
  small_answered =
      ⊎_elim (λ a. inl (outcome a.0, small_taken a)) inr
      (answered_by small_places file starts processors scratch Refused small_answer small_accept with_answer)

  -- what a plan says: the file is accepted, the slices have room, and the call lays the plan out
  abbrev pub SmallPlanned : Outcome → Type 0
  SmallPlanned o = AcceptedBy small_places file starts processors scratch Refused small_answer small_accept with_answer (Plan o)

  pub small_planned : (o : Outcome) → (small_call file starts processors scratch).answer ≡ Plan o → SmallPlanned o
  unfolding small_call
  small_planned o h =
      accepted_by small_places file starts processors scratch Refused small_answer small_accept with_answer (Plan o) (not_planned o) h

  module _ (o : Outcome) (h : (small_call file starts processors scratch).answer ≡ Plan o) where
    -- 02 §4: it "leaves those 512 at zero"; the rest is as it was
    pub scratch_zero : (small_call file starts processors scratch).scratch ≡ filled (λ x. 0) small_places scratch
    unfolding small_call laid_small
    scratch_zero = ap (λ (c : Call Planned). c.scratch) (small_planned o h).call_is

    -- the checker says yes to its starts and processors
    pub small_accepted : check_call file (small_call file starts processors scratch).starts
        (small_call file starts processors scratch).processors ≡ Yes
    unfolding small_call check_call laid_small
    small_accepted =
        let P = small_planned o h in
        rw (P.call_is, P.says)
        (filled_yes by_number P.job (accepted_job file P.job P.says) starts processors
        P.has_room.for_starts P.has_room.for_processors)

-- ---- and beside the larger entry's

-- what two calls tell of a plan, or of a refusal
pub record SameAs (x y : Call Planned) : Type 0 where
  pub answers : x.answer ≡ y.answer
  pub starts_are : x.starts ≡ y.starts
  pub processors_are : x.processors ≡ y.processors

-- 02 §4: "For each job it gives the same starts, boards and refusals as the larger entry": where the scratch of each has room, whatever
-- the file is and the other slices are
pub same_plan : (file starts processors scratch larger : List ℕ) → small_places ≤ length scratch → arrival_places ≤ length larger
    → SameAs (small_call file starts processors scratch) (plan_call file starts processors larger)
unfolding small_call plan_call_by call_for is_too_short laid_small laid_out_call
same_plan file starts processors scratch larger a b = go (read_job file)
  where
    held : (j : Job) (t : Bool)
        → SameAs (pick t (called (Refused 9) starts processors scratch) (small_accept j starts processors scratch))
        (pick t (called (Refused 9) starts processors larger) (plan_by instance small_answer j starts processors larger))
    held j true = record { answers = refl; starts_are = refl; processors_are = refl }
    held j false = record { answers = refl; starts_are = refl; processors_are = refl }

    go : (x : Answer) → SameAs (call_for small_places Refused small_accept x starts processors scratch)
        (call_for arrival_places Refused (plan_by instance small_answer) x starts processors larger)
    go (refused k) = record { answers = refl; starts_are = refl; processors_are = refl }
    go (accepted j) =
        simp (le-ltb (length scratch) small_places a, le-ltb (length larger) arrival_places b)
        (held j (ltb (length starts) (tasks (instance j)) || (ltb (length processors) (tasks (instance j)) || false)))

-- a scratch for the larger entry
abbrev pub larger_scratch : List ℕ
larger_scratch = replicate arrival_places 0

-- a plan of the small entry is the larger one's, on the same starts and processors
pub as_larger : (file starts processors scratch : List ℕ) (o : Outcome) → (small_call file starts processors scratch).answer ≡ Plan o
    → SameAs (small_call file starts processors scratch) (plan_call file starts processors larger_scratch)
as_larger file starts processors scratch o h =
    same_plan file starts processors scratch larger_scratch (small_planned file starts processors scratch o h).has_room.for_scratch
    (omega (arith, length-replicate {A = ℕ} arrival_places 0))
