-- What a call on a file and three slices does, whatever it answers on acceptance: it refuses, by the reader's number or by 9 for want of
-- room, or it accepts. The planner and the cover call are two such calls, which ask for 4,096 places of scratch and lay the plan out.
use Rattle.std.proofs.Math.Bool.{true}
use Rattle.std.specs.Prelude.{false, ◌⊎◌, ◌≡◌, List, ℕ, ◌≤◌, ◌<◌}
use Rattle.std.proofs.Common.{inl, inr, ⊎_elim, sym, ap, ◌∙◌, subst, arith}
use Rattle.std.proofs.Math.Path.{refl}
use borrow.Author.Tests.{lt-ltb, le-ltb}
use Rattle.std.proofs.Math.ListN.{length}
use Rattle.base.specs.Laws.Tests.{le_or_lt}
use Rattle.job.specs.Job.{Job}
use Rattle.job.specs.Read.{Answer, accepted, refused, read_job}
use Rattle.job.specs.Refusal.{read_numbers}
use Rattle.etf.specs.Instance.{Instance, tasks}
use Rattle.etf.specs.OfJob.{instance}
use Rattle.schedule.specs.Call.{Call, called, arrival_places, laid_out_call, plan_by, is_too_short, CallNumber, call_for}
use Rattle.schedule.specs.Lent.{ShortFor, RoomFor}

-- ---- room in the slices, and the definition's test of it

module _ (places m : ℕ) (starts processors scratch : List ℕ) where
  pub short_or_room : ShortFor places m starts processors scratch ⊎ RoomFor places m starts processors scratch
  short_or_room = go (le_or_lt m (length starts)) (le_or_lt m (length processors)) (le_or_lt places (length scratch))
    where
      go : (m ≤ length starts) ⊎ (length starts < m) → (m ≤ length processors) ⊎ (length processors < m)
          → (places ≤ length scratch) ⊎ (length scratch < places)
          → ShortFor places m starts processors scratch ⊎ RoomFor places m starts processors scratch
      go (inr a) b c = inl (inl a)
      go (inl a) (inr b) c = inl (inr (inl b))
      go (inl a) (inl b) (inr c) = inl (inr (inr c))
      go (inl a) (inl b) (inl c) = inr (record { for_starts = a; for_processors = b; for_scratch = c })

  short_true : ShortFor places m starts processors scratch → is_too_short places m starts processors scratch ≡ true
  unfolding is_too_short
  short_true s = go (le_or_lt m (length starts)) (le_or_lt m (length processors)) s
    where
      go : (m ≤ length starts) ⊎ (length starts < m) → (m ≤ length processors) ⊎ (length processors < m)
          → ShortFor places m starts processors scratch
          → is_too_short places m starts processors scratch ≡ true
      go (inr a) b s = rw (lt-ltb (length starts) m a)
      go (inl a) (inr b) s = rw (le-ltb (length starts) m a, lt-ltb (length processors) m b)
      go (inl a) (inl b) (inl s) = absurd (omega (arith, a, s))
      go (inl a) (inl b) (inr (inl s)) = absurd (omega (arith, b, s))
      go (inl a) (inl b) (inr (inr s)) = rw (le-ltb (length starts) m a, le-ltb (length processors) m b, lt-ltb (length scratch) places s)

  room_false : RoomFor places m starts processors scratch → is_too_short places m starts processors scratch ≡ false
  unfolding is_too_short
  room_false f =
      rw (
        le-ltb (length starts) m f.for_starts,
        le-ltb (length processors) m f.for_processors,
        le-ltb (length scratch) places f.for_scratch,
      )

-- ---- any call on a file: what it is lent is too small for some jobs, and has room for others

-- why a call refuses by k: the reader does, or the job is accepted and what is lent too small for it (9)
abbrev pub Refuses : List ℕ → (Job → Type 0) → ℕ → Type 0
Refuses file Small k = (read_job file ≡ refused k) ⊎ ((k ≡ 9) × (j : Job) × (read_job file ≡ accepted j) × Small j)

-- why it accepts
abbrev pub Accepts : List ℕ → (Job → Type 0) → Type 0
Accepts file Room = (j : Job) × (read_job file ≡ accepted j) × Room j

-- it does one of the two
pub refuses_or_accepts : (file : List ℕ) (Small Room : Job → Type 0) → ((j : Job) → Small j ⊎ Room j)
    → ((k : ℕ) × Refuses file Small k) ⊎ Accepts file Room
refuses_or_accepts file Small Room decide = go (read_job file) refl
  where
    held : (j : Job) → read_job file ≡ accepted j → Small j ⊎ Room j → ((k : ℕ) × Refuses file Small k) ⊎ Accepts file Room
    held j e (inl s) = inl (9, inr (refl, j, e, s))
    held j e (inr r) = inr (j, e, r)

    go : (a : Answer) → read_job file ≡ a → ((k : ℕ) × Refuses file Small k) ⊎ Accepts file Room
    go (accepted j) e = held j e (decide j)
    go (refused k) e = inl (k, inl e)

-- its numbers are the reader's, and 9
pub refusal_number : (file : List ℕ) (Small : Job → Type 0) (k : ℕ) → Refuses file Small k → CallNumber k
refusal_number file Small k (inl e) = inl (read_numbers file k e)
refusal_number file Small k (inr h) = inr h.0

-- ---- a call on three slices, which asks for so many places of scratch

module _ (places : ℕ) (file starts processors scratch : List ℕ) where
  abbrev pub RefusedFor : ℕ → Type 0
  RefusedFor = Refuses file (λ j. ShortFor places (tasks (instance j)) starts processors scratch)

  abbrev pub TakenFor : Type 0
  TakenFor = Accepts file (λ j. RoomFor places (tasks (instance j)) starts processors scratch)

  -- one of the two holds
  pub slices_for : ((k : ℕ) × RefusedFor k) ⊎ TakenFor
  slices_for = refuses_or_accepts file _ _ (λ j. short_or_room places (tasks (instance j)) starts processors scratch)

  -- that refuses by `refuse`, and accepts by `accept`, with the answer `answer`
  module _ {A : Type 0} (refuse : ℕ → A) (answer : Job → A) (accept : Job → List ℕ → List ℕ → List ℕ → Call A)
      (with_answer : (j : Job) → (accept j starts processors scratch).answer ≡ answer j) where
    abbrev call_by : Call A
    call_by = call_for places refuse accept (read_job file) starts processors scratch

    -- with a cause for k it is a refusal by k that leaves the slices as they were
    pub refused_by : (k : ℕ) → RefusedFor k → call_by ≡ called (refuse k) starts processors scratch
    unfolding call_for
    refused_by k (inl e) = rw e
    refused_by k (inr (z, j, e, s)) = rw (e, call_for, short_true places (tasks (instance j)) starts processors scratch s, z)

    pub number_by : (k : ℕ) → RefusedFor k → call_by.answer ≡ refuse k
    number_by k r = ap (λ (c : Call A). c.answer) (refused_by k r)

    -- without one it accepts
    pub taken_by : (a : TakenFor) → call_by ≡ accept a.0 starts processors scratch
    unfolding call_for
    taken_by (j, e, f) = rw (e, call_for, room_false places (tasks (instance j)) starts processors scratch f)

    pub answer_by : (a : TakenFor) → call_by.answer ≡ answer a.0
    answer_by a = ap (λ (c : Call A). c.answer) (taken_by a) ∙ with_answer a.0

    -- so it answers by one or the other, and by a number only with the number's cause
    pub answered_by : TakenFor ⊎ ((k : ℕ) × (call_by.answer ≡ refuse k) × CallNumber k)
    answered_by = ⊎_elim (λ r. inr (r.0, number_by r.0 r.1, refusal_number file _ r.0 r.1)) inl slices_for

    module _ (one : (i k : ℕ) → refuse i ≡ refuse k → i ≡ k) (apart : (k : ℕ) (j : Job) → ¬ (refuse k ≡ answer j)) where
      pub cause_by : (k : ℕ) → call_by.answer ≡ refuse k → RefusedFor k
      cause_by k h = go slices_for
        where
          go : ((i : ℕ) × RefusedFor i) ⊎ TakenFor → RefusedFor k
          go (inl (i, r)) = subst RefusedFor (one i k (sym (number_by i r) ∙ h)) r
          go (inr a) = absurd (apart k a.0 (sym h ∙ answer_by a))

    -- what an acceptance by a says: the file is accepted, the slices have room, and a is the answer about its job
    pub record AcceptedBy (a : A) : Type 0 where
      pub job : Job
      pub says : read_job file ≡ accepted job
      pub has_room : RoomFor places (tasks (instance job)) starts processors scratch
      pub answer_is : a ≡ answer job
      pub call_is : call_by ≡ accept job starts processors scratch

    pub accepted_by : (a : A) → ((k : ℕ) → ¬ (a ≡ refuse k)) → call_by.answer ≡ a → AcceptedBy a
    accepted_by a no-refusal h = go slices_for
      where
        go : ((k : ℕ) × RefusedFor k) ⊎ TakenFor → AcceptedBy a
        go (inl (k, r)) = absurd (no-refusal k (sym h ∙ number_by k r))
        go (inr (j, e, f)) = record {
          job = j;
          says = e;
          has_room = f;
          answer_is = sym h ∙ answer_by (j, e, f);
          call_is = taken_by (j, e, f);
        }

-- ---- a call that asks for the planner's places and lays the plan out, by the tie rule of `by`

module _ (file starts processors scratch : List ℕ) where
  abbrev pub SlicesRefused : ℕ → Type 0
  SlicesRefused = RefusedFor arrival_places file starts processors scratch

  abbrev pub SlicesTaken : Type 0
  SlicesTaken = TakenFor arrival_places file starts processors scratch

  pub slices : ((k : ℕ) × SlicesRefused k) ⊎ SlicesTaken
  slices = slices_for arrival_places file starts processors scratch

  module _ {A : Type 0} (by : Job → Instance) (refuse : ℕ → A) (answer : Job → A) where
    abbrev pub call_of : Call A
    call_of = call_for arrival_places refuse (plan_by by answer) (read_job file) starts processors scratch

    pub laid_answer : (j : Job) → (plan_by by answer j starts processors scratch).answer ≡ answer j
    unfolding laid_out_call
    laid_answer j = refl

    pub call_refused : (k : ℕ) → SlicesRefused k → call_of ≡ called (refuse k) starts processors scratch
    call_refused = refused_by arrival_places file starts processors scratch refuse answer (plan_by by answer) laid_answer

    pub call_number : (k : ℕ) → SlicesRefused k → call_of.answer ≡ refuse k
    call_number = number_by arrival_places file starts processors scratch refuse answer (plan_by by answer) laid_answer

    pub call_taken : (a : SlicesTaken) → call_of ≡ plan_by by answer a.0 starts processors scratch
    call_taken = taken_by arrival_places file starts processors scratch refuse answer (plan_by by answer) laid_answer

    pub call_answer : (a : SlicesTaken) → call_of.answer ≡ answer a.0
    call_answer = answer_by arrival_places file starts processors scratch refuse answer (plan_by by answer) laid_answer

    pub call_answered : SlicesTaken ⊎ ((k : ℕ) × (call_of.answer ≡ refuse k) × CallNumber k)
    call_answered = answered_by arrival_places file starts processors scratch refuse answer (plan_by by answer) laid_answer

    pub call_cause : (one : (i k : ℕ) → refuse i ≡ refuse k → i ≡ k) (apart : (k : ℕ) (j : Job) → ¬ (refuse k ≡ answer j))
        → (k : ℕ) → call_of.answer ≡ refuse k → SlicesRefused k
    call_cause = cause_by arrival_places file starts processors scratch refuse answer (plan_by by answer) laid_answer

    abbrev pub Accepted : A → Type 0
    Accepted = AcceptedBy arrival_places file starts processors scratch refuse answer (plan_by by answer) laid_answer

    pub accepted_as : (a : A) → ((k : ℕ) → ¬ (a ≡ refuse k)) → call_of.answer ≡ a → Accepted a
    accepted_as = accepted_by arrival_places file starts processors scratch refuse answer (plan_by by answer) laid_answer

-- two answers to one file are about one job
pub one_job : {a : Answer} {i j : Job} → a ≡ accepted i → a ≡ accepted j → i ≡ j
one_job d e = let z = sym d ∙ e in cc
