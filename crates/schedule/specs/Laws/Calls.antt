-- Each return of an entry is its row of the call's definition: one law for every call on a file and three slices, and the checker's.
use Rattle.std.specs.Prelude.{Bool, ◌||◌, ◌⊎◌, ◌≡◌, List, ℕ, ◌≤◌, ◌<◌, length}
use Rattle.std.proofs.Math.Bool.{true, false}
use Rattle.std.proofs.Math.Path.{refl, ap, subst}
use Rattle.std.proofs.Common.{inl, inr, sym, ◌∙◌, arith}
use borrow.Author.Tests.{lt-ltb, le-ltb, ltb-false}
use Rattle.std.proofs.Math.Dec.{ltb}
use Rattle.std.proofs.Math.ListN.{get_or}
use Rattle.job.specs.declared.table.Refusal.{Refusal}
use Rattle.job.specs.declared.Verdict.TheVariants.{Refused}
use Rattle.base.specs.Choice.{pick}
use Rattle.base.specs.Slices.{filled}
use Rattle.base.specs.Laws.Tests.{impossible}
use Rattle.base.specs.Laws.Filled.{filled-length, filled_at, filled-filled}
use Rattle.job.specs.declared.Reading.{Reading}
use Rattle.job.specs.Job.{Job}
use Rattle.job.specs.Read.{refused, read_job, verdict_number, reading_of}
use Rattle.job.specs.Table.{number_of as table_number, refusal}
use Rattle.etf.specs.Instance.{Instance, tasks}
use Rattle.etf.specs.Schedule.{end}
use Rattle.etf.specs.Cover.{cover}
use Rattle.etf.specs.Dearest.{dearest}
use Rattle.etf.specs.Least.{least}
use Rattle.etf.specs.Rule.{planned}
use Rattle.etf.specs.OfJob.{instance, TieRule, result_of}
use Rattle.etf.proofs.Jobs.{same_tasks}
use Rattle.schedule.specs.Answers.Checked.{Checked, Refused as NotChecked, Judgement}
use Rattle.schedule.specs.Answers.Planned.{Plan}
use Rattle.schedule.specs.declared.Figures.{Figures}
use Rattle.schedule.specs.Answers.Covered.{Cover}
use Rattle.schedule.specs.Answers.Laid.{Laid, Last, Short}
use Rattle.schedule.specs.InArrays.{InArrays, instance_in, Plannable}
use Rattle.schedule.specs.Call.{Call, called, start_of, processor_of, scratch_at, arrival_places, laid_out_call, plan_by, is_too_short}
use Rattle.schedule.specs.Call.{call_for}
use Rattle.schedule.specs.Plan.{last_of, end_by, outcome_by}
use Rattle.schedule.specs.Cover.{figures}
use Rattle.schedule.specs.Check.{check_of, checked_as, check_for, check_call, judge_call}
use Rattle.schedule.specs.Pass.{said, Room, short_of, run_call, lay_call}
use Rattle.job.specs.Accepted.{refused_by}
use Rattle.schedule.specs.CoverPass.{HoldsPlan}
use Rattle.schedule.specs.Laws.Held.{held_tasks}
use Rattle.schedule.specs.Laws.Reading.{Read}
use Rattle.schedule.specs.Laws.Walk.CoverFound.{holds_plan}

-- ---- a plan laid out

-- it ended, or a slice was too short
pub clash : {X : Type 0} {e : ℕ} → Short ≡ Last e → X
clash h = let z : false ≡ true = cc in impossible z

pub same_end : {d e : ℕ} → Last d ≡ Last e → d ≡ e
same_end h = cc

-- none of the three slices is too short
pub long_enough : {n m a b c : ℕ} {t : Bool} → t ≡ short_of n m a b c → t ≡ false → (m ≤ a) × (m ≤ b) × (n ≤ c)
unfolding short_of
long_enough {n} {m} {a} {b} {c} e w = go (ltb a m) refl (ltb b m) refl (ltb c n) refl (sym e ∙ w)
  where
    go : (x : Bool) → ltb a m ≡ x → (y : Bool) → ltb b m ≡ y → (z : Bool) → ltb c n ≡ z → x || (y || z) ≡ false
        → (m ≤ a) × (m ≤ b) × (n ≤ c)
    go false p false q false r h = (ltb-false a m p, ltb-false b m q, ltb-false c n r)
    go true p y q z r h = impossible (sym h)
    go false p true q z r h = impossible (sym h)
    go false p false q true r h = impossible (sym h)

pub cleared_room : {m : ℕ} {starts processors : List ℕ} (scratch : List ℕ) {cleared : List ℕ}
    → (m ≤ length starts) × (m ≤ length processors) × (4096 ≤ length scratch)
    → cleared ≡ filled (λ x. 0) 4096 scratch → Room m starts processors cleared
cleared_room scratch fits e = let a = fits.0 in let b = fits.1 in let c = fits.2 in record {
  for_starts = a;
  for_processors = b;
  for_arrivals = omega (arith, ap length e, filled-length (λ x. 0) 4096 scratch c);
  zeros = λ x h. ap (λ (q : List ℕ). get_or q x 0) e ∙ filled_at (λ x. 0) 4096 scratch x h;
}

module _ {A : InArrays} (F : Plannable A) where
  abbrev I : Instance
  I = instance_in A

  module _ (starts processors scratch : List ℕ) where
    -- the test of the lengths, as the definition has it
    pub short_is : (places : ℕ) {t b : Bool} → t ≡ short_of places A.tasks (length starts) (length processors) (length scratch) → t ≡ b
        → is_too_short places (tasks I) starts processors scratch ≡ b
    unfolding short_of is_too_short
    short_is places e w = rw (held_tasks F) (sym e ∙ w)

    pub laid_short : {t : Bool} → t ≡ short_of arrival_places A.tasks (length starts) (length processors) (length scratch) → t ≡ true
        → called Short starts processors scratch ≡ lay_call I starts processors scratch
    unfolding lay_call
    laid_short e w = rw (short_is arrival_places e w)

    -- a plan laid out over a cleared scratch, of the instance under another name
    pub laid_end : {H : Instance} {t : Bool} {r : ℕ} {starts' processors' cleared scratch' : List ℕ} → H ≡ I
        → t ≡ short_of arrival_places A.tasks (length starts) (length processors) (length scratch) → t ≡ false
        → cleared ≡ filled (λ x. 0) 4096 scratch → called r starts' processors' scratch' ≡ run_call H starts processors cleared
        → called (Last r) starts' processors' scratch' ≡ lay_call I starts processors scratch
    unfolding lay_call laid_out_call
    laid_end same e w f R =
        rw (short_is arrival_places e w)
        (ap (λ (c : Call ℕ). called (Last c.answer) c.starts c.processors c.scratch) (rw same at R)
        ∙ rw (f, filled-filled (scratch_at I) (λ x. 0) 4096 scratch (long_enough e w).2))

    -- where it is laid out, the slices hold it
    pub laid_holds : {laid : Laid} {e : ℕ} {starts' processors' scratch' : List ℕ} → laid ≡ Last e
        → called laid starts' processors' scratch' ≡ lay_call I starts processors scratch → HoldsPlan I A.tasks starts' processors'
    unfolding lay_call laid_out_call is_too_short
    laid_holds {e = e} {starts'} {processors'} {scratch'} is w =
        go (ltb (length starts) (tasks I)) refl (ltb (length processors) (tasks I)) refl (ltb (length scratch) arrival_places) (rw is at w)
      where
        go : (x : Bool) → ltb (length starts) (tasks I) ≡ x → (y : Bool) → ltb (length processors) (tasks I) ≡ y → (z : Bool)
            → called (Last e) starts' processors' scratch'
            ≡ pick (x || (y || z)) (called Short starts processors scratch) (laid_out_call (Last (last_of I)) I starts processors scratch)
            → HoldsPlan I A.tasks starts' processors'
        go true p y q z h = clash (sym (ap (λ (c : Call Laid). c.answer) h))
        go false p true q z h = clash (sym (ap (λ (c : Call Laid). c.answer) h))
        go false p false q true h = clash (sym (ap (λ (c : Call Laid). c.answer) h))
        go false p false q false h =
            subst (λ (m : ℕ). HoldsPlan I m starts' processors') (held_tasks F)
            (holds_plan starts processors (ltb-false _ _ p) (ltb-false _ _ q)
            (ap (λ (c : Call Laid). c.starts) h) (ap (λ (c : Call Laid). c.processors) h))

    -- and the answer is its last finish
    pub laid_last : {laid : Laid} {e : ℕ} {starts' processors' scratch' : List ℕ} → laid ≡ Last e
        → called laid starts' processors' scratch' ≡ lay_call I starts processors scratch → e ≡ last_of I
    unfolding lay_call laid_out_call
    laid_last {e = e} {starts'} {processors'} {scratch'} is w =
        go (is_too_short arrival_places (tasks I) starts processors scratch) (rw is at w)
      where
        go : (b : Bool)
            → called (Last e) starts' processors' scratch'
            ≡ pick b (called Short starts processors scratch) (laid_out_call (Last (last_of I)) I starts processors scratch)
            → e ≡ last_of I
        go true h = clash (sym (ap (λ (c : Call Laid). c.answer) h))
        go false h = same_end (ap (λ (c : Call Laid). c.answer) h)

-- the three numbers that measure a plan
pub measured : (I : Instance) {C L D : ℕ} → C ≡ cover I → L ≡ least I → D ≡ dearest I
    → record { cover = C; least = L; dearest = D } ≡ figures I
unfolding figures
measured I c l d = rw (c, l, d)

-- the cover call's answer, about the instance that was held in arrays
pub measured_right : {H I : Instance} {f : Figures} → H ≡ I → f ≡ figures H → Cover f ≡ Cover (figures I)
measured_right same e = rw (e, same)

-- ---- a refused file: the reader's number is passed on

module _ (file : List ℕ) {x : Reading} (e : x ≡ reading_of (read_job file)) {k : ℕ} (v : x.verdict ≡ Refused k)
    {r : Refusal} (q : r ≡ refusal (verdict_number x.verdict)) where
  file_refused : read_job file ≡ refused (table_number r)
  file_refused = refused_by file e v q

  pub passes_on : {R : Type 0} (places : ℕ) (refuse : ℕ → R) (accept : Job → List ℕ → List ℕ → List ℕ → Call R)
      (starts processors scratch : List ℕ)
      → called (refuse (table_number r)) starts processors scratch
      ≡ call_for places refuse accept (read_job file) starts processors scratch
  unfolding call_for
  passes_on places refuse accept starts processors scratch = rw file_refused

  pub check_passes_on : (starts processors : List ℕ) → NotChecked (table_number r) ≡ check_call file starts processors
  unfolding check_call check_for
  check_passes_on starts processors = rw file_refused

-- what was read, and the checker's answer
pub judged_as : (file starts processors : List ℕ) {x : Reading} {c : Checked} → x ≡ reading_of (read_job file)
    → c ≡ check_call file starts processors → ◌≡◌ {A = Judgement} (record { reading = x; checked = c }) (judge_call file starts processors)
unfolding judge_call
judged_as file starts processors e h = rw (e, h)

-- ---- what the checker says of the plan in two slices

module _ (H : Instance) (m : ℕ) (starts processors : List ℕ) where
  pub said_short : (length starts < m) ⊎ ((m ≤ length starts) × (length processors < m)) → NotChecked 9 ≡ said H m starts processors
  unfolding said
  said_short (inl h) = simp (lt-ltb _ _ h)
  said_short (inr h) = simp (le-ltb _ _ h.0, lt-ltb _ _ h.1)

  pub said_checked : {c : Checked} → m ≤ length starts → m ≤ length processors
      → c ≡ checked_as (check_of H (λ T. get_or processors T 0) (λ T. get_or starts T 0)) → c ≡ said H m starts processors
  unfolding said
  said_checked a b h = simp (le-ltb _ _ a, le-ltb _ _ b) h

-- ---- an accepted file

module _ {file : List ℕ} {x : Reading} {m l : ℕ} (K : Read file x m l) where
  tasks_is : tasks (instance K.job) ≡ m
  unfolding instance
  tasks_is = K.tasks_are

  -- the checker's answer, by what is said of the plan in the slices
  pub check_said : {H : Instance} {n : ℕ} → H ≡ instance K.job → n ≡ m → (starts processors : List ℕ) {c : Checked}
      → c ≡ said H n starts processors → c ≡ check_call file starts processors
  unfolding check_call check_for said
  check_said same few starts processors g =
      g ∙ rw (K.says, same, few, tasks_is)

  -- a planner's call, by any tie rule
  module _ {by : Job → Instance} (rule : TieRule by) where
    abbrev J : Instance
    J = by K.job

    many : tasks J ≡ tasks (instance K.job)
    unfolding instance
    many = same_tasks rule K.job K.sound

    -- the planner's answer, by the end that was found of the instance that was held in arrays
    pub planned_right : {H : Instance} {e : ℕ} → H ≡ J → e ≡ end H (result_of K.job) (planned H)
        → Plan (record { tasks = m; end = e }) ≡ Plan (outcome_by by K.job)
    unfolding outcome_by end_by
    planned_right same e-is = rw (e-is, same, tasks_is)

    -- the instance that was held in arrays
    module _ {H : Instance} (same : H ≡ J) where
      -- a call that lays the plan out, whatever it answers: 9 for a slice that is too short, or its answer about the job
      module _ {R : Type 0} (refuse : ℕ → R) (answer : Job → R)
          (starts processors scratch : List ℕ) {starts' processors' scratch' : List ℕ} where
        pub call_short : {laid : Laid} → laid ≡ Short → called laid starts' processors' scratch' ≡ lay_call H starts processors scratch
            → called (refuse 9) starts' processors' scratch'
            ≡ call_for arrival_places refuse (plan_by by answer) (read_job file) starts processors scratch
        unfolding call_for lay_call laid_out_call
        call_short is e = rw (K.says, ← many) (go (is_too_short arrival_places (tasks J) starts processors scratch) (rw (is, same) at e))
          where
            go : (b : Bool)
                → called Short starts' processors' scratch'
                ≡ pick b (called Short starts processors scratch) (laid_out_call (Last (last_of J)) J starts processors scratch)
                → called (refuse 9) starts' processors' scratch'
                ≡ pick b (called (refuse 9) starts processors scratch) (plan_by by answer K.job starts processors scratch)
            go true h = ap (λ (c : Call Laid). called (refuse 9) c.starts c.processors c.scratch) h
            go false h = clash (ap (λ (c : Call Laid). c.answer) h)

        pub call_end : {laid : Laid} {e : ℕ} {r : R} → laid ≡ Last e
            → called laid starts' processors' scratch' ≡ lay_call H starts processors scratch
            → (e ≡ last_of J → r ≡ answer K.job)
            → called r starts' processors' scratch' ≡ call_for arrival_places refuse (plan_by by answer)
            (read_job file) starts processors scratch
        unfolding call_for lay_call laid_out_call
        call_end {laid} {e} {r} is w right =
            rw (K.says, ← many) (go (is_too_short arrival_places (tasks J) starts processors scratch) (rw (is, same) at w))
          where
            go : (b : Bool)
                → called (Last e) starts' processors' scratch'
                ≡ pick b (called Short starts processors scratch) (laid_out_call (Last (last_of J)) J starts processors scratch)
                → called r starts' processors' scratch'
                ≡ pick b (called (refuse 9) starts processors scratch) (plan_by by answer K.job starts processors scratch)
            go true h = clash (sym (ap (λ (c : Call Laid). c.answer) h))
            go false h =
                ap (λ (c : Call Laid). called r c.starts c.processors c.scratch) h
                ∙ ap (λ (a : R). called a (filled (start_of J) (tasks J) starts) (filled (processor_of J) (tasks J) processors)
                (filled (scratch_at J) arrival_places scratch)) (right (same_end (ap (λ (c : Call Laid). c.answer) h)))
