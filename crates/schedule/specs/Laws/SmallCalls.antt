-- Each return of the small planner's entry is its row of the call's definition: the larger entry's rows but for the scratch.
use Rattle.std.specs.Prelude.{Bool, ◌||◌, ◌≡◌, List, ℕ, ◌≤◌, min, get_or}
use Rattle.std.proofs.Math.Bool.{true, false}
use Rattle.std.proofs.Math.Path.{refl, ap, subst}
use Rattle.std.proofs.Common.{sym, ◌∙◌, arith, ltb-false}
use Rattle.std.proofs.Math.Dec.{ltb}
use Rattle.std.proofs.Math.ListN.{length}
use Rattle.base.specs.Choice.{pick}
use Rattle.base.specs.Slices.{filled}
use Rattle.base.specs.Laws.Filled.{filled-length, filled_at, filled_past, filled_within, is_filled}
use Rattle.job.specs.declared.Reading.{Reading}
use Rattle.etf.specs.Instance.{Instance, tasks}
use Rattle.etf.specs.OfJob.{instance}
use Rattle.schedule.specs.Answers.Planned.{Planned, Plan, Refused}
use Rattle.schedule.specs.Answers.Laid.{Laid, Last, Short}
use Rattle.schedule.specs.InArrays.{InArrays, instance_in, Plannable}
use Rattle.schedule.specs.Call.{Call, called, is_too_short, call_for}
use Rattle.schedule.specs.Plan.{last_of, outcome}
use Rattle.schedule.specs.Small.{small_places, laid_small, small_call}
use Rattle.schedule.specs.Pass.{short_of}
use Rattle.schedule.specs.SmallPass.{SmallRoom, SmallRun, lay_small}
use Rattle.schedule.specs.CoverPass.{HoldsPlan}
use Rattle.schedule.specs.Laws.Held.{held_tasks}
use Rattle.schedule.specs.Laws.Reading.{Read}
use Rattle.schedule.specs.Laws.Calls.{clash, same_end, long_enough, short_is}
use Rattle.schedule.specs.Laws.Walk.CoverFound.{holds_plan}

-- a cleared scratch has room
pub small_room : {m : ℕ} {starts processors : List ℕ} (scratch : List ℕ) {cleared : List ℕ}
    → (m ≤ length starts) × (m ≤ length processors) × (512 ≤ length scratch)
    → cleared ≡ filled (λ x. 0) 512 scratch → SmallRoom m starts processors cleared
small_room scratch fits e = let a = fits.0 in let b = fits.1 in let c = fits.2 in record {
  for_starts = a;
  for_processors = b;
  for_scratch = omega (arith, ap length e, filled-length (λ x. 0) 512 scratch c);
  zeros = λ x h. ap (λ (q : List ℕ). get_or q x 0) e ∙ filled_at (λ x. 0) 512 scratch x h;
}

-- a scratch that was cleared, used and cleared again
cleared_again : (scratch cleared used after : List ℕ) → 512 ≤ length scratch → cleared ≡ filled (λ x. 0) 512 scratch
    → length used ≡ length cleared → ((x : ℕ) → 512 ≤ x → get_or used x 0 ≡ get_or cleared x 0) → after ≡ filled (λ x. 0) 512 used
    → after ≡ filled (λ x. 0) 512 scratch
cleared_again scratch cleared used after room e size rest f =
    let long : length cleared ≡ length scratch = ap length e ∙ filled-length (λ x. 0) 512 scratch room in
    let wide : 512 ≤ length used = omega (arith, size, long) in
    is_filled (λ x. 0) 512 scratch after room
    (ap length f ∙ (filled-length (λ x. 0) 512 used wide ∙ (size ∙ long)))
    (λ x h. ap (λ (s : List ℕ). get_or s x 0) f ∙ filled_at (λ x. 0) 512 used x h)
    (λ x h. ap (λ (s : List ℕ). get_or s x 0) f
    ∙ (filled_past (λ x. 0) 512 used x h wide
    ∙ (rest x h ∙ (ap (λ (s : List ℕ). get_or s x 0) e ∙ filled_past (λ x. 0) 512 scratch x h room))))

module _ {A : InArrays} (F : Plannable A) (starts processors scratch : List ℕ) where
  abbrev I : Instance
  I = instance_in A

  -- room was asked for by the entry's own number of places
  pub small_short : (n : ℕ) {t : Bool} → t ≡ short_of n A.tasks (length starts) (length processors) (length scratch) → t ≡ true
      → n ≡ small_places → called Short starts processors scratch ≡ lay_small I starts processors scratch
  unfolding lay_small
  small_short n e w d = rw (short_is F starts processors scratch small_places (rw d at e) w)

  -- and as many are cleared at the end
  pub small_end : (n : ℕ) {t : Bool} {r : ℕ} {starts' processors' cleared used after : List ℕ}
      → t ≡ short_of n A.tasks (length starts) (length processors) (length scratch) → t ≡ false → n ≡ small_places
      → cleared ≡ filled (λ x. 0) 512 scratch → length used ≡ length cleared
      → SmallRun I starts processors cleared r starts' processors' used → (c : ℕ) → after ≡ filled (λ x. 0) (min c (length used)) used
      → c ≡ small_places → called (Last r) starts' processors' after ≡ lay_small I starts processors scratch
  unfolding lay_small laid_small
  small_end n {cleared = cleared} {used} {after} e w d f size R c g z =
      let room : 512 ≤ length scratch = omega (arith, (long_enough e w).2) in
      let wide : 512 ≤ length used = omega (arith, size, ap length f, filled-length (λ x. 0) 512 scratch room) in
      let again = cleared_again scratch cleared used after room f size R.rest (filled_within (λ x. 0) 512 used wide (rw z at g)) in
      rw (short_is F starts processors scratch small_places (rw d at e) w, R.last_is, R.starts_are, R.processors_are, again)

  -- where it is laid out, the slices hold it, and the answer is its last finish
  pub small_holds : {laid : Laid} {e : ℕ} {starts' processors' scratch' : List ℕ} → laid ≡ Last e
      → called laid starts' processors' scratch' ≡ lay_small I starts processors scratch
      → HoldsPlan I A.tasks starts' processors' × (e ≡ last_of I)
  unfolding lay_small laid_small is_too_short
  small_holds {e = e} {starts'} {processors'} {scratch'} is w =
      go (ltb (length starts) (tasks I)) refl (ltb (length processors) (tasks I)) refl (ltb (length scratch) small_places) (rw is at w)
    where
      go : (x : Bool) → ltb (length starts) (tasks I) ≡ x → (y : Bool) → ltb (length processors) (tasks I) ≡ y → (z : Bool)
          → called (Last e) starts' processors' scratch'
          ≡ pick (x || (y || z)) (called Short starts processors scratch) (laid_small (Last (last_of I)) I starts processors scratch)
          → HoldsPlan I A.tasks starts' processors' × (e ≡ last_of I)
      go true p y q z h = clash (sym (ap (λ (c : Call Laid). c.answer) h))
      go false p true q z h = clash (sym (ap (λ (c : Call Laid). c.answer) h))
      go false p false q true h = clash (sym (ap (λ (c : Call Laid). c.answer) h))
      go false p false q false h = (
        subst (λ (m : ℕ). HoldsPlan I m starts' processors') (held_tasks F)
            (holds_plan starts processors (ltb-false _ _ p) (ltb-false _ _ q)
            (ap (λ (c : Call Laid). c.starts) h) (ap (λ (c : Call Laid). c.processors) h)),
        same_end (ap (λ (c : Call Laid). c.answer) h),
      )

-- an accepted file, whose instance was held in arrays
module _ {file : List ℕ} {x : Reading} {m l : ℕ} (K : Read file x m l) {H : Instance} (same : H ≡ instance K.job)
    (starts processors scratch : List ℕ) where
  abbrev J : Instance
  J = instance K.job

  pub call_small_short : {starts' processors' scratch' : List ℕ} {laid : Laid} → laid ≡ Short
      → called laid starts' processors' scratch' ≡ lay_small H starts processors scratch
      → called (Refused 9) starts' processors' scratch' ≡ small_call file starts processors scratch
  unfolding small_call call_for lay_small laid_small
  call_small_short {starts'} {processors'} {scratch'} is e =
      rw K.says (go (is_too_short small_places (tasks J) starts processors scratch) (rw (is, same) at e))
    where
      go : (b : Bool)
          → called Short starts' processors' scratch'
          ≡ pick b (called Short starts processors scratch) (laid_small (Last (last_of J)) J starts processors scratch)
          → called (Refused 9) starts' processors' scratch'
          ≡ pick b (called (Refused 9) starts processors scratch) (laid_small (Plan (outcome K.job)) J starts processors scratch)
      go true h = ap (λ (c : Call Laid). called (Refused 9) c.starts c.processors c.scratch) h
      go false h = clash (ap (λ (c : Call Laid). c.answer) h)

  pub call_small_end : {starts' processors' scratch' : List ℕ} {laid : Laid} {e : ℕ} {r : Planned} → laid ≡ Last e
      → called laid starts' processors' scratch' ≡ lay_small H starts processors scratch → r ≡ Plan (outcome K.job)
      → called r starts' processors' scratch' ≡ small_call file starts processors scratch
  unfolding small_call call_for lay_small laid_small
  call_small_end {starts'} {processors'} {scratch'} {laid} {e} {r} is w right =
      rw (K.says, right) (go (is_too_short small_places (tasks J) starts processors scratch) (rw (is, same) at w))
    where
      go : (b : Bool)
          → called (Last e) starts' processors' scratch'
          ≡ pick b (called Short starts processors scratch) (laid_small (Last (last_of J)) J starts processors scratch)
          → called (Plan (outcome K.job)) starts' processors' scratch'
          ≡ pick b (called (Refused 9) starts processors scratch) (laid_small (Plan (outcome K.job)) J starts processors scratch)
      go true h = clash (sym (ap (λ (c : Call Laid). c.answer) h))
      go false h = ap (λ (c : Call Laid). called (Plan (outcome K.job)) c.starts c.processors c.scratch) h
