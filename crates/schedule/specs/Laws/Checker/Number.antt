-- The checker's number for a plan, by what its loops find in the arrays: a first task in trouble, else an overlap, else a start too early.
use Rattle.std.specs.Prelude.{◌≡◌, Bool, true, false, List, ℕ, ◌≤◌, ◌<◌, eqb, length}
use Rattle.std.proofs.Common.{sym, ◌∙◌, arith, ne_eqb}
use Rattle.std.proofs.Math.Path.{refl, ap}
use Rattle.std.proofs.Math.Option.{Option, none, some}
use Rattle.std.proofs.Math.ListN.{get_or}
use Rattle.base.specs.Choice.{pick}
use Rattle.job.specs.declared.table.Refusal.{Refusal}
use Rattle.job.specs.declared.table.Refusal.TheVariants.{Overlap, EarlyStart}
use Rattle.job.specs.Table.{number_of as table_number}
use Rattle.etf.specs.Instance.{Instance}
use Rattle.etf.specs.Schedule.{Placement}
use Rattle.etf.specs.Checker.{Because, no_processor, too_late, overlaps, too_early}
use Rattle.etf.proofs.Laws.Checker.{overlapping, hasty}
use Rattle.etf.proofs.Verdict.{number_only}
use Rattle.schedule.specs.Answers.Checked.{Yes, Refused as NotChecked}
use Rattle.schedule.specs.Answers.Number.{some_number}
use Rattle.schedule.specs.Check.{check_of, checked_as, number_of}
use Rattle.schedule.specs.InArrays.{InArrays, Plannable, instance_in}
use Rattle.schedule.specs.InPlace.{EachInPlace}
use Rattle.schedule.specs.Pass.{some_in_places, place_troubles, overlaps_later, early_at}
use Rattle.schedule.specs.Laws.Held.{held_tasks}
use Rattle.schedule.specs.Laws.Checker.Answer.{plan_of, InPlace, each_in_place, number_is, overlaps_are, hasty_is}

-- a number that the checker says is one of a refusal, and none is a yes
refused_as : (o : Option ℕ) (e : Refusal) → table_number e ≡ number_of o → NotChecked (table_number e) ≡ checked_as o
unfolding number_of checked_as
refused_as none e h = absurd (omega (arith, some_number e, h))
refused_as (some k) e h = ap NotChecked h

accepted_as : (o : Option ℕ) → ((k : ℕ) → o ≡ some k → 1 ≤ k) → 0 ≡ number_of o → Yes ≡ checked_as o
unfolding number_of checked_as
accepted_as none far h = refl
accepted_as (some k) far h = absurd (omega (arith, far k refl, h))

because_some : {J : Instance} {ps : List Placement} {k : ℕ} → Because J ps k → 1 ≤ k
because_some (no_processor u h a) = omega arith
because_some (too_late u h a) = omega arith
because_some (overlaps u v h i ne e a b) = omega arith
because_some (too_early e h u v i k' a b d) = omega arith

-- for a plan in two arrays, and the first trouble r of a task
module _ {A : InArrays} (F : Plannable A) (starts processors : List ℕ) {r : ℕ}
    (r-is : r ≡ place_troubles A.processors starts processors 0 A.tasks) where
  abbrev I : Instance
  I = instance_in A

  abbrev plan : List Placement
  plan = plan_of A.tasks starts processors

  -- the checker's answer, and its number
  abbrev verdict : Option ℕ
  verdict = check_of I (λ T. get_or processors T 0) (λ T. get_or starts T 0)

  abbrev answer : ℕ
  answer = number_of verdict

  answer_is : answer ≡ pick (eqb r 0) (pick (overlapping I plan) 12 (pick (hasty I plan) 13 0)) r
  unfolding instance_in
  answer_is =
      number_is I A.tasks (held_tasks F) starts processors
      ∙ ap (λ (t : ℕ). pick (eqb t 0) (pick (overlapping I plan) 12 (pick (hasty I plan) 13 0)) t) (sym r-is)

  -- a task in trouble
  pub says_place : (e : Refusal) → r ≡ table_number e → NotChecked (table_number e) ≡ checked_as verdict
  says_place e is =
      let h : ¬ (r ≡ 0) = λ z. omega (arith, z, is, some_number e) in
      refused_as verdict e (sym is ∙ sym (answer_is ∙ rw (ne_eqb r 0 h)))

  -- each task in place
  module _ (z : r ≡ 0) where
    in_place : (T : ℕ) → T < A.tasks → InPlace A.processors starts processors T
    in_place T h = each_in_place A.processors starts processors 0 A.tasks (sym r-is ∙ z) T (omega arith) (omega arith)

    module _ (room : (A.tasks ≤ length starts) × (A.tasks ≤ length processors)) where
      -- then the schedule has a place for each
      pub places : EachInPlace A.tasks A.processors A.durations starts processors
      places = record {
        has_starts = room.0;
        has_processors = room.1;
        on_processor = λ T h. (in_place T h).0;
        in_time = λ T h. omega (arith, (in_place T h).1, F.short T h);
      }

    abbrev some_overlap : Bool
    some_overlap = some_in_places (overlaps_later A.durations starts processors A.tasks) 0 A.tasks

    abbrev some_early : Bool
    some_early = some_in_places (early_at A.durations starts processors A.from A.to A.counts A.costs) 0 A.edges

    answer_later : answer ≡ pick some_overlap 12 (pick some_early 13 0)
    answer_later = answer_is ∙ rw (z, overlaps_are F starts processors, hasty_is F starts processors)

    -- whether two tasks overlap, and then whether a start is too early
    module _ {o : Bool} (o_is : o ≡ some_overlap) where
      pub says_overlap : o ≡ true → NotChecked 12 ≡ checked_as verdict
      says_overlap h = refused_as verdict Overlap (sym (answer_later ∙ rw (← o_is, h)))

      module _ (h : o ≡ false) {e : Bool} (e-is : e ≡ some_early) where
        pub says_early : e ≡ true → NotChecked 13 ≡ checked_as verdict
        says_early k = refused_as verdict EarlyStart (sym (answer_later ∙ rw (← o_is, h, ← e-is, k)))

        pub says_yes : e ≡ false → Yes ≡ checked_as verdict
        unfolding check_of
        says_yes k =
            accepted_as verdict (λ n v. because_some (number_only I _ n v)) (sym (answer_later ∙ rw (← o_is, h, ← e-is, k)))
