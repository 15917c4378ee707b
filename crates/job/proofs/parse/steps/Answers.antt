-- `parse::steps`: the loop keeps that the answer to the file is the answer to its rest, with the steps taken so far.
use mathlib.Core.Logic.{⊎_elim}
use mathlib.Core.Path.{◌≡◌, refl, ap, sym, ◌∙◌}
use mathlib.Core.List.{List, [], ◌∷◌}
use mathlib.Core.Option.{some}
use Prim.Native.Nat.{ℕ, ◌+◌, ◌≤◌, ◌<◌}
use native.Mathlib.Omega.{arith}
use lib.ListN.{length, get_or, drop, set, replicate}
use Rattle.base.specs.Lists.{values}
use Rattle.base.specs.Laws.Tests.{when_true, when_false}
use Rattle.base.specs.Laws.Values.{length-values}
use Rattle.std.specs.Prelude.{Err}
use Rattle.std.proofs.lemmas.Result.{err_from_is_err_and}
use Rattle.job.specs.declared.table.Refusal.{Refusal}
use Rattle.job.specs.declared.table.Refusal.TheVariants.{MisplacedKind}
use Rattle.job.specs.Job.{Job, with_tasks}
use Rattle.job.specs.Record.{Kind, step, kind_of, too_early_number, pairs_due}
use Rattle.job.specs.Read.{refused, records}
use Rattle.job.specs.Pass.{Refuses, NoneThere, NoKind, StepDue, StepsDue, StepRead, StepPassed, StepsTaken}
use Rattle.job.specs.Laws.Judged.{passes}
use Rattle.job.specs.Laws.Kinds.{misplaced_kind}
use Rattle.job.specs.Laws.Due.{tasks_then, no_tasks, next_step}
use Rattle.job.specs.Laws.Spare.{front_none, front_set, row_set}
use Rattle.job.proofs.parse.steps.Invariants.{row, Going}
use Rattle.job.proofs.parse.steps.Goals as goal

begun : (file : List ℕ) (start : ℕ) (durations : List ℕ) → durations ≡ replicate 256 0 → start ≤ length file →
    Going file start durations 0 start
unfolding values
begun file start durations e h = record {
  few = omega arith;
  inside = h;
  front = front_none 256 durations e;
  first = λ z. refl;
  same = λ j s. ap (records (drop start file) 0) (sym (no_tasks j));
}

module _ (file : List ℕ) (start : ℕ) (durations : List ℕ) (m at : ℕ) (g : Going file start durations m at) where
  due : (j : Job) → StepsDue file start j → StepDue (with_tasks j (row durations m)) m
  due j s = next_step s.due (row durations m) m (omega (arith, length-values (λ t. get_or durations t 0) 0 m))

  -- steps change nothing of the wires
  wired : (j : Job) → StepsDue file start j → too_early_number (with_tasks j (row durations m)) ≡ 0
  unfolding too_early_number pairs_due
  wired j s = s.wired

  -- a step with trouble
  bad : (e : Refusal) → StepPassed file at m (Err e) → Refuses file start (StepsDue file start) e
  bad e x j s = g.same j s ∙ x (with_tasks j (row durations m)) (due j s)

  -- one step more
  on : (d : ℕ) → StepRead file at m d → Going file start (set durations m d) (m + 1) (at + 5)
  on d x = record {
    few = omega (arith, x.few);
    inside = x.inside;
    front = front_set g.front d x.few;
    first = λ e. let n : ⊥ = omega arith in absurd n;
    same = λ j s. g.same j s ∙ x.answer (with_tasks j (row durations m)) (due j s)
        ∙ passes _ _ (wired j s) ∙ ap (records (drop (at + 5) file) 0) (tasks_then j (row durations m) (d ∷ [])
        ∙ ap (with_tasks j) (sym (row_set durations m d (omega (arith, x.few, g.front.long)))));
  }

  -- no record is there
  ended : (e : Refusal) → NoKind file at e → Refuses file start (StepsDue file start) e
  ended e x j s = g.same j s ∙ x.answer (with_tasks j (row durations m))

  module _ (h : at < length file) (over : NoneThere file at step) where
    -- no step is there, and none was before
    none : m ≡ 0 → (k : Kind) → kind_of (get_or file at 0) ≡ some k → Refuses file start (StepsDue file start) MisplacedKind
    none e k is j s = rw (g.first e) at (missing (rw (← g.first e) at s))
      where
        missing : StepsDue file at j → records (drop at file) 0 j ≡ refused 3
        missing s = misplaced_kind file at j k h is (⊎_elim (λ w. absurd (over h (is ∙ ap some w))) (λ w. w) (s.alone h k is))

    done : 1 ≤ m → StepsTaken file start durations m at
    done e = record { answer = g.same; some_task = e; few_tasks = g.few; inside = h; over = over; front = g.front }

pub loop-start-init : goal.loop-start-init
loop-start-init c =
    begun _ _ _ c.requires.1 c.requires.0

pub step-requires : goal.step-requires
step-requires c =
    let t = c.stands.ensures.yes (when_true c.loop-start-test.true) in
    (t.0, t.1, c.loop-start.invariant.few)

pub returns-in_err-durations : goal.returns-in_err-durations
returns-in_err-durations c =
    let p = err_from_is_err_and c.from_residual.result c.from_residual.ensures.1 in
    rw (p.1, p.2) (bad _ _ _ _ _ c.loop-start.invariant _ c.in_err-durations.ensures)

pub loop-start-preserved : goal.loop-start-preserved
loop-start-preserved c =
    on _ _ _ _ _ c.loop-start.invariant _ c.in_ok-durations.ensures

pub returns-then-count-eq0 : goal.returns-then-count-eq0
returns-then-count-eq0 c =
    let k = c.in_ok-kind_at.ensures in
    none _ _ _ _ _ c.loop-start.invariant k.0 (c.stands.ensures.no (when_false c.loop-start-test.false)) c.if-count-eq0.true _ k.1
