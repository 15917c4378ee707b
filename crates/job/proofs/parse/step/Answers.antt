-- `parse::step`: each return is the judgement of a step at this place, after any job that a step may follow.
use mathlib.Core.Bool.{Bool, true, false, not}
use mathlib.Core.Path.{◌≡◌, refl, ◌∙◌}
use mathlib.Core.List.{List, [], ◌∷◌}
use mathlib.Core.Option.{some}
use Prim.Native.Nat.{ℕ, suc, ◌+◌, ◌-◌, ◌≤◌, ◌<◌}
use native.Mathlib.Numerals.{add-one}
use native.Mathlib.Omega.{arith}
use borrow.Author.Rules.{rules}
use lib.ListN.{length, get_or, take, drop}
use Rattle.base.specs.Choice.{pick}
use Rattle.base.specs.Number.{number}
use Rattle.std.proofs.lemmas.Result.{err_from_is_err_and}
use Rattle.job.specs.Job.{Job, with_tasks}
use Rattle.job.specs.Record.{step, kind_of, body_length, in_range, misfit, added, duration_in, duration_in_range, too_early_number}
use Rattle.job.specs.Read.{Answer, refused, refused_or, records}
use Rattle.job.specs.Table.{is_trouble}
use Rattle.job.specs.Pass.{step_trouble, StepDue}
use Rattle.job.specs.Laws.Judged.{stops, crowded_at, short_at, whole_at}
use Rattle.job.specs.Laws.Due.{steps_full, steps_room}
use Rattle.job.proofs.parse.step.Goals as goal

-- its range is judged before whether it comes too early
in_turn : (b : Bool) (n : ℕ) (a : Answer) → refused_or (pick (not b) 4 n) a ≡ refused_or (pick (not b) 4 0) (refused_or n a)
in_turn true n a = refl
in_turn false n a = refl

module _ (file : List ℕ) (at m : ℕ) (h : at < length file) (is : kind_of (get_or file at 0) ≡ some step) (j : Job) (s : StepDue j m) where
  crowd : m ≡ 256 → records (drop at file) 0 j ≡ refused 5
  crowd e = crowded_at file at j step h is s.placed (steps_full s (omega arith))

  module _ (room : m < 256) where
    cut : length file - at < 5 → records (drop at file) 0 j ≡ refused 1
    unfolding body_length
    cut l = short_at file at j step h is s.placed (steps_room s room) (omega arith)

    judged : 5 ≤ length file - at → (t d : ℕ) → d ≡ number (take 4 (drop (at + 1) file)) → t ≡ step_trouble d →
        records (drop at file) 0 j ≡ refused_or t
        (refused_or (too_early_number j) (records (drop (at + 5) file) 0 (with_tasks j (d ∷ []))))
    unfolding body_length in_range misfit added duration_in step_trouble
    judged l t d e i =
        rw (i, e, add-one at) (whole_at file at j step h is s.placed (steps_room s room) (omega arith) (omega arith)
        ∙ in_turn (duration_in_range (duration_in (drop (suc at) file))) (too_early_number j) _)

pub returns-then-tasks-eq256 : goal.returns-then-tasks-eq256
returns-then-tasks-eq256 c = λ j s.
    crowd _ _ _ c.requires.0 c.requires.1 j s c.if-tasks-eq256.true

pub returns-then-file-at-lt-STEP_LENGTH : goal.returns-then-file-at-lt-STEP_LENGTH
returns-then-file-at-lt-STEP_LENGTH c = λ j s.
    cut _ _ _ c.requires.0 c.requires.1 j s (search rules) c.if-file-at-lt-STEP_LENGTH.true

pub returns-in_err-judge_step : goal.returns-in_err-judge_step
returns-in_err-judge_step c =
    let p = err_from_is_err_and c.from_residual.result c.from_residual.ensures.1 in
    rw (p.1, p.2) (λ j s.
    judged _ _ _ c.requires.0 c.requires.1 j s (search rules) c.if-file-at-lt-STEP_LENGTH.false _ _
    c.number4-duration.ensures c.in_err-judge_step.ensures ∙ stops _ _ (is_trouble _))

pub returns : goal.returns
returns c =
    let room : c.args.tasks < 256 = search rules in
    record {
      answer = λ j s.
          judged _ _ _ c.requires.0 c.requires.1 j s room c.if-file-at-lt-STEP_LENGTH.false _ _
          c.number4-duration.ensures c.in_ok-judge_step.ensures;
      inside = omega arith;
      few = room;
    }
