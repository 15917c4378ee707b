-- `parse::results`: the loop keeps that the answer to the file is the answer to its rest, with the results that the array holds so far.
use mathlib.Core.Bool.{Bool}
use mathlib.Core.Path.{◌≡◌, refl, ap, ◌∙◌}
use mathlib.Core.List.{List, []}
use Prim.Native.Nat.{ℕ, ◌≤◌}
use native.Mathlib.Omega.{arith}
use lib.ListN.{length, get_or}
use Rattle.base.specs.Laws.Tests.{when_true, when_false}
use Rattle.std.proofs.lemmas.Result.{err_from_is_err_and}
use Rattle.job.specs.Job.{Job, job_with_results}
use Rattle.job.specs.Read.{result_array}
use Rattle.job.specs.Write.{results_held}
use Rattle.job.specs.Laws.Due.{nothing_delivered}
use Rattle.job.specs.Laws.Results.{no_results, array_none, array_size}
use Rattle.job.proofs.parse.results.Invariants.{Going, done, bad, on}
use Rattle.job.proofs.parse.results.Goals as goal

begun : (file : List ℕ) (start m : ℕ) (sent : List Bool) (counts : List ℕ) → counts ≡ result_array [] → start ≤ length file →
    Going file start m sent counts 0 start
begun file start m sent counts e h =
    let zero_at : (T : ℕ) → get_or counts T 0 ≡ 0 = λ T. rw e (array_none T) in
    let none : (j : Job) → job_with_results j (results_held counts m) ≡ j = λ j. rw (no_results counts m zero_at) (nothing_delivered j) in
    record {
      inside = h;
      long = ap length e ∙ array_size [];
      below = omega arith;
      spare = λ T i. zero_at T;
      first = λ z. refl;
      due = λ j s. rw (none j) s;
      same = λ j s. rw (none j);
    }

pub loop-least-init : goal.loop-least-init
loop-least-init c =
    let pre = c.requires in begun _ _ _ _ _ pre.2 pre.0

pub result-requires : goal.result-requires
result-requires c =
    c.stands.ensures.yes (when_true c.loop-least-test.true)

pub returns-in_err-result : goal.returns-in_err-result
returns-in_err-result c =
    let p = err_from_is_err_and c.from_residual.result c.from_residual.ensures.1 in
    rw (p.1, p.2) (bad c.loop-least.invariant _ c.in_err-result.ensures)

pub loop-least-preserved : goal.loop-least-preserved
loop-least-preserved c =
    on c.loop-least.invariant _ c.in_ok-result.ensures _ c.from-task.ensures

pub returns : goal.returns
returns c =
    done c.loop-least.invariant c.requires.1 (c.stands.ensures.no (when_false c.loop-least-test.false))
