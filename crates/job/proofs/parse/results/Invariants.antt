-- `parse::results`: the loop keeps that the answer to the file is the answer to its rest, with the results that the array holds so far.
use mathlib.Core.Bool.{Bool}
use mathlib.Core.Path.{◌≡◌, ap, sym, ◌∙◌}
use mathlib.Core.List.{List, [], ◌∷◌, ◌++◌, append_assoc}
use Prim.Native.Nat.{ℕ, ◌+◌, ◌-◌, ◌≤◌, ◌<◌}
use native.Mathlib.Omega.{arith}
use lib.ListN.{length, get_or, drop, set, length-set, length-append}
use Rattle.std.specs.Prelude.{Err}
use Rattle.job.specs.declared.table.Refusal.{Refusal}
use Rattle.job.specs.declared.parse.FoundResult.{FoundResult}
use Rattle.job.specs.Job.{Job, Result, job_with_results}
use Rattle.job.specs.Record.{result, stands}
use Rattle.job.specs.Read.{records}
use Rattle.job.specs.Write.{results_held}
use Rattle.job.specs.Pass.{result_of, Refuses, NoneThere, ResultDue, ResultRead, ResultPassed, ResultsTaken}
use Rattle.job.specs.Laws.Due.{results_then}
use Rattle.job.specs.Laws.Results.{past_more, held_more, spare_more, array_back}
use Rattle.job.proofs.parse.results.Given as goal

-- the results of tasks below `least` were taken up to place `at`, and are in the array
pub record Going (file : List ℕ) (start m : ℕ) (sent : List Bool) (counts : List ℕ) (least at : ℕ) : Type 0 where
  pub inside : at ≤ length file
  pub long : length counts ≡ 256
  pub below : least ≤ m
  pub spare : (T : ℕ) → least ≤ T → get_or counts T 0 ≡ 0
  pub first : results_held counts m ≡ [] → at ≡ start
  pub due : (j : Job) → ResultDue j m 0 sent → ResultDue (job_with_results j (results_held counts m)) m least sent
  pub same : (j : Job) → ResultDue j m 0 sent →
      records (drop start file) 0 j ≡ records (drop at file) 0 (job_with_results j (results_held counts m))

pub some_held : (rs : List Result) (r : Result) → rs ++ (r ∷ []) ≡ [] → ⊥
some_held rs r e = let n : length (rs ++ (r ∷ [])) ≡ 0 = ap length e in omega (arith, length-append rs (r ∷ []))

module _ {file counts : List ℕ} {start m least at : ℕ} {sent : List Bool} (g : Going file start m sent counts least at) where
  abbrev pub taken : List Result
  taken = results_held counts m

  -- no result is there
  pub done : m ≤ 256 → NoneThere file at result → ResultsTaken file start m sent counts at
  done few no_result = record {
    answer = g.same;
    inside = g.inside;
    first = g.first;
    over = no_result;
    spare = array_back counts m g.long few (λ T h. g.spare T (omega (arith, g.below)));
  }

  -- a result with trouble
  pub bad : (e : Refusal) → ResultPassed file at m least sent (Err e) → Refuses file start (λ j. ResultDue j m 0 sent) e
  bad e x j s = g.same j s ∙ x (job_with_results j taken) (g.due j s)

  -- one result more
  pub on : (r : FoundResult) → ResultRead file at m least sent r → (T : ℕ) → T ≡ r.task →
      Going file start m sent (set counts T r.count) (T + 1) (at + 4)
  unfolding stands
  on r x T i =
      let some = x.some_message in
      let low : T < m = omega (arith, x.within) in
      let up : least ≤ T = omega (arith, x.rises) in
      let fits : T < length counts = omega (arith, x.byte, g.long) in
      let last = result_of T r.count in
      let grown = held_more counts least T r.count m fits up low some g.spare in
      record {
        inside = x.inside;
        long = length-set counts T r.count ∙ g.long;
        below = omega arith;
        spare = spare_more counts least T r.count m fits up low some g.spare;
        first = λ q. absurd (some_held taken last (sym grown ∙ q));
        due = λ j s. record {
          placed = s.placed;
          tasks_are = s.tasks_are;
          sent_are = s.sent_are;
          above = λ S. rw (grown, ← append_assoc j.results taken (last ∷ [])) (past_more (j.results ++ taken) last S);
        };
        same = λ j s. g.same j s ∙ x.answer (job_with_results j taken) (g.due j s)
            ∙ rw (grown, i) (ap (records (drop (at + 4) file) 0) (results_then j taken (result_of r.task r.count ∷ [])));
      }

abbrev pub invariant-loop-least : goal.invariant-loop-least
invariant-loop-least l = Going l.file l.start l.tasks l.sent l.counts l.least l.at

abbrev pub decreases-loop-least : goal.decreases-loop-least
decreases-loop-least l = length l.file - l.at
