-- `parse::steps`: the loop keeps that the answer to the file is the answer to its rest, with the steps taken so far.
use mathlib.Core.Path.{◌≡◌}
use mathlib.Core.List.{List}
use Prim.Native.Nat.{ℕ, ◌-◌, ◌≤◌}
use lib.ListN.{length, get_or, drop}
use Rattle.base.specs.Lists.{values}
use Rattle.job.specs.Job.{Job, with_tasks}
use Rattle.job.specs.Read.{records}
use Rattle.job.specs.Pass.{StepsDue, Front}
use Rattle.job.proofs.parse.steps.Given as goal

abbrev pub row : List ℕ → ℕ → List ℕ
row durations m = values (λ t. get_or durations t 0) 0 m

-- m steps were taken up to place `at`, and are in the array
pub record Going (file : List ℕ) (start : ℕ) (durations : List ℕ) (m at : ℕ) : Type 0 where
  pub few : m ≤ 256
  pub inside : at ≤ length file
  pub front : Front 256 m durations
  pub first : m ≡ 0 → at ≡ start
  pub same : (j : Job) → StepsDue file start j → records (drop start file) 0 j ≡ records (drop at file) 0 (with_tasks j (row durations m))

abbrev pub invariant-loop-start : goal.invariant-loop-start
invariant-loop-start l = Going l.file l.start l.durations l.count l.at

abbrev pub decreases-loop-start : goal.decreases-loop-start
decreases-loop-start l = length l.file - l.at
