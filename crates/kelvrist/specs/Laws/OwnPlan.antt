-- The planner's plan, read off the bytes that it filled, is the schedule that the checker is known to accept.
use Rattle.std.specs.Prelude.{Bool, true, false, ◌≡◌, ltb, length}
use Rattle.std.proofs.Math.Path.{refl}
use Rattle.std.proofs.Common.{ap, ◌∙◌, arith, le-ltb, length-append}
use mathlib.Core.List.{List, ◌++◌}
use Prim.Native.Nat.{ℕ, ◌+◌, ◌*◌, ◌^◌, ◌<◌}
use Rattle.std.proofs.Math.ListN.{drop}
use Rattle.base.specs.Choice.{pick}
use Rattle.job.specs.Job.{Job}
use Rattle.job.specs.Read.{accepted}
use Rattle.job.specs.Accepted.{Accepted}
use Rattle.etf.specs.Instance.{Instance, tasks}
use Rattle.etf.specs.Schedule.{placement_of}
use Rattle.etf.specs.Rule.{planned}
use Rattle.etf.specs.OfJob.{instance, TieRule}
use Rattle.etf.proofs.Jobs.{well_formed, no_finish_passes}
use Rattle.etf.proofs.Laws.Planned.{home}
use Rattle.schedule.specs.Call.{start_of, processor_of}
use Rattle.schedule.specs.Check.{number_of}
use Rattle.schedule.specs.Laws.Checker.Answer.{check_of_same}
use Rattle.schedule.specs.Laws.Checker.OwnPlan.{own}
use Rattle.kelvrist.specs.PlanBytes.{returned, plan_bytes, processor_in, start_in, plan_bytes_for, check_bytes_for}
use Rattle.kelvrist.specs.Numbers.{as_many}
use Rattle.kelvrist.specs.Laws.Encoded.{plan_size}
use Rattle.kelvrist.specs.Laws.Decoded.{processor_back, start_back}

module _ {by : Job → Instance} (rule : TieRule by) (j : Job) (a : Accepted j) where
  abbrev I : Instance
  I = by j

  abbrev m : ℕ
  m = tasks (instance j)

  -- a start of the planner's fits in 4 bytes
  pub start_fits : (T : ℕ) → T < m → start_of I T < 2 ^ 32
  unfolding start_of
  start_fits T h =
      let at_home = home I (well_formed rule j a) T (omega (arith, h, as_many rule j a)) in
      omega (arith, no_finish_passes rule j a (placement_of (planned I) T) at_home.0)

  pub bytes_yes : (plan : List ℕ) → (plan_bytes_for by (accepted j) plan).number ≡ 0
      → check_bytes_for (accepted j) (plan_bytes_for by (accepted j) plan).plan ≡ 0
  unfolding plan_bytes_for check_bytes_for number_of
  bytes_yes plan h = go (ltb (length plan) (5 * m)) refl h
    where
      -- the bytes that are not filled
      rest : List ℕ
      rest = drop (5 * m) plan

      full : List ℕ
      full = plan_bytes m (processor_of I) (start_of I) ++ rest

      size : length full ≡ 5 * m + length rest
      size =
          length-append (plan_bytes m (processor_of I) (start_of I)) rest
          ∙ ap (λ (n : ℕ). n + length rest) (plan_size (processor_of I) (start_of I) m)

      go : (b : Bool) → ltb (length plan) (5 * m) ≡ b → (pick b (returned 9 plan) (returned 0 full)).number ≡ 0
          → check_bytes_for (accepted j) (pick b (returned 9 plan) (returned 0 full)).plan ≡ 0
      go true p w = absurd (omega arith)
      go false p w =
          simp (le-ltb (length full) (5 * m) (omega (arith, size)))
          (ap number_of
          (check_of_same (instance j) (processor_in full) (processor_of I) (start_in full) (start_of I)
          (processor_back m (processor_of I) (start_of I) rest)
          (λ T h. start_back m (processor_of I) (start_of I) rest T h (start_fits T h)) ∙ own rule j a))
