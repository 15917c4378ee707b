-- The checker from C accepts what the planner from C leaves, for every file and whatever the bytes held before.
use Rattle.std.specs.Prelude.{◌≡◌, refl, List, ℕ}
use Rattle.std.proofs.Common.{arith}
use Rattle.job.specs.Job.{Job}
use Rattle.job.specs.Read.{Answer, accepted, refused, read_job}
use Rattle.job.specs.Accepted.{accepted_job}
use Rattle.job.specs.Refusal.{read_numbers, reader_number_some}
use Rattle.etf.specs.Instance.{Instance}
use Rattle.etf.specs.OfJob.{TieRule}
use Rattle.kelvrist.specs.PlanBytes.{plan_bytes_for, plan_bytes_call_by, check_bytes_for, check_bytes_call}
use Rattle.kelvrist.specs.Laws.OwnPlan.{bytes_yes}

-- where a planner from C returns 0, by any tie rule, `kelvrist_check` returns 0 for the bytes that it leaves
pub bytes_accepted : {by : Job → Instance} → TieRule by → (file plan : List ℕ) → (plan_bytes_call_by by file plan).number ≡ 0
    → check_bytes_call file (plan_bytes_call_by by file plan).plan ≡ 0
unfolding plan_bytes_call_by plan_bytes_for check_bytes_call
bytes_accepted {by} rule file plan h = go (read_job file) refl h
  where
    go : (a : Answer) → read_job file ≡ a → (plan_bytes_for by a plan).number ≡ 0 → check_bytes_for a (plan_bytes_for by a plan).plan ≡ 0
    go (accepted j) r w = bytes_yes rule j (accepted_job file j r) plan w
    go (refused k) r w = absurd (omega (arith, reader_number_some (read_numbers file k r), w))
