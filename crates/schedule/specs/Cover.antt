-- The cover call: its answer, and what the borrowed slices hold afterwards.
use Rattle.std.specs.Prelude.{List, ℕ}
use Rattle.job.specs.Job.{Job}
use Rattle.job.specs.Read.{read_job}
use Rattle.etf.specs.Instance.{Instance}
use Rattle.etf.specs.Cover.{cover}
use Rattle.etf.specs.Dearest.{dearest}
use Rattle.etf.specs.Least.{least}
use Rattle.etf.specs.OfJob.{instance, instance_by_weight}
use Rattle.schedule.specs.declared.Figures.{Figures}
use Rattle.schedule.specs.Answers.Covered.{Covered, Cover, Refused}
use Rattle.schedule.specs.Call.{Call, arrival_places, plan_by, call_for}

-- 01: "the cover call C and the dearest chain of the planner's plan"; 02 §7: "Each cover call gives it after C", the least C of all walks
unfoldable pub figures : Instance → Figures
figures I = record { cover = cover I; least = least I; dearest = dearest I }

-- a cover call for a file and the borrowed slices: these hold what the planner leaves (01: "it refuses as the planner does")
unfoldable pub cover_call_by : (Job → Instance) → List ℕ → List ℕ → List ℕ → List ℕ → Call Covered
cover_call_by by file starts processors scratch =
    call_for arrival_places Refused (plan_by by (λ j. Cover (figures (by j)))) (read_job file) starts processors scratch

-- document 01's
abbrev pub cover_call : List ℕ → List ℕ → List ℕ → List ℕ → Call Covered
cover_call = cover_call_by instance

-- 02 §6: ".. and a cover call of its own"
abbrev pub weight_cover_call : List ℕ → List ℕ → List ℕ → List ℕ → Call Covered
weight_cover_call = cover_call_by instance_by_weight
