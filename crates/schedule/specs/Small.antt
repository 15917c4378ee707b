-- A call of the planner for small controllers (02 §4): its answer, and what the borrowed slices hold afterwards.
use Rattle.std.specs.Prelude.{List, ℕ}
use Rattle.base.specs.Slices.{filled}
use Rattle.job.specs.Read.{read_job}
use Rattle.etf.specs.Instance.{Instance, tasks}
use Rattle.etf.specs.OfJob.{instance}
use Rattle.schedule.specs.Answers.Planned.{Planned, Plan, Refused}
use Rattle.schedule.specs.Call.{Call, called, start_of, processor_of, call_for}
use Rattle.schedule.specs.Plan.{outcome}

-- 02 §4: "takes 512 scratch numbers in place of 4,096"
abbrev pub small_places : ℕ
small_places = 512

-- the planner's schedule of an instance laid out in the slices, and an answer. 02 §4: it "leaves those 512 at zero"
unfoldable pub laid_small : {A : Type 0} → A → Instance → List ℕ → List ℕ → List ℕ → Call A
laid_small answer I starts processors scratch =
    called answer
    (filled (start_of I) (tasks I) starts) (filled (processor_of I) (tasks I) processors) (filled (λ x. 0) small_places scratch)

-- the call for a file and the borrowed slices. 02 §4: "the same starts, boards and refusals as the larger entry .. only 9 has the new
-- length"
unfoldable pub small_call : List ℕ → List ℕ → List ℕ → List ℕ → Call Planned
small_call file starts processors scratch =
    call_for small_places Refused (λ j. laid_small (Plan (outcome j)) (instance j)) (read_job file) starts processors scratch
