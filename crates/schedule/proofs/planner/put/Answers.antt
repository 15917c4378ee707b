-- `planner::put`: four stores, each where it is promised.
use mathlib.Core.Path.{refl}
use Rattle.schedule.proofs.planner.put.Goals as goal

pub returns : goal.returns
returns c =
    record { starts_after = refl; processors_after = refl; progress_after = refl }
