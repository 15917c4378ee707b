-- `tasks_of`: the verdict has the number of tasks of the job that was read, or the refusal of the file.
use mathlib.Core.Path.{◌≡◌, ap, sym, ◌∙◌}
use mathlib.Core.List.{List}
use Prim.Native.Nat.{ℕ}
use Rattle.job.specs.declared.Reading.{Reading}
use Rattle.job.specs.declared.Verdict.TheVariants.{Counts}
use Rattle.job.specs.Job.{Job}
use Rattle.job.specs.Read.{accepted, read_job, reading_of}
use Rattle.job.specs.Accepted.{counted, refused_by}
use Rattle.etf.specs.Instance.{tasks}
use Rattle.etf.specs.OfJob.{instance}
use Rattle.kelvrist.proofs.tasks_of.Goals as goal

has : (file : List ℕ) (m l : ℕ) → (reading_of (read_job file)).verdict ≡ Counts m l
    → (j : Job) × (read_job file ≡ accepted j) × (tasks (instance j) ≡ m)
unfolding instance
has file m l e = let found = counted (read_job file) m l e in (found.0, found.1, found.2)

pub returns-in_default : goal.returns-in_default
returns-in_default c =
    refused_by _ c.read_into-found.ensures c.in_default.is c.refusal.ensures

pub returns : goal.returns
returns c =
    has _ _ _ (ap (λ (r : Reading). r.verdict) (sym c.read_into-found.ensures) ∙ c.in-Counts.is)
