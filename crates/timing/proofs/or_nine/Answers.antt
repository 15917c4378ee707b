-- `timing::or_nine` returns 9 for an accepted file.
use Rattle.std.proofs.Common.{◌≡◌, List, ℕ, ap, sym, ◌∙◌}
use Rattle.job.specs.declared.Reading.{Reading}
use Rattle.job.specs.declared.Verdict.TheVariants.{Counts}
use Rattle.job.specs.Read.{read_job, reading_of}
use Rattle.job.specs.Accepted.{counted}
use Rattle.timing.specs.Timing.{or_nine}
use Rattle.timing.proofs.or_nine.Goals as goal

accepted : (file : List ℕ) {x : Reading} {m l : ℕ} → x ≡ reading_of (read_job file) → x.verdict ≡ Counts m l → 9 ≡ or_nine (read_job file)
unfolding or_nine
accepted file {x} {m} {l} e v = sym (ap or_nine (counted (read_job file) m l (ap (λ (r : Reading). r.verdict) (sym e) ∙ v)).1)

pub returns-in-Counts : goal.returns-in-Counts
returns-in-Counts c = accepted _ c.read.ensures c.in-Counts.is
