-- The lengths of the records in a file.
use Rattle.std.specs.Prelude.{◌≡◌, refl, ℕ, suc, length}
use Rattle.std.proofs.Common.{ap}
use Rattle.base.specs.Laws.Number.{length_bytes}
use Rattle.job.specs.Job.{Edge, Wire, Result}
use Rattle.job.specs.Write.{wire_bytes, step_bytes, link_bytes, result_bytes}

-- a wire has four bytes
pub wire_size : (w : Wire) → length (wire_bytes w) ≡ 4
unfolding wire_bytes
wire_size w = refl

-- a step and a link have five bytes
pub step_size : (d : ℕ) → length (step_bytes d) ≡ 5
unfolding step_bytes
step_size d = ap suc (length_bytes 4 d)

pub link_size : (e : Edge) → length (link_bytes e) ≡ 5
unfolding link_bytes
link_size e = ap (λ (n : ℕ). suc (suc (suc n))) (length_bytes 2 e.count)

-- a result has four bytes
pub result_size : (r : Result) → length (result_bytes r) ≡ 4
unfolding result_bytes
result_size r = ap (λ (n : ℕ). suc (suc n)) (length_bytes 2 r.count)
