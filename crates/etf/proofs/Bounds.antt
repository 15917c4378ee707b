-- The bounds that document 01 writes down.
use Rattle.std.specs.Prelude.{◌≡◌, refl}
use Rattle.etf.specs.Bounds.{most_cost, most_finish}

-- as document 01 has them
pub as_written : (most_cost ≡ 800) × (most_finish ≡ 460000000)
as_written = (refl, refl)
