-- The comparison with an ideal schedule where there are results (02 §2): the dearest result time stands beside C.
use Rattle.std.specs.Prelude.{ℕ, ◌+◌, ◌*◌, ◌-◌, ◌≤◌}

-- 02 §2, on n processors: "the comparison with a rival has C plus the dearest result time", R, "where C stood", and "it is C alone, without
-- the result time, that is at most the dearest chain", D
pub record WithinResults (n E F C R D : ℕ) : Type 0 where
  pub end_within : n * E ≤ (2 * n - 1) * F + n * (C + R)
  pub cover_within : C ≤ D
