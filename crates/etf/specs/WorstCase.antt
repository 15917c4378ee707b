-- The comparison of the planner's schedule with an ideal one (00: demand 3).
use Rattle.std.specs.Prelude.{ℕ, ◌-◌, ◌+◌, ◌*◌, ◌≤◌}

-- 00, demand 3, on n processors: "n times E is at most (2n - 1) times F plus n times C", and "C is at most the dearest chain", D; E is the
-- last finish (with results: `WithinResults` in Results.antt)
pub record Within (n E F C D : ℕ) : Type 0 where
  pub end_within : n * E ≤ (2 * n - 1) * F + n * C
  pub cover_within : C ≤ D
