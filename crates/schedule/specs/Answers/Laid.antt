-- What laying a plan out gives.
use Rattle.std.specs.Prelude.{Option, Some, None, ℕ}

-- its last finish, or that a slice is too short
pub data Laid : Type 0 where
  Last : ℕ → Laid
  Short : Laid

-- a program's option as this
abbrev pub as_laid : Option ℕ → Laid
as_laid (Some n) = Last n
as_laid None = Short
