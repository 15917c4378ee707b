-- Rows of numbers f 0, f 1, ..: their sum and the greatest of them.
use Rattle.std.specs.Prelude.{Bool, true, false, ℕ, zero, suc, ◌+◌, max}

-- the sum of f below n
unfoldable pub sum : ℕ → (ℕ → ℕ) → ℕ
sum zero f = 0
sum (suc n) f = sum n f + f n

-- 1 for a passed test, 0 for a failed one
unfoldable pub one_if : Bool → ℕ
one_if true = 1
one_if false = 0

-- the greatest of f 0 .. f (n - 1), 0 if there is none
unfoldable pub most : ℕ → (ℕ → ℕ) → ℕ
most zero f = 0
most (suc n) f = max (most n f) (f n)
