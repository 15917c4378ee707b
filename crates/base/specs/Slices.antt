-- What a borrowed slice holds after something was written to it.
use Rattle.std.specs.Prelude.{◌≡◌, List, ◌++◌, map, ℕ, ◌+◌, length, drop}
use Rattle.std.proofs.lemmas.List.Edits.{sets}
use Rattle.base.specs.Lists.{upto}

-- a slice whose first k places hold f 0 .. f (k - 1), and whose others hold what they held (01: "places past m keep their old content")
unfoldable pub filled : (ℕ → ℕ) → ℕ → List ℕ → List ℕ
filled f k old = map f (upto k) ++ drop k old

-- `row` was put at place `at`, and `next` is the place after it
pub record Put (before after : List ℕ) (at next : ℕ) (row : List ℕ) : Type 0 where
  pub stored : after ≡ sets before at row
  pub past : next ≡ at + length row
