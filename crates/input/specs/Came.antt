-- What reading the input comes to: how many bytes came, or why a read failed.
use Rattle.std.specs.Prelude.{List, ℕ, ◌<◌, length, take, ⊤, Option, Result, Ok, Err}
use Rattle.std.specs.Io.KnownBytes.{Consumes, IsAtEnd}

module _ {E : Type 0} where
  -- how many bytes came
  abbrev pub count : Result ℕ E → ℕ
  count (Ok n) = n
  count (Err _) = 0

  -- where the reader's bytes are known, those that came are its next ones: they stand at the front of the buffer, and it has lost them
  abbrev pub Takes : Result ℕ E → Option (List ℕ) → Option (List ℕ) → List ℕ → Type 0
  Takes (Ok n) before after buffer = Consumes before after (take n buffer)
  Takes (Err _) before after buffer = ⊤

  -- where fewer bytes came than the buffer takes, the reader has none left
  abbrev pub EndsWhenShort : Result ℕ E → Option (List ℕ) → List ℕ → Type 0
  EndsWhenShort (Ok n) after buffer = n < length buffer → IsAtEnd after
  EndsWhenShort (Err _) after buffer = ⊤
