-- Wires in an array (02 §1).
use Rattle.std.specs.Prelude.{List, ℕ, ◌+◌, ◌*◌, get_or}

-- the cost of the wire from p to q in an array of sixteen rows of sixteen
unfoldable pub loaded : List ℕ → ℕ → ℕ → ℕ
loaded wires p q = get_or wires (16 * p + q) 0
