-- Texts as bytes, in ASCII.
use Rattle.std.specs.Prelude.{List, [], ◌∷◌, ℕ}
use Prim.Native.Char.{code}
use Prim.Native.String.{String, [] as []ᵗ, ◌∷◌ as ◌∷ᵗ◌}

-- the bytes of a text
unfoldable pub text : String → List ℕ
text []ᵗ = []
text (c ∷ᵗ s) = code c ∷ text s

-- what parts the numbers of a line
abbrev pub space : ℕ
space = 32

-- 01: "Each line ends in a line feed"
abbrev pub line_feed : ℕ
line_feed = 10
