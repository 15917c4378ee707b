-- `figures`: four lines.
use mathlib.Core.Path.{◌≡◌}
use mathlib.Core.List.{List}
use Prim.Native.Nat.{ℕ}
use native.Mathlib.Omega.{arith}
use Rattle.base.specs.Slices.{Put}
use Rattle.base.specs.Laws.Put.{put_then}
use Rattle.base.specs.Text.{text}
use Rattle.listing.specs.Listing.{line, figures}
use Rattle.listing.proofs.figures.Goals as goal

-- four lines put, and their numbers
whole : {a b c d o : List ℕ} {g h i j k : ℕ} (E C L D e c' l' d' : ℕ)
    → Put a b g h (line (text "end ") e) → Put b c h i (line (text "cover ") c')
    → Put c d i j (line (text "least ") l') → Put d o j k (line (text "dearest ") d')
    → e ≡ E → c' ≡ C → l' ≡ L → d' ≡ D → Put a o g k (figures E C L D)
unfolding figures
whole E C L D e c' l' d' p q r s w x y z = rw (w, x, y, z) at (put_then p (put_then q (put_then r s)))

pub returns-clause-put : goal.returns-clause-put
unfolding text
returns-clause-put c =
    whole _ _ _ _ _ _ _ _ c.line-second.ensures.put c.line-third.ensures.put c.line-fourth.ensures.put
    c.line.ensures.put (omega arith) (omega arith) (omega arith) (omega arith)
