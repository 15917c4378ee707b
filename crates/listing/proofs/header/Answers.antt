-- `header`: a word and three fields.
use mathlib.Core.Path.{◌≡◌, refl}
use mathlib.Core.List.{List}
use Prim.Native.Nat.{ℕ}
use native.Mathlib.Omega.{arith}
use Rattle.base.specs.Slices.{Put}
use Rattle.base.specs.Laws.Put.{put_then}
use Rattle.base.specs.Text.{text, space, line_feed}
use Rattle.listing.specs.Listing.{field, header}
use Rattle.listing.proofs.header.Goals as goal

-- a word and three fields put, and their numbers
whole : {a b c d e : List ℕ} {i j k l m : ℕ} (word : List ℕ) (n t s n' t' s' : ℕ) → word ≡ text "plan " → Put a b i j word
    → Put b c j k (field n' space) → Put c d k l (field t' space) → Put d e l m (field s' line_feed)
    → n' ≡ n → t' ≡ t → s' ≡ s → Put a e i m (header n t s)
unfolding header
whole word n t s n' t' s' w p q r u x y z = rw (w, x, y, z) at (put_then p (put_then q (put_then r u)))

pub returns-clause-put : goal.returns-clause-put
unfolding text
returns-clause-put c =
    whole _ _ _ _ _ _ _ refl c.word-first.ensures
    c.field-second.ensures.put c.field-third.ensures.put c.field.ensures.put
    (omega (arith, c.from.ensures)) (omega arith) (omega arith)
