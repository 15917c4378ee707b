-- `put::line`: the word, then the number.
use mathlib.Core.List.{List}
use Prim.Native.Nat.{ℕ}
use Rattle.base.specs.Slices.{Put}
use Rattle.base.specs.Laws.Put.{put_then}
use Rattle.base.specs.Text.{line_feed}
use Rattle.listing.specs.Listing.{field, line}
use Rattle.listing.proofs.put.line.Goals as goal

-- a word and a field put
whole : {out out' out'' : List ℕ} {at next end : ℕ} {word : List ℕ} (x : ℕ) → Put out out' at next word
    → Put out' out'' next end (field x line_feed) → Put out out'' at end (line word x)
unfolding line
whole x p q = put_then p q

pub returns-clause-put : goal.returns-clause-put
returns-clause-put c = whole _ c.word-number.ensures c.field.ensures.put
