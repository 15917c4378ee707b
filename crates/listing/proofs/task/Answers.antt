-- `task`: four fields, one after the other.
use mathlib.Core.List.{List}
use Prim.Native.Nat.{ℕ}
use Rattle.base.specs.Slices.{Put}
use Rattle.base.specs.Laws.Put.{put_then}
use Rattle.base.specs.Text.{space, line_feed}
use Rattle.listing.specs.Listing.{field, task_line}
use Rattle.listing.proofs.task.Goals as goal

-- four fields put
whole : {a b c d e : List ℕ} {i j k l m : ℕ} (T P start finish : ℕ) → Put a b i j (field T space) → Put b c j k (field P space)
    → Put c d k l (field start space) → Put d e l m (field finish line_feed) → Put a e i m (task_line T P start finish)
unfolding task_line
whole T P start finish p q r s = put_then p (put_then q (put_then r s))

pub returns-clause-put : goal.returns-clause-put
returns-clause-put c =
    whole _ _ _ _ c.field-second.ensures.put c.field-third.ensures.put c.field-fourth.ensures.put c.field.ensures.put
