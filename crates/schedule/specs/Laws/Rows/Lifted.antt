-- A number, and an entry of an array, that is raised to another where it is below: what it is afterwards, and that no other entry changes.
use Rattle.std.specs.Prelude.{◌≡◌, refl, List, ℕ, ◌≤◌, ◌<◌, max, length, get_or, set}
use Rattle.std.proofs.Common.{◌∙◌, arith}
use Rattle.schedule.specs.Laws.Rows.Entry.{Entry, stored, kept}

-- the greater of two numbers
pub later : (e f : ℕ) → e < f → f ≡ max e f
later e f h = omega arith

pub not_later : (e f : ℕ) → f ≤ e → e ≡ max e f
not_later e f h = omega arith

-- entry t raised to x
pub record Lifted (t x : ℕ) (before after : List ℕ) : Type 0 where
  pub size : length after ≡ length before
  pub here : get_or after t 0 ≡ max (get_or before t 0) x
  pub elsewhere : (T : ℕ) → (T ≡ t → ⊥) → get_or after T 0 ≡ get_or before T 0

pub raised : {t x r : ℕ} {before after : List ℕ} → Entry t r before after → r ≡ max (get_or before t 0) x → Lifted t x before after
raised E e = record { size = E.size; here = E.here ∙ e; elsewhere = E.elsewhere }

-- the greater of the two is stored
pub raised_to : (t x : ℕ) (before : List ℕ) (r : ℕ) → r ≡ max (get_or before t 0) x → t < length before
    → Lifted t x before (set before t r)
raised_to t x before r e l = raised (stored l refl) e

-- it was below
pub lifted : (t x : ℕ) (before after : List ℕ) → get_or before t 0 < x → after ≡ set before t x → t < length before
    → Lifted t x before after
lifted t x before after h e l = raised (stored l e) (later (get_or before t 0) x h)

-- it was not
pub unlifted : (t x : ℕ) (before after : List ℕ) → x ≤ get_or before t 0 → after ≡ before → Lifted t x before after
unlifted t x before after h e = raised (kept e) (not_later (get_or before t 0) x h)
