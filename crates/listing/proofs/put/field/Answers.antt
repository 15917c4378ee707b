-- `put::field`: the digits, then the byte that follows them.
use mathlib.Core.Path.{◌≡◌, ◌∙◌}
use mathlib.Core.List.{List}
use Prim.Native.Nat.{ℕ, ◌+◌, ◌-◌, ◌≤◌}
use native.Mathlib.Omega.{arith}
use lib.ListN.{length, take, drop, set, length-drop}
use lib.Seq.{take_all}
use Rattle.base.specs.Slices.{Put}
use Rattle.base.specs.Laws.Put.{put_byte}
use Rattle.listing.specs.Listing.{decimal, field}
use Rattle.listing.specs.Laws.Digits.{field_length}
use Rattle.listing.proofs.put.field.Goals as goal

-- the part of the ten places that the digits stand in
part : (digits : List ℕ) (r x : ℕ) → length digits ≡ 10 → drop r digits ≡ decimal x → take (10 - r) (drop r digits) ≡ decimal x
part digits r x n e = take_all (10 - r) (drop r digits) (omega (arith, length-drop r digits, n)) ∙ e

-- the digits put, and the byte set after them
ended : {out out' : List ℕ} {at last : ℕ} {s : List ℕ} (x next : ℕ) → Put out out' at last s → s ≡ decimal x
    → Put out (set out' last next) at (last + 1) (field x next)
unfolding field
ended x next p e = rw e at (put_byte next p)

short : {out out' : List ℕ} {at end : ℕ} (x next : ℕ) → Put out out' at end (field x next) → end ≤ at + 11
short x next p = omega (arith, p.past, field_length x next)

pub returns : goal.returns
returns c =
    let digits = c.spell-first.new.digits in
    let spelt = part digits c.spell-first.result _ c.spell-first.auto.digits c.spell-first.ensures.1 in
    let put = ended _ _ c.word-last.ensures spelt in record { put = put; upper_bound = short _ _ put }
