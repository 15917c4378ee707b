-- A row put byte by byte and rows put one after the other are the stores of them all.
use Rattle.std.specs.Prelude.{◌≡◌, ℕ, zero, suc, ◌+◌, ◌*◌, ◌/◌, ◌%◌, ◌≤◌, ltb, length, take, drop, set, replicate}
use Rattle.std.proofs.Math.Path.{refl}
use Rattle.std.proofs.Common.{sym, ◌∙◌, add-one, arith, append_assoc, length-drop, length-take-le}
use mathlib.Core.List.{List, [], ◌∷◌, ◌++◌, map, flat_map, map-append}
use Rattle.std.proofs.lemmas.List.{length-replicate, replicate-append-replicate, drop-drop}
use Rattle.std.proofs.lemmas.List.Edits.{sets, sets-eq}
use Rattle.base.specs.Choice.{pick}
use Rattle.base.specs.Lists.{upto}
use Rattle.base.specs.Text.{text, space, line_feed}
use Rattle.base.specs.Laws.Stored.{sets-append, sets_front}
use Rattle.gantt.specs.Page.{cells, dot, columns, row, rows}
use Rattle.gantt.specs.Laws.Layout.{rows_size, rows_more}

-- ---- a run of one byte

-- one byte more
pub run_more : (out out' : List ℕ) (at i byte place x : ℕ) → out' ≡ sets out at (replicate i byte) → place ≡ at + i → x ≡ byte
    → set out' place x ≡ sets out at (replicate (i + 1) byte)
run_more out out' at i byte place x e place_is x-is =
    sym (rw (← replicate-append-replicate i 1 byte)
    (sets-append out at (replicate i byte) (byte ∷ []) ∙ rw (length-replicate i byte, e, place_is, x-is)))

-- a part that was filled with one byte
pub run_filled : (out part : List ℕ) (at k byte : ℕ) → at + k ≤ length out → part ≡ replicate (length (take k (drop at out))) byte
    → take at out ++ (part ++ drop k (drop at out)) ≡ sets out at (replicate k byte)
run_filled out part at k byte h e =
    let n = length-replicate k byte in
    let all : length (take k (drop at out)) ≡ k = length-take-le k (drop at out) (omega (arith, length-drop at out)) in
    sym (sets-eq (replicate k byte) out at (omega (arith, n)) ∙ rw (n, append_assoc, e, all, drop-drop k at out))

-- ---- a row of dots

-- a row of one number
same_row : (k x : ℕ) → map (λ (j : ℕ). x) (upto k) ≡ replicate k x
unfolding upto
same_row zero x = refl
same_row (suc k) x =
    map-append (λ (j : ℕ). x) (upto k) (k ∷ []) ∙ rw (same_row k x, replicate-append-replicate k 1 x, add-one k)

-- it, and two bytes after it
row_and_two : (l : List ℕ) (at k x y z : ℕ)
    → set (set (sets l at (replicate k x)) (at + k) y) (suc (at + k)) z ≡ sets l at (map (λ (j : ℕ). x) (upto k) ++ (y ∷ z ∷ []))
row_and_two l at k x y z =
    rw (same_row k x) (sym (sets-append l at (replicate k x) (y ∷ z ∷ []) ∙ rw (length-replicate k x)))

-- its first four bytes, its cells and its last two, each where it is to stand
pub row_put : (out out' : List ℕ) (at P tens ones gap bar bar' feed : ℕ)
    → tens ≡ pick (ltb P 10) space (48 + P / 10) → ones ≡ 48 + P % 10 → gap ≡ space → bar ≡ 124 → bar' ≡ 124 → feed ≡ line_feed
    → out' ≡ sets (set (set (set (set out at tens) (at + 1) ones) (at + 2) gap) (at + 3) bar) (at + 4) (replicate cells dot)
    → set (set out' (at + 68) bar') (at + 69) feed ≡ sets out at (row (λ j. dot) P)
unfolding row columns text
row_put out out' at P tens ones gap bar bar' feed t-is o_is g-is b-is b'-is f-is e =
    let one : at + 1 ≡ suc at = omega arith in
    let two : at + 2 ≡ suc (suc at) = omega arith in
    let three : at + 3 ≡ suc (suc (suc at)) = omega arith in
    let four : at + 4 ≡ suc (suc (suc (suc at))) = omega arith in
    let end : at + 68 ≡ suc (suc (suc (suc at))) + cells = omega arith in
    let past : at + 69 ≡ suc (suc (suc (suc (suc at))) + cells) = omega arith in
    rw (e, t-is, o_is, g-is, b-is, b'-is, f-is, one, two, three, four, end, past)
    (row_and_two _ (suc (suc (suc (suc at)))) cells dot 124 10)

-- ---- rows one after the other

module _ (cell : ℕ → ℕ → ℕ) where
  -- no row yet
  pub rows_none : (out : List ℕ) → out ≡ sets out 0 (rows cell 0)
  unfolding rows upto flat_map
  rows_none out = refl

  -- one row more
  pub rows_put : (out out' out'' : List ℕ) (p at P : ℕ) → out' ≡ sets out 0 (rows cell p) → out'' ≡ sets out' at (row (cell p) P)
      → at ≡ 70 * p → P ≡ p → out'' ≡ sets out 0 (rows cell (p + 1))
  rows_put out out' out'' p at P e h at_is P-is =
      let place : at ≡ 0 + length (rows cell p) = omega (arith, rows_size cell p) in
      h ∙ rw (e, P-is, place, add-one p, rows_more cell p) (sym (sets-append out 0 (rows cell p) (row (cell p) p)))

  -- all of them
  pub rows_all : (out out' : List ℕ) (p n : ℕ) → p ≡ n → 70 * n ≤ length out → out' ≡ sets out 0 (rows cell p)
      → out' ≡ rows cell n ++ drop (70 * n) out
  rows_all out out' p n p-is h e = e ∙ rw p-is (sets_front out (rows cell n) (70 * n) (rows_size cell n) h)
