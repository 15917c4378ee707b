-- The cells in which a task runs are those from the cell of its first tick to the cell of its last.
use Rattle.std.specs.Prelude.{◌&&◌, ◌≡◌, ℕ, ◌+◌, ◌-◌, ◌*◌, ◌/◌, ◌≤◌, ◌<◌, min, max, leb, ltb, T as Holds}
use Rattle.std.proofs.Common.{ap, ◌∙◌, le-div_iff_mul-le, div-lt_iff_lt-mul, suc-mul, add-one, arith, leb→le, le→leb, ltb→lt, lt→ltb}
use Rattle.base.specs.Laws.Tests.{both, parts, same_test}

-- cells are w wide
next_cell : (j w : ℕ) → (j + 1) * w ≡ j * w + w
next_cell j w = ap (λ (n : ℕ). n * w) (add-one j) ∙ suc-mul j w

module _ (s d w : ℕ) (wide : 0 < w) (time : 1 ≤ d) where
  -- the cells of the first and of the last tick
  abbrev pub first_cell : ℕ
  first_cell = s / w

  abbrev pub last_cell : ℕ
  last_cell = (s + d - 1) / w

  -- for how many ticks of cell j it runs
  abbrev ticks : ℕ → ℕ
  ticks j = min (s + d) ((j + 1) * w) - max s (j * w)

  within : (j : ℕ) → first_cell ≤ j → j ≤ last_cell → 1 ≤ ticks j
  within j a b =
      let x : s < (j + 1) * w = (div-lt_iff_lt-mul wide).0 (omega arith) in
      let y : j * w ≤ s + d - 1 = (le-div_iff_mul-le wide).0 b in
      omega (arith, next_cell j w)

  runs_from : (j : ℕ) → 1 ≤ ticks j → first_cell ≤ j
  runs_from j h = let x : first_cell < j + 1 = (div-lt_iff_lt-mul wide).1 (omega arith) in omega arith

  runs_to : (j : ℕ) → 1 ≤ ticks j → j ≤ last_cell
  runs_to j h = (le-div_iff_mul-le wide).1 (omega arith)

  pub in_order : first_cell ≤ last_cell
  in_order = (le-div_iff_mul-le wide).1 (omega (arith, (le-div_iff_mul-le {x = first_cell} {y = s} wide).0 (omega arith)))

  -- the place after the cells that are marked
  abbrev pub past_cell : ℕ
  past_cell = first_cell + (last_cell - first_cell + 1)

  -- the cells that are marked are those in which it runs
  pub in_cells : (j : ℕ) → (leb first_cell j && ltb j past_cell) ≡ leb 1 (ticks j)
  in_cells j = same_test (leb first_cell j && ltb j past_cell) (leb 1 (ticks j)) runs marked
    where
      runs : Holds (leb first_cell j && ltb j past_cell) → Holds (leb 1 (ticks j))
      runs h =
          let t = parts (leb first_cell j) (ltb j past_cell) h in
          le→leb 1 (ticks j) (within j (leb→le first_cell j t.0) (omega (arith, ltb→lt j past_cell t.1, in_order)))

      marked : Holds (leb 1 (ticks j)) → Holds (leb first_cell j && ltb j past_cell)
      marked h =
          let k = leb→le 1 (ticks j) h in
          both (leb first_cell j) (ltb j past_cell) (le→leb first_cell j (runs_from j k))
          (lt→ltb j past_cell (omega (arith, runs_to j k, in_order)))

  -- in a page that it ends by, the last is one of the 64 cells
  pub last_within : (c : ℕ) → s + d ≤ c * w → last_cell < c
  last_within c h = (div-lt_iff_lt-mul wide).1 (omega arith)
