-- What a fitter reads off a page: it has 70 n bytes, a cell is marked exactly if the processor runs in one of its ticks.
use Rattle.std.specs.Prelude.{Bool, true, false, ◌⊎◌, ◌≡◌, List, ℕ, ◌+◌, ◌*◌, ◌/◌, ◌≤◌, ◌<◌, T as Holds, length, get_or}
use Rattle.std.proofs.Common.{inl, inr, sym, ◌∙◌, arith}
use Rattle.base.specs.Choice.{pick}
use Rattle.base.specs.Lists.{◌∈◌}
use Rattle.base.specs.Laws.Tests.{fails, pick_yes, pick_no}
use Rattle.etf.specs.Instance.{Instance}
use Rattle.etf.specs.Schedule.{Placement, last_finish}
use Rattle.etf.specs.Cover.{busy}
use Rattle.gantt.specs.Page.{cells, width, mark, dot, page_length, cell, page}
use Rattle.gantt.specs.Laws.Layout.{rows_size, rows_at}
use Rattle.gantt.specs.Laws.Busy.{runs_in_cell, runs_at, busy_within, task_within}

-- a cell by its test: marked if that holds, else a dot
marked_test : (b : Bool) → pick b mark dot ≡ mark → Holds b
marked_test true e = tt
marked_test false e = absurd (omega (arith, e))

mark_or_dot : (b : Bool) {x : ℕ} → x ≡ pick b mark dot → (x ≡ mark) ⊎ (x ≡ dot)
mark_or_dot true e = inl e
mark_or_dot false e = inr e

module _ (I : Instance) (ps : List Placement) where
  -- how many ticks a cell has
  abbrev w : ℕ
  w = width (last_finish I ps)

  -- the byte of the page that is cell j of processor P
  abbrev pub cell_at : ℕ → ℕ → ℕ
  cell_at P j = get_or (page I ps) (70 * P + (4 + j)) 0

  -- 02 §3: "That is 70 times n bytes"
  pub page_length_lem : length (page I ps) ≡ page_length I.processors
  unfolding page
  page_length_lem = rows_size (cell I ps w) I.processors

  -- the cell stands there
  pub cell_stands : (P j : ℕ) → P < I.processors → j < cells → cell_at P j ≡ cell I ps w P j
  unfolding page
  cell_stands P j p h = rows_at (cell I ps w) I.processors P j p h

  -- a tick in which a processor runs is in a cell that is marked
  pub busy_marked : (P t : ℕ) → P < I.processors → Holds (busy I ps P t) → (t / w < cells) × (cell_at P (t / w) ≡ mark)
  unfolding cell
  busy_marked P t p h =
      let r = runs_at I ps P t h in
      (r.0, cell_stands P (t / w) p r.0 ∙ pick_yes (runs_in_cell I ps P (t / w)) mark dot r.1)

  -- a marked cell has a tick in which the processor runs
  pub marked_busy : (P j : ℕ) → P < I.processors → j < cells → cell_at P j ≡ mark
      → (t : ℕ) × (j * w ≤ t) × (t < (j + 1) * w) × Holds (busy I ps P t)
  unfolding cell
  marked_busy P j p h is = busy_within I ps P j (marked_test (runs_in_cell I ps P j) (sym (cell_stands P j p h) ∙ is))

  -- and one that is not marked is a dot
  pub marked_or_dot : (P j : ℕ) → P < I.processors → j < cells → (cell_at P j ≡ mark) ⊎ (cell_at P j ≡ dot)
  unfolding cell
  marked_or_dot P j p h = mark_or_dot (runs_in_cell I ps P j) (cell_stands P j p h)

  -- a processor that runs nothing has no mark
  pub idle_unmarked : (P : ℕ) → P < I.processors → ((u : Placement) → u ∈ ps → ¬ (u.processor ≡ P)) → (j : ℕ) → j < cells
      → cell_at P j ≡ dot
  unfolding cell
  idle_unmarked P p none j h =
      cell_stands P j p h
      ∙ pick_no (runs_in_cell I ps P j) mark dot
      (fails (runs_in_cell I ps P j) (λ t. let z = task_within I ps P j t in none z.0 z.1 z.2))
