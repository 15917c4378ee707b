-- The page for the cabinet door (02 §3): a schedule drawn in one row a processor (01: board), lowest first.
use Rattle.std.specs.Prelude.{Bool, ◌&&◌, ℕ, ◌+◌, ◌-◌, ◌*◌, ◌/◌, ◌%◌, min, max, leb, ltb, eqb}
use mathlib.Core.List.{List, [], ◌∷◌, ◌++◌, map, flat_map}
use Rattle.base.specs.Choice.{pick}
use Rattle.base.specs.Lists.{upto, any}
use Rattle.base.specs.Text.{text, space}
use Rattle.etf.specs.Instance.{Instance}
use Rattle.etf.specs.Schedule.{Placement, finish, last_finish}

-- 02 §3: "64 cells"
abbrev pub cells : ℕ
cells = 64

-- 02 §3: "Let w be the last finish divided by 64, rounded up"
unfoldable pub width : ℕ → ℕ
width last = (last + (cells - 1)) / cells

-- a cell in which the processor runs a task, in ASCII a `#`, and one in which it runs none, a `.`
abbrev pub mark : ℕ
mark = 35

abbrev pub dot : ℕ
dot = 46

-- 02 §3: "the number in two columns, padded left with a space"; in ASCII the digits stand from 48 on
unfoldable pub columns : ℕ → List ℕ
columns P = pick (ltb P 10) space (48 + P / 10) ∷ (48 + P % 10) ∷ []

-- 02 §3: "the number in two columns ..; a space; a bar; 64 cells; a bar; a line feed"
unfoldable pub row : (ℕ → ℕ) → ℕ → List ℕ
row cell P = columns P ++ (text " |" ++ (map cell (upto cells) ++ text "|\n"))

-- 02 §3: "One row a board, lowest first"
unfoldable pub rows : (ℕ → ℕ → ℕ) → ℕ → List ℕ
rows cell n = flat_map (λ P. row (cell P) P) (upto n)

-- 02 §3: "That is 70 times n bytes, the length given"
abbrev pub page_length : ℕ → ℕ
page_length n = 70 * n

-- for how many ticks a placed task runs from tick `low` up to tick `high`
unfoldable pub ticks_within : Instance → ℕ → ℕ → Placement → ℕ
ticks_within I low high u = min (finish I u) high - max u.start low

module _ (I : Instance) (ps : List Placement) where
  -- 02 §3: "the board runs a step for at least one tick from .. up to .."
  unfoldable pub runs_within : ℕ → ℕ → ℕ → Bool
  runs_within P low high = any (λ u. eqb u.processor P && leb 1 (ticks_within I low high u)) ps

  -- 02 §3: "Cell j, counted from 0, is `#` if the board runs a step for at least one tick from j times w up to (j + 1) times w, else `.`"
  unfoldable pub cell : ℕ → ℕ → ℕ → ℕ
  cell w P j = pick (runs_within P (j * w) ((j + 1) * w)) mark dot

  -- the page of a schedule
  unfoldable pub page : List ℕ
  page = rows (cell (width (last_finish I ps))) I.processors
