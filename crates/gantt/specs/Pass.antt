-- What private functions promise one another.
use Rattle.std.specs.Prelude.{Bool, ◌&&◌, List, ℕ, ◌+◌, ◌-◌, ◌*◌, ◌^◌, ◌≤◌, ◌<◌, min, max, leb, eqb, length, get_or}
use Rattle.base.specs.Choice.{pick}
use Rattle.base.specs.Lists.{upto, any}
use Rattle.gantt.specs.Page.{cells, mark, dot}

-- a plan in arrays that can be drawn in cells of width w: its tasks are there, take time, stand on a processor below n and end in time
pub record Drawable (n tasks w : ℕ) (durations starts processors : List ℕ) : Type 0 where
  pub durations_there : tasks ≤ length durations
  pub starts_there : tasks ≤ length starts
  pub processors_there : tasks ≤ length processors
  pub on_processor : (T : ℕ) → T < tasks → get_or processors T 0 < n
  pub takes_time : (T : ℕ) → T < tasks → 1 ≤ get_or durations T 0
  pub in_time : (T : ℕ) → T < tasks → get_or starts T 0 + get_or durations T 0 ≤ cells * w
  pub small : cells * w < 2 ^ 32

module _ (w : ℕ) (durations starts processors : List ℕ) where
  -- task T of the arrays runs on processor P for a tick of cell j
  unfoldable pub marks : ℕ → ℕ → ℕ → Bool
  marks P j T =
      eqb (get_or processors T 0) P
      && leb 1 (min (get_or starts T 0 + get_or durations T 0) ((j + 1) * w) - max (get_or starts T 0) (j * w))

  -- the cells by the first t tasks
  unfoldable pub cells_by : ℕ → ℕ → ℕ → ℕ
  cells_by t P j = pick (any (marks P j) (upto t)) mark dot
