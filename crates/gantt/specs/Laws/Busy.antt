-- A processor runs within a cell exactly if it is busy in one of the cell's ticks, and each tick up to the last finish is in a cell.
use Rattle.std.specs.Prelude.{Bool, ◌&&◌, ◌≡◌, List, leb, eqb, T as Holds}
use Prim.Native.Nat.{ℕ, ◌+◌, ◌*◌, ◌/◌, ◌≤◌, ◌<◌, max}
use Rattle.std.proofs.Math.Nat.{div-mul-le_self}
use Rattle.std.proofs.Common.{div-lt_iff_lt-mul, le→leb, eqb→eq}
use native.Mathlib.Omega.{arith}
use Rattle.std.proofs.Math.Dec.{leb→le}
use Rattle.base.specs.Lists.{◌∈◌}
use Rattle.base.specs.Laws.Tests.{both, parts, eq→eqb}
use Rattle.base.specs.Laws.Lists.{any_of, any_one, greatest_ge}
use Rattle.etf.specs.Instance.{Instance, duration}
use Rattle.etf.specs.Schedule.{Placement, finish, last_finish}
use Rattle.etf.specs.Cover.{busy}
use Rattle.etf.proofs.Laws.Running.{running_of}
use Rattle.etf.proofs.Laws.Placements.{busy_in, busy_of}
use Rattle.gantt.specs.Page.{cells, width, ticks_within, runs_within}

module _ (I : Instance) (ps : List Placement) where
  -- how many ticks a cell has
  abbrev w : ℕ
  w = width (last_finish I ps)

  -- processor P runs in a tick of cell j
  abbrev pub runs_in_cell : ℕ → ℕ → Bool
  runs_in_cell P j = runs_within I ps P (j * w) ((j + 1) * w)

  -- a placed task does
  abbrev runs_in : ℕ → ℕ → Placement → Bool
  runs_in P j u = eqb u.processor P && leb 1 (ticks_within I (j * w) ((j + 1) * w) u)

  -- the 64 cells reach to the last finish
  wide_enough : last_finish I ps ≤ cells * w
  unfolding width
  wide_enough = omega arith

  -- the tick that the task and the cell share
  shared : (P j : ℕ) (u : Placement) → Holds (runs_in P j u)
      → (u.processor ≡ P) × (t : ℕ) × (u.start ≤ t) × (t < finish I u) × (j * w ≤ t) × (t < (j + 1) * w)
  unfolding ticks_within
  shared P j u h =
      let r = parts (eqb u.processor P) (leb 1 (ticks_within I (j * w) ((j + 1) * w) u)) h in
      let k = leb→le 1 (ticks_within I (j * w) ((j + 1) * w) u) r.1 in
      (eqb→eq u.processor P r.0, max u.start (j * w), omega arith, omega (arith, k), omega arith, omega (arith, k))

  -- the cell of a busy tick
  pub runs_at : (P t : ℕ) → Holds (busy I ps P t) → (t / w < cells) × Holds (runs_in_cell P (t / w))
  unfolding runs_within ticks_within last_finish
  runs_at P t h =
      let b = busy_of I ps P t h in
      let u = b.0 in
      let r = running_of u.start (duration I u.task) t b.3 in
      let in_time = greatest_ge (finish I) ps u b.1 in
      let wide : 0 < w = omega (arith, wide_enough, in_time, r.1) in
      let after : t < (t / w + 1) * w = (div-lt_iff_lt-mul wide).0 (omega arith) in
      let runs : 1 ≤ ticks_within I (t / w * w) ((t / w + 1) * w) u = omega (arith, r.0, r.1, after, div-mul-le_self t w) in (
        (div-lt_iff_lt-mul wide).1 (omega (arith, wide_enough, in_time, r.1)),
        any_of (runs_in P (t / w)) ps u b.1
            (both (eqb u.processor P) (leb 1 (ticks_within I (t / w * w) ((t / w + 1) * w) u)) (eq→eqb u.processor P b.2)
            (le→leb 1 (ticks_within I (t / w * w) ((t / w + 1) * w) u) runs)),
      )

  -- a busy tick of the cell
  pub busy_within : (P j : ℕ) → Holds (runs_in_cell P j) → (t : ℕ) × (j * w ≤ t) × (t < (j + 1) * w) × Holds (busy I ps P t)
  unfolding runs_within
  busy_within P j h =
      let z = any_one (runs_in P j) ps h in
      let s = shared P j z.0 z.2 in
      (s.1, s.4, s.5, busy_in I ps P s.1 z.0 z.1 s.0 s.2 s.3)

  -- whoever runs in a cell has a task
  pub task_within : (P j : ℕ) → Holds (runs_in_cell P j) → (u : Placement) × (u ∈ ps) × (u.processor ≡ P)
  unfolding runs_within
  task_within P j h = let z = any_one (runs_in P j) ps h in (z.0, z.1, (shared P j z.0 z.2).0)
