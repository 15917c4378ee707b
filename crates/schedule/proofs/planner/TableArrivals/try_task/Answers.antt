-- `Table::try_task`: the task's row of the arrivals is the part that begins at place 16T.
use mathlib.Core.Path.{◌≡◌, ap, ◌∙◌}
use mathlib.Core.List.{List}
use Prim.Native.Nat.{ℕ, ◌+◌, ◌*◌, ◌-◌, ◌≤◌, ◌<◌}
use native.Mathlib.Omega.{arith}
use lib.ListN.{length, get_or, take, drop}
use lib.Seq.{get_or-take, get_or-drop}
use Rattle.schedule.specs.Pass.{first_best, row_by, table_arrival}
use Rattle.schedule.specs.Laws.Planner.SearchSteps.{row_by_same}
use Rattle.schedule.proofs.planner.TableArrivals.try_task.Goals as goal

-- what is read off the part of the arrivals that begins with the row
row_part : (arrivals : List ℕ) (T P : ℕ) → T < 256 → P < 16 → 4096 ≤ length arrivals
    → get_or (take (length arrivals - 16 * T) (drop (16 * T) arrivals)) P 0 ≡ get_or arrivals (16 * T + P) 0
row_part arrivals T P t p room =
    get_or-take (length arrivals - 16 * T) (drop (16 * T) arrivals) P 0 (omega arith) ∙ get_or-drop (16 * T) arrivals P 0

row_is : (clock : ℕ) (arrivals free : List ℕ) (T : ℕ) → T < 256 → 4096 ≤ length arrivals
    → ((i : ℕ) → i < length free → get_or free i 0 < 16)
    → row_by clock (λ P. get_or (take (length arrivals - 16 * T) (drop (16 * T) arrivals)) P 0) free (length free) T
    ≡ row_by clock (table_arrival arrivals T) free (length free) T
row_is clock arrivals free T t room low =
    row_by_same clock (λ P. get_or (take (length arrivals - 16 * T) (drop (16 * T) arrivals)) P 0) (table_arrival arrivals T)
    free (length free) T (λ i h. row_part arrivals T (get_or free i 0) t (low i h) room)

pub returns : goal.returns
returns c =
    c.try_row.ensures ∙ ap (first_best _) (row_is _ _ _ _ c.requires.may_try.0.0 c.requires.may_try.0.1 c.requires.free_in_bounds)
