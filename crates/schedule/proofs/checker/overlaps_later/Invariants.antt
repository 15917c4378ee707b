-- `checker::overlaps_later`: an overlap was counted, or the later tasks that are left have one, exactly if all of them have.
use mathlib.Core.Path.{◌≡◌}
use mathlib.Core.Bool.{not, ◌||◌}
use mathlib.Core.List.{List}
use Prim.Native.Nat.{ℕ, ◌-◌, ◌≤◌, ◌<◌}
use lib.Dec.{eqb}
use Rattle.schedule.specs.Pass.{some_in_places, overlap_at, overlaps_later}
use Rattle.schedule.proofs.checker.overlaps_later.Given as goal

-- so many overlaps were counted: there is one, or one is among the tasks from u on, exactly if task t overlaps a later one
pub record Going (durations starts processors : List ℕ) (m t found u : ℕ) : Type 0 where
  pub past : t < u
  pub within : u ≤ m
  pub few : found ≤ u
  pub counted : (not (eqb found 0) || some_in_places (overlap_at durations starts processors t) u (m - u))
      ≡ overlaps_later durations starts processors m t

abbrev pub invariant-loop-u : goal.invariant-loop-u
invariant-loop-u l = Going l.table.instance.durations.now l.table.plan.starts.now l.table.plan.processors.now l.table.instance.tasks l.t
    l.found l.u
