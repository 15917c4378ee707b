-- `checker::misplaced`: the tasks that are left have the first trouble of all, as long as none was met.
use mathlib.Core.Path.{◌≡◌, sym, ◌∙◌}
use mathlib.Core.List.{List}
use Prim.Native.Nat.{ℕ, ◌+◌, ◌-◌, ◌≤◌, ◌<◌}
use native.Mathlib.Omega.{arith}
use lib.ListN.{get_or}
use Rattle.etf.specs.Checker.{latest_start}
use Rattle.schedule.specs.Pass.{place_troubles}
use Rattle.schedule.specs.Laws.Checker.Answer.{all_tasks_left, no_task_left, no_processor, too_late, well_placed}
use Rattle.schedule.proofs.checker.misplaced.Goals as goal

-- task t, by its processor p
module _ (n m t : ℕ) (starts processors : List ℕ) (h : t < m) (all p : ℕ)
    (inv : place_troubles n starts processors t (m - t) ≡ all) (p-is : p ≡ get_or processors t 0) where
  ten : n ≤ p → 10 ≡ all
  ten a = sym (no_processor n starts processors t m h (omega arith)) ∙ inv

  eleven : p < n → latest_start < get_or starts t 0 → 11 ≡ all
  eleven a b = sym (too_late n starts processors t m h (omega arith) b) ∙ inv

  neither : p < n → get_or starts t 0 ≤ latest_start → place_troubles n starts processors (t + 1) (m - (t + 1)) ≡ all
  neither a b = sym (well_placed n starts processors t m h (omega arith) b) ∙ inv

pub loop-t-init : goal.loop-t-init
loop-t-init c = all_tasks_left _ _ _ _

pub returns-then-instance-from : goal.returns-then-instance-from
returns-then-instance-from c =
    ten _ _ _ _ _ c.loop-t-test.true _ _ c.loop-t.invariant c.from.ensures (omega (arith, c.if-instance-from.true))

pub returns-then-plan-t-gt600000000 : goal.returns-then-plan-t-gt600000000
returns-then-plan-t-gt600000000 c =
    eleven _ _ _ _ _ c.loop-t-test.true _ _ c.loop-t.invariant c.from.ensures (omega (arith, c.if-instance-from.false))
    (omega (arith, c.if-plan-t-gt600000000.true))

pub loop-t-preserved : goal.loop-t-preserved
loop-t-preserved c =
    neither _ _ _ _ _ c.loop-t-test.true _ _ c.loop-t.invariant c.from.ensures (omega (arith, c.if-instance-from.false))
    (omega (arith, c.if-plan-t-gt600000000.false))

pub returns : goal.returns
returns c = sym (no_task_left _ _ _ _ _ c.loop-t-test.false) ∙ c.loop-t.invariant
