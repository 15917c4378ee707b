-- `small::tell`: before edge k the tasks were told what the edges `first` to before k tell; each turn adds one edge, which changes the task
-- that it goes to alone.
use mathlib.Core.Path.{◌≡◌, refl, ◌∙◌}
use mathlib.Core.List.{List}
use Prim.Native.Nat.{ℕ, ◌+◌, ◌-◌, ◌≤◌, ◌<◌}
use native.Mathlib.Omega.{arith}
use borrow.Author.Rules.{rules}
use lib.ListN.{length, get_or, set, length-set}
use Rattle.schedule.specs.SmallPass.{Told}
use Rattle.schedule.specs.Laws.Rows.Lifted.{Lifted, raised_to}
use Rattle.schedule.specs.Laws.Planner.Sending.{most_unsent, sum_unsent, still_waits, waits_less, latest_lifted}
use Rattle.schedule.proofs.small.tell.Goals as goal

module _ (first finish : ℕ) (to : List ℕ) where
  -- nothing is told yet
  begun : (waiting scratch : List ℕ) → Told first first finish to waiting scratch waiting scratch
  begun waiting scratch = record {
    waiting_at = λ T. omega (arith, sum_unsent to first T);
    latest_at = λ T h. omega (arith, most_unsent to first T (λ i. finish));
    kept = λ x h. refl;
  }

  -- the turn of edge k, which goes to task t
  turn : (k t : ℕ) (waiting scratch waiting₁ scratch₁ scratch₂ : List ℕ) → t ≡ get_or to k 0 → first ≤ k
      → Told first k finish to waiting scratch waiting₁ scratch₁ → Lifted t finish scratch₁ scratch₂
      → t < 256 → t < length waiting₁ → 1 ≤ get_or waiting₁ t 0
      → Told first (k + 1) finish to waiting scratch (set waiting₁ t (get_or waiting₁ t 0 - 1)) scratch₂
  turn k t waiting scratch waiting₁ scratch₁ scratch₂ e h s m b l w = record {
    waiting_at = λ T. waits_less first to k t e h waiting waiting₁ l w T (s.waiting_at T);
    latest_at = λ T q. latest_lifted first to k t e h finish scratch scratch₁ scratch₂ m T (s.latest_at T q);
    kept = λ x q. m.elsewhere x (λ z. absurd (omega arith)) ∙ s.kept x q;
  }

pub loop-k-init : goal.loop-k-init
loop-k-init c =
    record { waiting_size = c.told-waiting; scratch_size = refl; told = begun _ _ _ _ _ }

pub overflow_sub-waiting : goal.overflow_sub-waiting
overflow_sub-waiting c =
    still_waits _ _ _ _ c.from-t.ensures c.loop-k.auto.k _ c.args.waiting.now c.loop-k.waiting
    c.loop-k.invariant.told.waiting_at c.requires.enough c.loop-k-test.true

pub loop-k-preserved : goal.loop-k-preserved
loop-k-preserved c =
    let t = c.from-t.ensures in
    let v = c.loop-k.invariant in
    let heard : c.from-t.result < 256 = search rules in
    let waits = still_waits _ _ _ _ t c.loop-k.auto.k _ c.args.waiting.now c.loop-k.waiting
    v.told.waiting_at c.requires.enough c.loop-k-test.true in
    let raised = raised_to _ _ c.loop-k.scratch _ c.max.ensures (omega (arith, heard, v.scratch_size, c.requires.scratch_room)) in
    record {
      waiting_size = length-set c.loop-k.waiting c.from-t.result _ ∙ v.waiting_size;
      scratch_size = raised.size ∙ v.scratch_size;
      told = turn _ _ _ _ _ _ _ _ _ _ t c.loop-k.auto.k v.told raised heard (omega (arith, heard, v.waiting_size)) waits;
    }

pub returns : goal.returns
returns c =
    let e : c.loop-k.k ≡ c.args.done.last = omega (arith, c.requires.rises) in
    rw e at c.loop-k.invariant.told
