-- `planner::send`: before edge k what was sent is what the edges `first` to before k send; each turn adds one edge, which changes the task
-- that it goes to alone.
use mathlib.Core.Path.{◌≡◌, refl, ◌∙◌}
use Prim.Native.Nat.{ℕ, ◌*◌, ◌≤◌, ◌<◌}
use native.Mathlib.Omega.{arith}
use borrow.Author.Rules.{rules}
use lib.ListN.{get_or, length-set}
use Rattle.etf.specs.Bounds.{most_message_time}
use Rattle.schedule.specs.Laws.Rows.Lifted.{raised_to}
use Rattle.schedule.specs.Laws.Planner.Sending.{still_waits}
use Rattle.schedule.proofs.planner.send.Invariants.{begun, turn}
use Rattle.schedule.proofs.planner.send.Goals as goal

pub loop-k-init : goal.loop-k-init
loop-k-init c = record {
  arrivals_size = refl;
  waiting_size = c.told-waiting;
  latest_size = c.told-latest;
  sent = begun _ _ _ _ _ _ _;
}

pub raise-requires : goal.raise-requires
raise-requires c =
    let near : (P : ℕ) → c.from-count.result * get_or c.args.row.now P 0 ≤ most_message_time =
    λ P. rw c.from-count.ensures (c.requires.near c.loop-k.k P c.loop-k-test.true) in
    record {
      task_bound = (search rules, c.requires.few_processors, search rules);
      finish_le_most_finish = (c.requires.in_time, near);
    }

pub overflow_sub-waiting : goal.overflow_sub-waiting
overflow_sub-waiting c =
    still_waits _ _ _ _ c.from-t.ensures c.loop-k.auto.k _ c.args.waiting.now c.loop-k.waiting
    c.loop-k.invariant.sent.waiting_at c.requires.enough c.loop-k-test.true

pub loop-k-preserved : goal.loop-k-preserved
loop-k-preserved c =
    let t = c.from-t.ensures in
    let v = c.loop-k.invariant in
    let heard : c.from-t.result < 256 = search rules in
    let waits = still_waits _ _ _ _ t c.loop-k.auto.k _ c.args.waiting.now c.loop-k.waiting
    v.sent.waiting_at c.requires.enough c.loop-k-test.true in
    let lifted = raised_to _ _ c.loop-k.latest _ c.max.ensures (omega (arith, heard, v.latest_size)) in
    record {
      arrivals_size = c.raise.auto.arrivals ∙ v.arrivals_size;
      waiting_size = length-set c.loop-k.waiting c.from-t.result _ ∙ v.waiting_size;
      latest_size = lifted.size ∙ v.latest_size;
      sent = turn _ _ _ _ _ _ _ _ t c.loop-k.auto.k _ _ _ _ _
          c.from-count.ensures v.sent c.raise.ensures lifted
          c.requires.few_processors (omega (arith, heard, v.waiting_size)) waits;
    }

pub returns : goal.returns
returns c =
    let e : c.loop-k.k ≡ c.args.done.last = omega (arith, c.requires.rises) in
    rw e at c.loop-k.invariant.sent
