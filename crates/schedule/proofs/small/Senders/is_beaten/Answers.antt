-- `Senders::is_beaten`: the loop goes through the edges into the task; where the messages of one are at no free processor before `start`,
-- the arrivals are not either.
use mathlib.Core.Path.{◌≡◌}
use mathlib.Core.List.{List}
use Prim.Native.Nat.{ℕ, ◌+◌, ◌*◌, ◌≤◌, ◌<◌}
use native.Mathlib.Omega.{arith}
use lib.ListN.{get_or}
use Rattle.base.specs.Laws.Tests.{impossible}
use Rattle.schedule.specs.SmallPass.{Sources, sources_of, sent_at, worked_out}
use Rattle.schedule.specs.Laws.Planner.WorkedOut.{Into, into_first, known_into, into_next, next_less}
use Rattle.schedule.specs.Laws.Planner.WorkedOut.{sent_most, sent_at_lem, sent_in_time}
use Rattle.schedule.proofs.small.Senders.is_beaten.Goals as goal

-- the messages of edge k, which goes to T, are late
beaten : (S : Sources) (T k start finish messages : ℕ) (costs free : List ℕ) (count : ℕ) → Into S T k → k < S.edges
    → ((P : ℕ) → finish + messages * get_or costs P 0 ≡ sent_at S P k)
    → ((i : ℕ) → i < count → start ≤ finish + messages * get_or costs (get_or free i 0) 0)
    → (i : ℕ) → i < count → start ≤ worked_out S T (get_or free i 0)
beaten S T k start finish messages costs free count v h s late i b =
    omega (arith, late i b, s (get_or free i 0), sent_most S T (get_or free i 0) k h (v.hits h))

pub loop-k-init : goal.loop-k-init
loop-k-init c =
    rw c.from-k.ensures (into_first _ _ _ _ c.requires.walkable.1)

pub sent-bundle-requires : goal.sent-bundle-requires
sent-bundle-requires c =
    known_into _ _ _ _ c.requires.walkable.1 _ c.loop-k.invariant c.loop-k-test.true

pub is_late-requires : goal.is_late-requires
is_late-requires c =
    let sent = c.sent-bundle.ensures in
    record {
      free_in_bounds = c.requires.free_in_bounds;
      finish_le_most_finish =
          sent_in_time (sources_of c.args.self.now) _ _ _ _ sent.finish_value sent.messages_value sent.row_value
          (known_into _ _ _ _ c.requires.walkable.1 _ c.loop-k.invariant c.loop-k-test.true);
    }

pub returns-then-is_late : goal.returns-then-is_late
returns-then-is_late c =
    let sent = c.sent-bundle.ensures in
    λ _. beaten _ _ _ _ _ _ c.sent-bundle.result.row c.args.free.now _
    c.loop-k.invariant c.loop-k-test.true
    (sent_at_lem (sources_of c.args.self.now) _ _ _ _ sent.finish_value sent.messages_value sent.row_value)
    (c.is_late.ensures c.if-is_late.true)

pub loop-k-smaller : goal.loop-k-smaller
loop-k-smaller c =
    let less = next_less _ _ _ _ c.requires.walkable.1 _ c.loop-k.invariant c.loop-k-test.true in
    rw c.from-k-in-loop-k.ensures less

pub loop-k-preserved : goal.loop-k-preserved
loop-k-preserved c =
    rw c.from-k-in-loop-k.ensures (into_next _ _ _ _ c.requires.walkable.1 _ c.loop-k.invariant c.loop-k-test.true)

pub returns : goal.returns
returns c =
    λ e. impossible e
