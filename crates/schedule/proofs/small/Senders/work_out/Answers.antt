-- `Senders::work_out`: before edge k, which goes to the task, the row has the arrivals by the edges before it; a turn goes on to the next
-- edge into the task, and the edges between send it nothing.
use mathlib.Core.Path.{◌≡◌, refl, sym, ◌∙◌}
use mathlib.Core.List.{List}
use Prim.Native.Nat.{ℕ, ◌+◌, ◌*◌, ◌≤◌, ◌<◌, max}
use native.Mathlib.Omega.{arith}
use lib.ListN.{length, get_or, replicate}
use Rattle.base.specs.Laws.Lists.{zeros_at}
use Rattle.schedule.specs.Handed.{plannable}
use Rattle.schedule.specs.Pass.{Raised}
use Rattle.schedule.specs.SmallPass.{Sources, sources_of, Walkable, sent_at, worked_out}
use Rattle.schedule.specs.Laws.Planner.WorkedOut.{into_first, known_into, next_into, into_next, next_less}
use Rattle.schedule.specs.Laws.Planner.WorkedOut.{most_first, most_past, sent_at_lem, sent_in_time}
use Rattle.schedule.proofs.small.Senders.work_out.Invariants.{Going}
use Rattle.schedule.proofs.small.Senders.work_out.Goals as goal

module _ (S : Sources) (next : List ℕ) (T n first : ℕ) (W : Walkable S next T first) where
  begun : Going S T n (replicate 16 0) first
  begun = record {
    size = refl;
    into = into_first S next T first W;
    so_far = λ P h. zeros_at 16 P ∙ sym (most_first S T P S.edges first W.begins);
  }

  -- the turn of edge k
  turn : (k k' finish messages : ℕ) (costs row row' : List ℕ) → Going S T n row k → k < S.edges
      → ((P : ℕ) → finish + messages * get_or costs P 0 ≡ sent_at S P k) → Raised n 0 finish messages costs row row'
      → length row' ≡ length row → k' ≡ get_or next k 0 → Going S T n row' k'
  turn k k' finish messages costs row row' v h s r l e = rw e (record {
    size = l ∙ v.size;
    into = into_next S next T first W k v.into h;
    so_far = λ P p. most_past S T P S.edges k (get_or next k 0) (get_or row P 0) (get_or row' P 0) (v.into.hits h)
        (next_into S next T first W k v.into h) (v.so_far P p) (raised P p);
  })
    where
      raised : (P : ℕ) → P < n → get_or row' P 0 ≡ max (get_or row P 0) (sent_at S P k)
      raised P p = let z : 16 * 0 + P ≡ P = omega arith in omega (arith, rw z at (r.in_row P p), s P)

-- no edge is left
ended : (S : Sources) (T n : ℕ) (row : List ℕ) (k : ℕ) → Going S T n row k → S.edges ≤ k
    → (length row ≡ 16) × ((P : ℕ) → P < n → get_or row P 0 ≡ worked_out S T P)
unfolding worked_out
ended S T n row k v h = let e : k ≡ S.edges = omega (arith, v.into.within) in (v.size, rw e at v.so_far)

pub loop-edge-init : goal.loop-edge-init
loop-edge-init c =
    rw c.from-edge.ensures (begun _ _ _ _ _ c.requires.1)

pub sent-bundle-requires : goal.sent-bundle-requires
sent-bundle-requires c =
    known_into _ _ _ _ c.requires.1 _ c.loop-edge.invariant.into c.loop-edge-test.true

pub raise-requires : goal.raise-requires
raise-requires c =
    let K = known_into _ _ _ _ c.requires.1 _ c.loop-edge.invariant.into c.loop-edge-test.true in
    let few = (plannable c.args.self.now.instance.now).few_processors in
    let sent = c.sent-bundle.ensures in
    record {
      task_bound = (omega arith, few, omega (arith, few, c.loop-edge.invariant.size));
      finish_le_most_finish =
          sent_in_time (sources_of c.args.self.now) _ _ _ _ sent.finish_value sent.messages_value sent.row_value K;
    }

pub loop-edge-smaller : goal.loop-edge-smaller
loop-edge-smaller c =
    let less = next_less _ _ _ _ c.requires.1 _ c.loop-edge.invariant.into c.loop-edge-test.true in
    rw c.from-edge-in-loop-edge.ensures less

pub loop-edge-preserved : goal.loop-edge-preserved
loop-edge-preserved c =
    let sent = c.sent-bundle.ensures in
    turn _ _ _ _ _ c.requires.1 _ _ _ _ _ _ _ c.loop-edge.invariant c.loop-edge-test.true
    (sent_at_lem (sources_of c.args.self.now) _ _ _ _ sent.finish_value sent.messages_value sent.row_value)
    c.raise.ensures c.raise.auto.arrivals c.from-edge-in-loop-edge.ensures

pub returns : goal.returns
returns c =
    ended _ _ _ _ _ c.loop-edge.invariant c.loop-edge-test.false
