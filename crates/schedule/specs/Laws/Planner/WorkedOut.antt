-- The arrival of a task worked out along its edges: up to an edge into it, one edge more, and that an edge's messages do not come after it.
use Rattle.std.specs.Prelude.{◌≡◌, List, [], ℕ, ◌+◌, ◌*◌, ◌-◌, ◌≤◌, ◌<◌, max, eqb, length, get_or}
use Rattle.std.proofs.Common.{arith}
use Rattle.base.specs.Rows.{most}
use Rattle.base.specs.Laws.Tests.{pick_yes, pick_no, eq→eqb, ne→neqb}
use Rattle.base.specs.Laws.Most.{most_ge, most_more, most_cut}
use Rattle.graph.specs.Graph.{NextTo}
use Rattle.etf.specs.Bounds.{most_message_time, most_finish}
use Rattle.schedule.specs.SmallPass.{Sources, Known, Walkable, sent_at, sent_for, worked_out}

-- ---- up to an edge

module _ (S : Sources) (T P : ℕ) where
  -- of an edge into T, and of another
  sent_for_lem : (k : ℕ) → get_or S.to k 0 ≡ T → sent_for S T P k ≡ sent_at S P k
  unfolding sent_for
  sent_for_lem k e = pick_yes (eqb (get_or S.to k 0) T) (sent_at S P k) 0 (eq→eqb (get_or S.to k 0) T e)

  unsent : (k : ℕ) → (get_or S.to k 0 ≡ T → ⊥) → sent_for S T P k ≡ 0
  unfolding sent_for
  unsent k n = pick_no (eqb (get_or S.to k 0) T) (sent_at S P k) 0 (ne→neqb (get_or S.to k 0) T n)

  -- no edge from k to before r goes to T
  most_next : (l k r : ℕ) → NextTo S.to l T k r → most r (sent_for S T P) ≡ most k (sent_for S T P)
  most_next l k r N = most_cut r k (sent_for S T P) N.from (λ i p q. unsent i (N.misses i p q))

  -- before the first edge into T
  pub most_first : (l r : ℕ) → NextTo S.to l T 0 r → most r (sent_for S T P) ≡ 0
  unfolding most
  most_first l r N = most_next l 0 r N

  -- past edge k, which goes to T, up to the next one
  pub most_past : (l k r before after : ℕ) → get_or S.to k 0 ≡ T → NextTo S.to l T (k + 1) r
      → before ≡ most k (sent_for S T P) → after ≡ max before (sent_at S P k) → after ≡ most r (sent_for S T P)
  most_past l k r before after e N b a = omega (arith, most_next l (k + 1) r N, most_more k (sent_for S T P), sent_for_lem k e)

  -- the messages of each edge into T are there when it arrives
  pub sent_most : (k : ℕ) → k < S.edges → get_or S.to k 0 ≡ T → sent_at S P k ≤ worked_out S T P
  unfolding worked_out
  sent_most k h e = omega (arith, most_ge S.edges (sent_for S T P) k h, sent_for_lem k e)

-- ---- going through the edges into a task

-- edge k goes to T, or there are no edges left
pub record Into (S : Sources) (T k : ℕ) : Type 0 where
  pub within : k ≤ S.edges
  pub hits : k < S.edges → get_or S.to k 0 ≡ T

module _ (S : Sources) (next : List ℕ) (T first : ℕ) (W : Walkable S next T first) where
  pub into_first : Into S T first
  into_first = record { within = W.begins.within; hits = W.begins.hits }

  module _ (k : ℕ) (v : Into S T k) (h : k < S.edges) where
    -- what is known of edge k
    pub known_into : Known S.from S.counts S.costs S.processors S.scratch k
    known_into = W.known k h (v.hits h)

    -- the next edge into T
    pub next_into : NextTo S.to S.edges T (k + 1) (get_or next k 0)
    next_into = rw (v.hits h) at (W.goes_on k h)

    pub into_next : Into S T (get_or next k 0)
    into_next = record { within = next_into.within; hits = next_into.hits }

    pub next_less : S.edges - get_or next k 0 < S.edges - k
    next_less = omega (arith, next_into.from)

-- ---- what is sent along edge k

module _ (S : Sources) (k finish messages : ℕ) (row : List ℕ) (f : finish ≡ get_or S.scratch (256 + get_or S.from k 0) 0)
    (m : messages ≡ get_or S.counts k 0) (r : row ≡ get_or S.costs (get_or S.processors (get_or S.from k 0) 0) []) where
  pub sent_at_lem : (P : ℕ) → finish + messages * get_or row P 0 ≡ sent_at S P k
  unfolding sent_at
  sent_at_lem P = rw (f, m, r)

  module _ (K : Known S.from S.counts S.costs S.processors S.scratch k) where
    pub sent_row : length row ≡ 16
    sent_row = rw r K.row_size

    pub sent_in_time : (finish ≤ most_finish) × ((P : ℕ) → messages * get_or row P 0 ≤ most_message_time)
    sent_in_time = (rw f K.in_time, λ P. rw (m, r) (K.near P))
