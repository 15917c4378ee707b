-- `chains::dearest`: before edge k the array has for each task the dearest chain whose last edge is one of the first k.
-- No edge from edge k on goes to the source of edge k, as sources rise and each edge goes up: the entry there is whole. It is at most the
-- greatest message time for each task number below it.
use mathlib.Core.Path.{◌≡◌, ap, sym, ◌∙◌}
use mathlib.Core.Logic.{◌⊎◌, inl, inr}
use mathlib.Core.List.{List}
use Prim.Native.Nat.{ℕ, ◌+◌, ◌*◌, ◌≤◌, ◌<◌, max}
use native.Mathlib.Omega.{arith}
use lib.Dec.{eqb, eqb→eq}
use lib.ListN.{length, get_or, replicate}
use Rattle.base.specs.Choice.{pick}
use Rattle.base.specs.Rows.{most}
use Rattle.base.specs.Laws.Tests.{eq→eqb, fails, pick_yes, pick_no, same_or_not}
use Rattle.base.specs.Laws.Lists.{zeros_at}
use Rattle.base.specs.Laws.Most.{most_cut, most_more, none_yet, one_place}
use Rattle.etf.specs.Bounds.{most_message_time, most_chain}
use Rattle.schedule.specs.CoverPass.{chain_by, chain_to, dearest_in}
use Rattle.schedule.specs.Laws.Rows.Lifted.{Lifted}
use Rattle.schedule.specs.Laws.Walk.DearestChain.{one_more}
use Rattle.schedule.proofs.chains.dearest.Given as goal

module _ (from to counts : List ℕ) (l cost : ℕ) where
  -- what the dearest chain takes whose last edge is edge i
  abbrev pub by : ℕ → ℕ
  by = chain_by from counts cost (chain_to from to counts l cost 256)

  -- where that edge goes to task T; of another edge 0
  abbrev pub into : ℕ → ℕ → ℕ
  into T i = pick (eqb (get_or to i 0) T) (by i) 0

  -- the sums over the first k edges, and the greatest
  pub record Summed (k : ℕ) (sums : List ℕ) (top : ℕ) : Type 0 where
    pub size : length sums ≡ 256
    pub small : (T : ℕ) → T < 256 → get_or sums T 0 ≤ most_message_time * T
    pub low : top ≤ most_chain
    pub each : (T : ℕ) → T < 256 → get_or sums T 0 ≡ most k (into T)
    pub greatest : top ≡ most k by

  pub begun : (sums : List ℕ) → sums ≡ replicate 256 0 → Summed 0 sums 0
  begun sums e = record {
    size = ap length e;
    small = λ T h. omega (arith, zero T);
    low = omega arith;
    each = λ T h. zero T ∙ none_yet (into T);
    greatest = none_yet by;
  }
    where
      zero : (T : ℕ) → get_or sums T 0 ≡ 0
      zero T = ap (λ (s : List ℕ). get_or s T 0) e ∙ zeros_at 256 T

  pub done : {k top : ℕ} {sums : List ℕ} → k ≡ l → Summed k sums top → top ≡ dearest_in from to counts l cost
  unfolding dearest_in
  done e S = rw e at S.greatest

  -- what is asked of the edges
  pub record Asked : Type 0 where
    pub rising : (i k : ℕ) → i ≤ k → k < l → get_or from i 0 ≤ get_or from k 0
    pub up : (k : ℕ) → k < l → (get_or from k 0 < get_or to k 0) × (get_or to k 0 < 256)
    pub near : (k : ℕ) → k < l → get_or counts k 0 * cost ≤ most_message_time

  -- the turn of edge k, which has `count` messages and comes from task s
  module _ (G : Asked) {k : ℕ} {sums : List ℕ} {top : ℕ} (S : Summed k sums top) (h : k < l)
      {s count : ℕ} (es : s ≡ get_or from k 0) (ec : count ≡ get_or counts k 0) where
    pub source_below : s < 256
    source_below = omega (arith, G.up k h)

    -- what its messages take, and the sum with them, have 32 bits
    pub messages_fit : count * cost ≤ most_message_time
    messages_fit = rw ec (G.near k h)

    pub by_target : get_or sums s 0 + count * cost ≤ most_message_time * get_or to k 0
    by_target = omega (arith, messages_fit, G.up k h, S.small s source_below)

    pub sum_fits : get_or sums s 0 + count * cost ≤ most_chain
    sum_fits = omega (arith, by_target, G.up k h)

    -- the entry of its source is whole
    pub whole : get_or sums s 0 ≡ chain_to from to counts l cost 256 s
    whole =
        S.each s source_below
        ∙ sym (one_more from to counts l cost (λ i b. (G.up i b).0) s source_below ∙ most_cut l k (into s) (omega arith) past)
      where
        past : (i : ℕ) → k ≤ i → i < l → into s i ≡ 0
        past i a b =
            pick_no (eqb (get_or to i 0) s) (by i) 0
            (fails (eqb (get_or to i 0) s) (λ t. absurd (omega (arith, eqb→eq (get_or to i 0) s t, G.rising k i a b, G.up i b))))

    module _ {x : ℕ} (is : x ≡ get_or sums s 0 + count * cost) where
      pub is_chain : x ≡ by k
      unfolding chain_by
      is_chain = is ∙ rw (← es, ← ec, whole)

      pub more : {t top' : ℕ} {after : List ℕ} → t ≡ get_or to k 0 → Lifted t x sums after → top' ≡ max top x → Summed (k + 1) after top'
      more {t} {top'} {after} e m d = record {
        size = m.size ∙ S.size;
        small = λ T b. bound T b (same_or_not T t);
        low = omega (arith, S.low, sum_fits);
        each = λ T b. entry T b (same_or_not T t);
        greatest = one_place by k top top' S.greatest (omega (arith, is_chain));
      }
        where
          bound : (T : ℕ) → T < 256 → (T ≡ t) ⊎ (T ≡ t → ⊥) → get_or after T 0 ≤ most_message_time * T
          bound T b (inl q) = rw q (omega (arith, m.here, by_target, S.small t (omega arith)))
          bound T b (inr q) = omega (arith, m.elsewhere T q, S.small T b)

          entry : (T : ℕ) → T < 256 → (T ≡ t) ⊎ (T ≡ t → ⊥) → get_or after T 0 ≡ most (k + 1) (into T)
          entry T b (inl q) =
              rw q (omega (
                arith,
                m.here,
                S.each t (omega arith),
                is_chain,
                most_more k (into t),
                pick_yes (eqb (get_or to k 0) t) (by k) 0 (eq→eqb (get_or to k 0) t (sym e)),
              ))
          entry T b (inr q) =
              omega (
                arith,
                m.elsewhere T q,
                S.each T b,
                most_more k (into T),
                pick_no (eqb (get_or to k 0) T) (by k) 0 (fails (eqb (get_or to k 0) T) (λ z. q (sym (e ∙ eqb→eq (get_or to k 0) T z)))),
              )

abbrev pub invariant-loop-k : goal.invariant-loop-k
invariant-loop-k l = Summed l.instance.from.now l.instance.to.now l.instance.counts.now l.instance.edges l.cost l.k l.sums l.most
