-- `planner::send`: before edge k what was sent is what the edges `first` to before k send; each turn adds one edge, which changes the task
-- that it goes to alone.
use mathlib.Core.Path.{◌≡◌, refl, sym, ◌∙◌}
use mathlib.Core.Logic.{◌⊎◌, inl, inr}
use mathlib.Core.List.{List}
use Prim.Native.Nat.{ℕ, ◌+◌, ◌*◌, ◌-◌, ◌≤◌, ◌<◌, max}
use native.Mathlib.Omega.{arith}
use lib.ListN.{length, get_or, set}
use Rattle.base.specs.Choice.{pick}
use Rattle.base.specs.Rows.{most}
use Rattle.base.specs.Laws.Tests.{same_or_not}
use Rattle.schedule.specs.Pass.{sent_to, Raised, Sent, Inbox, inbox}
use Rattle.schedule.specs.Laws.Rows.Lifted.{Lifted}
use Rattle.schedule.specs.Laws.Planner.Sending.{most_unsent, sum_unsent, most_sent, most_kept, unraised}
use Rattle.schedule.specs.Laws.Planner.Sending.{waits_less, latest_lifted}
use Rattle.schedule.proofs.planner.send.Given as goal

module _ (first finish n : ℕ) (row to counts : List ℕ) where
  -- nothing is sent yet
  pub begun : (B : Inbox) → Sent first first finish n row to counts B B
  begun B = record {
    arrivals_at = λ T P h. omega (arith, most_unsent to first T (λ i. finish + get_or counts i 0 * get_or row P 0));
    arrivals_spare = λ T P h k. refl;
    waiting_at = λ T. omega (arith, sum_unsent to first T);
    latest_at = λ T. omega (arith, most_unsent to first T (λ i. finish));
  }

  -- the turn of edge k, which goes to task t
  module _ (k t : ℕ) (e : t ≡ get_or to k 0) (h : first ≤ k) where
    -- the arrivals
    module _ (arrivals now after : List ℕ) (r : Raised n t finish (get_or counts k 0) row now after) (few : n ≤ 16) where
      -- when the messages of an edge are at P, of those that go to T
      abbrev pub sent : ℕ → ℕ → ℕ → ℕ
      sent T P i = pick (sent_to to first T i) (finish + get_or counts i 0 * get_or row P 0) 0

      pub arrive : (T P : ℕ) → P < n → get_or now (16 * T + P) 0 ≡ max (get_or arrivals (16 * T + P) 0) (most k (sent T P))
          → get_or after (16 * T + P) 0 ≡ max (get_or arrivals (16 * T + P) 0) (most (k + 1) (sent T P))
      arrive T P p s = go (same_or_not t T)
        where
          go : (t ≡ T) ⊎ (t ≡ T → ⊥) → get_or after (16 * T + P) 0 ≡ max (get_or arrivals (16 * T + P) 0) (most (k + 1) (sent T P))
          go (inl q) =
              omega (
                arith,
                s,
                rw q at (r.in_row P p),
                most_sent to first T k h (λ i. finish + get_or counts i 0 * get_or row P 0)
                    (sym e ∙ q),
              )
          go (inr q) =
              let u = unraised n t finish (get_or counts k 0) row now after r few T P (omega arith) q in
              omega (arith, s, u, most_kept to first T k (λ i. finish + get_or counts i 0 * get_or row P 0) (λ z. q (e ∙ z)))

      pub spare : (T P : ℕ) → n ≤ P → P < 16 → get_or now (16 * T + P) 0 ≡ get_or arrivals (16 * T + P) 0
          → get_or after (16 * T + P) 0 ≡ get_or arrivals (16 * T + P) 0
      spare T P p l s = go (same_or_not t T)
        where
          go : (t ≡ T) ⊎ (t ≡ T → ⊥) → get_or after (16 * T + P) 0 ≡ get_or arrivals (16 * T + P) 0
          go (inl q) = r.right_of (16 * T + P) (omega arith) ∙ s
          go (inr q) = unraised n t finish (get_or counts k 0) row now after r few T P l q ∙ s

    -- all three
    pub turn : (count : ℕ) (B B₁ : Inbox) (arrivals₂ latest₂ : List ℕ) → count ≡ get_or counts k 0 → Sent first k finish n row to
        counts B B₁
        → Raised n t finish count row B₁.arrivals arrivals₂ → Lifted t finish B₁.latest latest₂
        → n ≤ 16 → t < length B₁.waiting → 1 ≤ get_or B₁.waiting t 0
        → Sent first (k + 1) finish n row to counts B (inbox arrivals₂ (set B₁.waiting t (get_or B₁.waiting t 0 - 1)) latest₂)
    turn count B B₁ arrivals₂ latest₂ d s r m few l w = record {
      arrivals_at = λ T P p. arrive B.arrivals B₁.arrivals arrivals₂ (rw d at r) few T P p (s.arrivals_at T P p);
      arrivals_spare = λ T P p q. spare B.arrivals B₁.arrivals arrivals₂ (rw d at r) few T P p q (s.arrivals_spare T P p q);
      waiting_at = λ T. waits_less first to k t e h B.waiting B₁.waiting l w T (s.waiting_at T);
      latest_at = λ T. latest_lifted first to k t e h finish B.latest B₁.latest latest₂ m T (s.latest_at T);
    }

-- the length of the arrivals stays, and what was sent along the edges before edge k has been sent
pub record Going (first finish n : ℕ) (row to counts : List ℕ) (B B₁ : Inbox) (k : ℕ) : Type 0 where
  pub arrivals_size : length B₁.arrivals ≡ length B.arrivals
  pub waiting_size : length B₁.waiting ≡ 256
  pub latest_size : length B₁.latest ≡ 256
  pub sent : Sent first k finish n row to counts B B₁

abbrev pub invariant-loop-k : goal.invariant-loop-k
invariant-loop-k l = Going l.done.first l.done.finish l.instance.processors l.row l.instance.to.now l.instance.counts.now
    (inbox l.initial.arrivals l.initial.waiting l.initial.latest) (inbox l.arrivals l.waiting l.latest) l.k
