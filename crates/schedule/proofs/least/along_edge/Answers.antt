-- `least::along_edge`: none serves, the sender's own processor does, or each takes at least what the nearest one takes, and what the tick
-- asks for.
use Rattle.std.proofs.Common.{◌≡◌, refl, ◌⊎◌, inl, inr, ℕ, ◌+◌, ◌*◌, ◌-◌, ◌≤◌, ◌<◌, max, get_or, arith}
use Rattle.std.proofs.Math.Dec.{T as Holds}
use Rattle.base.specs.Laws.Tests.{same_or_not}
use Rattle.etf.specs.Topology.{entry}
use Rattle.schedule.specs.declared.timetable.Timetable.{Timetable}
use Rattle.schedule.specs.declared.least.Prices.{Prices}
use Rattle.schedule.specs.Pass.{finish_in, time_to, there_at}
use Rattle.schedule.specs.CoverPass.{has, SmallestOf, Served, PricesOf}
use Rattle.schedule.specs.Laws.Sent.{time_is, arrival_is}
use Rattle.schedule.specs.Laws.Walk.Sets.{bit_in, bit_of}
use Rattle.schedule.proofs.least.along_edge.Goals as goal
use Rattle.schedule.proofs.least.along_edge.Goals.{then-tick-sent+then-tick-p-eq1+else-table-p-eq0, then-tick-sent+else-tick-p-eq1}
use Rattle.schedule.proofs.least.along_edge.Goals.{else-tick-sent}

-- so many messages are sent along edge k by task s on processor p at f
module _ (x : Timetable) {prices : Prices} {idle k s p w f : ℕ} (B : PricesOf x prices idle k) (s-is : s ≡ get_or x.instance.from.now k 0)
    (p-is : p ≡ get_or x.plan.processors.now s 0) (w-is : w ≡ get_or x.instance.counts.now k 0) (f-is : f ≡ finish_in x s) where
  -- what a message costs from their processor
  abbrev cost : ℕ → ℕ
  cost = entry x.instance.costs.now p

  -- the smallest of `low` and of what walks take that `before` is before
  abbrev Smallest : ℕ → ℕ → ℕ → ℕ → Type 0
  Smallest latest before low r = SmallestOf (Served idle latest (λ P. there_at x P k)) (λ P. time_to x P k + before) low r

  takes : (P : ℕ) → w * cost P ≡ time_to x P k
  takes P = time_is x k s-is p-is w-is P

  there : (P : ℕ) → f + w * cost P ≡ there_at x P k
  there P = rw f-is (arrival_is x k s-is p-is w-is P)

  to_own : cost p ≡ 0 → time_to x p k ≡ 0
  to_own e = let t : w * cost p ≡ time_to x p k = takes p in omega (arith, rw e at t)

  -- at the greatest cost they are there before the tick ends: none serves
  none_serves : (low before : ℕ) {latest : ℕ} → f + w * prices.most < latest → Smallest latest before low low
  none_serves low before h = record {
    to_low = omega arith;
    to_each = λ P v.
        let m : time_to x P k ≤ w * prices.most = rw w-is (B.at_most.to_most P v.0) in absurd (omega (arith, v.1, there P, takes P, m));
    is_one = inl refl;
  }

  -- on their own processor they serve, and take no time where that is free
  own_serves : {latest before low : ℕ} → latest ≤ f → Holds (has idle p) → cost p ≡ 0 → before ≤ low
      → Smallest latest before low before
  own_serves h i e b = record {
    to_low = b;
    to_each = λ P v. omega arith;
    is_one = inr (p, (i, omega (arith, there p, takes p, to_own e)), omega (arith, to_own e));
  }

  module _ {latest : ℕ} (not_own : latest ≤ f → Holds (has idle p) → cost p ≡ 0 → ⊥) where
    -- elsewhere they take what the nearest processor takes, and are there when the tick ends
    no_less : {first : ℕ} (before : ℕ) → first ≡ max latest (f + w * get_or prices.nearest p 0)
        → (P : ℕ) → Served idle latest (λ P. f + w * cost P) P → before + (first - f) ≤ w * cost P + before
    no_less {first} before e P v = go (same_or_not P p) (same_or_not (cost P) 0)
      where
        other : ((P ≡ p) × (cost P ≡ 0) → ⊥) → before + (first - f) ≤ w * cost P + before
        other d =
            let near : w * get_or prices.nearest p 0 ≤ time_to x P k = rw (p-is, s-is, w-is) (B.to_other P v.0 (rw (p-is, s-is) at d)) in
            omega (arith, e, v.1, takes P, near)

        go : (P ≡ p) ⊎ (P ≡ p → ⊥) → (cost P ≡ 0) ⊎ (cost P ≡ 0 → ⊥) → before + (first - f) ≤ w * cost P + before
        go (inl d) (inl z) =
            let itself : cost p ≡ 0 = rw d at z in
            let free : time_to x P k ≡ 0 = rw d (to_own itself) in
            absurd (not_own (omega (arith, v.1, takes P, free)) (rw d at v.0) itself)
        go (inl d) (inr n) = other (λ b. n b.1)
        go (inr n) z = other (λ b. n b.0)

  -- by the row of costs, and by the messages
  as_sent : (before : ℕ) {latest low r : ℕ} → SmallestOf (Served idle latest (λ P. f + w * cost P)) (λ P. w * cost P + before) low r
      → Smallest latest before low r
  as_sent before {latest} {low} {r} Z = record {
    to_low = Z.to_low;
    to_each = λ P v. omega (arith, Z.to_each P (v.0, omega (arith, v.1, there P)), takes P);
    is_one = go Z.is_one;
  }
    where
      go : (r ≡ low) ⊎ ((P : ℕ) × Served idle latest (λ P. f + w * cost P) P × (r ≡ w * cost P + before))
          → (r ≡ low) ⊎ ((P : ℕ) × Served idle latest (λ P. there_at x P k) P × (r ≡ time_to x P k + before))
      go (inl e) = inl e
      go (inr (P, v, e)) = inr (P, (v.0, omega (arith, v.1, there P)), omega (arith, e, takes P))

-- ---- the needs

pub returns-then-sent-prices : goal.returns-then-sent-prices
returns-then-sent-prices c =
    let e = c.sent_along-sent.ensures in
    none_serves c.args.table.now c.requires.between e.sender_value e.processor_value e.count_value e.finish_value _ _
    (omega (arith, c.if-sent-prices.true))

pub returns-then-table-p-eq0 : goal.returns-then-table-p-eq0
returns-then-table-p-eq0 c =
    let e = c.sent_along-sent.ensures in
    own_serves c.args.table.now c.requires.between e.sender_value e.processor_value e.count_value e.finish_value
    (omega (arith, c.if-tick-sent.true)) (bit_in _ _ (omega (arith, c.if-tick-p-eq1.true))) (omega (arith, c.if-table-p-eq0.true))
    c.requires.small.3

pub through-requires-clause-bounded : goal.through-requires-clause-bounded
through-requires-clause-bounded c =
    let e = c.sent_along-sent.ensures in
    let p = c.sent_along-sent.result.processor in
    let not_own : c.args.tick.latest ≤ c.sent_along-sent.result.finish → Holds (has c.args.tick.idle p)
    → entry c.args.table.now.instance.costs.now p p ≡ 0 → ⊥ =
    elim c.if-tick-sent.branch [
      | then-tick-sent+then-tick-p-eq1+else-table-p-eq0 w ↦ λ h i z. absurd (omega (arith, w.if-table-p-eq0.false, z))
      | then-tick-sent+else-tick-p-eq1 w ↦ λ h i z. bit_of _ _ w.if-tick-p-eq1.false i
      | else-tick-sent w ↦ λ h i z. absurd (omega (arith, w.if-tick-sent.false))
    ] in
    no_less c.args.table.now c.requires.between e.sender_value e.processor_value e.count_value e.finish_value not_own _
    (omega (arith, c.max-first.ensures))

pub returns : goal.returns
returns c =
    let e = c.sent_along-sent.ensures in
    as_sent c.args.table.now c.requires.between e.sender_value e.processor_value e.count_value e.finish_value _ c.through.ensures
