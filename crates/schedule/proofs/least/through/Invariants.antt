-- `least::through`: the processors that are no longer in `rest` were looked at.
-- A turn looks at the lowest of `rest`, and takes it out; none is left to look at where the bound is reached.
use mathlib.Core.Path.{◌≡◌, refl, ◌∙◌}
use mathlib.Core.Logic.{◌⊎◌, inl, inr}
use mathlib.Core.Bool.{not}
use Prim.Native.Nat.{ℕ, ◌+◌, ◌*◌, ◌-◌, ◌^◌, ◌≤◌, ◌<◌, min}
use native.Mathlib.Omega.{arith}
use lib.Bits.{bit_and, and_le_r}
use lib.Count.{count_trailing_zeros}
use lib.Dec.{T as Holds}
use lib.ListN.{get_or}
use Rattle.base.specs.Laws.Tests.{not_both, fails, same_or_not, le_or_lt}
use Rattle.schedule.specs.CoverPass.{has, SmallestOf, Served}
use Rattle.schedule.specs.Laws.Walk.Sets.{in_empty, member_below, lowest_in_lem, left_of, left_in}
use Rattle.schedule.proofs.least.through.Given as goal

module _ (idle latest low before : ℕ) (reach time : ℕ → ℕ) where
  -- the processors that serve, of those that were looked at
  abbrev pub Looked : ℕ → ℕ → Type 0
  Looked rest P = Served idle latest reach P × Holds (not (has rest P))

  pub record Going (least rest : ℕ) : Type 0 where
    pub few_bits : rest < 2 ^ 16
    pub part : (P : ℕ) → Holds (has rest P) → Holds (has idle P)
    pub smallest : SmallestOf (Looked rest) (λ P. time P + before) low least

  pub begun : idle < 2 ^ 16 → Going low idle
  begun h = record {
    few_bits = h;
    part = λ P k. k;
    smallest = record {
      to_low = omega arith;
      to_each = λ P v. absurd (not_both (has idle P) v.1 v.0.0);
      is_one = inl refl;
    };
  }

  -- what was found is of one that serves
  pub looked : (rest : ℕ) {least : ℕ} → (least ≡ low) ⊎ ((P : ℕ) × Looked rest P × (least ≡ time P + before))
      → (least ≡ low) ⊎ ((P : ℕ) × Served idle latest reach P × (least ≡ time P + before))
  looked rest (inl e) = inl e
  looked rest (inr (P, v, e)) = inr (P, v.0, e)

  pub done : {least : ℕ} → Going least 0 → SmallestOf (Served idle latest reach) (λ P. time P + before) low least
  done g = record {
    to_low = g.smallest.to_low;
    to_each = λ P v. g.smallest.to_each P (v, fails (has 0 P) (in_empty P));
    is_one = looked 0 g.smallest.is_one;
  }

  -- where what was found is no more than what each takes that serves, no processor is left to look at
  pub enough : {least rest bound : ℕ} → Going least rest → ((P : ℕ) → Served idle latest reach P → bound ≤ time P + before) → least ≤ bound
      → SmallestOf (Served idle latest reach) (λ P. time P + before) low least
  enough {rest = rest} g B h = record {
    to_low = g.smallest.to_low;
    to_each = λ P v. omega (arith, B P v);
    is_one = looked rest g.smallest.is_one;
  }

  module _ {least rest : ℕ} (g : Going least rest) (h : 0 < rest) where
    -- the lowest of the rest
    abbrev pub q : ℕ
    q = count_trailing_zeros 32 rest

    pub q_in : Holds (has rest q)
    q_in = lowest_in_lem 32 rest h (omega (arith, g.few_bits))

    pub q_small : q < 16
    q_small = member_below 16 rest q g.few_bits q_in

    abbrev pub rest' : ℕ
    rest' = bit_and rest (rest - 1)

    pub fewer : rest' < rest
    fewer = omega (arith, and_le_r rest (rest - 1))

    -- it serves and lowers what was found, or it does not
    abbrev pub Lower : ℕ → Type 0
    Lower least' =
        ((latest ≤ reach q) × (time q + before < least) × (least' ≡ time q + before))
        ⊎ ((latest ≤ reach q → least ≤ time q + before) × (least' ≡ least))

    -- by what was worked out: when its messages are there, and what they take
    module _ {there takes : ℕ} (reach_is : there ≡ reach q) (time_is : takes ≡ time q) where
      pub lower : {least' : ℕ} → latest ≤ there → least' ≡ min least (takes + before) → Lower least'
      lower {least'} a e = go (le_or_lt least (takes + before))
        where
          go : (least ≤ takes + before) ⊎ (takes + before < least) → Lower least'
          go (inl b) = inr (λ _. omega arith, omega (arith, e))
          go (inr b) = inl (omega arith, omega arith, omega (arith, e))

      pub too_early : {least' : ℕ} → there < latest → least' ≡ least → Lower least'
      too_early b e = inr (λ a. absurd (omega arith), e)

    pub turn : {least' : ℕ} → Lower least' → Going least' rest'
    turn {least'} L = record {
      few_bits = omega (arith, fewer, g.few_bits);
      part = λ P k. g.part P (left_of 32 rest P h (omega (arith, g.few_bits)) k).0;
      smallest = record {
        to_low = below L;
        to_each = λ P v. each P v (same_or_not P q) L;
        is_one = one L;
      };
    }
      where
        S : SmallestOf (Looked rest) (λ P. time P + before) low least
        S = g.smallest

        -- what was looked at before, and what is now
        older : (P : ℕ) → Looked rest' P → (P ≡ q → ⊥) → Looked rest P
        older P v d = (
          v.0,
          fails (has rest P) (λ k. not_both (has rest' P) v.1 (left_in 32 rest P h (omega (arith, g.few_bits)) k d)),
        )

        newer : (P : ℕ) → Looked rest P → Looked rest' P
        newer P v = (
          v.0,
          fails (has rest' P) (λ k. not_both (has rest P) v.1 (left_of 32 rest P h (omega (arith, g.few_bits)) k).0),
        )

        below : Lower least' → least' ≤ low
        below (inl (a, b, e)) = omega (arith, S.to_low)
        below (inr (a, e)) = omega (arith, S.to_low)

        each : (P : ℕ) → Looked rest' P → (P ≡ q) ⊎ (P ≡ q → ⊥) → Lower least' → least' ≤ time P + before
        each P v (inl d) (inl (a, b, e)) = rw d (omega arith)
        each P v (inl d) (inr (a, e)) = rw d (omega (arith, a (rw d at v.0.1)))
        each P v (inr d) (inl (a, b, e)) = omega (arith, S.to_each P (older P v d))
        each P v (inr d) (inr (a, e)) = omega (arith, S.to_each P (older P v d))

        one : Lower least' → (least' ≡ low) ⊎ ((P : ℕ) × Looked rest' P × (least' ≡ time P + before))
        one (inl (a, b, e)) =
            inr (q, ((g.part q q_in, a), fails (has rest' q) (λ k. (left_of 32 rest q h (omega (arith, g.few_bits)) k).1 refl)), e)
        one (inr (a, e)) = go S.is_one
          where
            go : (least ≡ low) ⊎ ((P : ℕ) × Looked rest P × (least ≡ time P + before))
                → (least' ≡ low) ⊎ ((P : ℕ) × Looked rest' P × (least' ≡ time P + before))
            go (inl d) = inl (e ∙ d)
            go (inr (P, v, d)) = inr (P, newer P v, e ∙ d)

abbrev pub invariant-loop-rest : goal.invariant-loop-rest
invariant-loop-rest l = Going l.tick.idle l.tick.latest l.low l.before (λ P. l.sent.finish + l.sent.count * get_or l.row P 0)
    (λ P. l.sent.count * get_or l.row P 0) l.least l.rest

abbrev pub decreases-loop-rest : goal.decreases-loop-rest
decreases-loop-rest l = l.rest
