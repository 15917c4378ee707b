-- `least::of_last`: the latest finish of the tasks before t, and the smallest sum of those that have it.
use mathlib.Core.Path.{◌≡◌, refl, sym, ap, ◌∙◌}
use mathlib.Core.Logic.{◌⊎◌, inl, inr}
use Prim.Native.Nat.{ℕ, ◌+◌, ◌≤◌, ◌<◌, max, min}
use native.Mathlib.Omega.{arith}
use lib.ListN.{get_or}
use Rattle.base.specs.Rows.{most}
use Rattle.base.specs.Laws.Tests.{le_or_lt}
use Rattle.base.specs.Laws.Most.{most_ge, most_more, none_yet}
use Rattle.schedule.specs.Pass.{finish_in}
use Rattle.schedule.specs.CoverPass.{LeastOfLast}
use Rattle.schedule.proofs.least.of_last.Given as goal

module _ (finish sums : ℕ → ℕ) where
  pub record Going (t end least : ℕ) : Type 0 where
    pub latest : end ≡ most t finish
    pub smallest : LeastOfLast t finish sums least

  pub begun : Going 0 0 0
  begun = record {
    latest = none_yet finish;
    smallest = record { to_each = λ T h. absurd (omega arith); is_one = λ h. absurd (omega arith) };
  }

  -- the same under other names
  pub carried : {t end end' least least' : ℕ} → end' ≡ end → least' ≡ least → Going t end least → Going t end' least'
  carried e l g = rw (e, l) g

  pub done : {t m end least : ℕ} → t ≡ m → Going t end least → LeastOfLast m finish sums least
  done e g = rw e at g.smallest

  module _ {t end least : ℕ} (g : Going t end least) where
    pub more : most (t + 1) finish ≡ max end (finish t)
    more = most_more t finish ∙ ap (λ (x : ℕ). max x (finish t)) (sym g.latest)

    -- a task before t, or t itself
    pub place : (T : ℕ) → T < t + 1 → (T < t) ⊎ (T ≡ t)
    place T h = go (le_or_lt t T)
      where
        go : (t ≤ T) ⊎ (T < t) → (T < t) ⊎ (T ≡ t)
        go (inl k) = inr (omega arith)
        go (inr k) = inl k

    -- no task before t finishes after `end`
    pub before : (T : ℕ) → T < t → finish T ≤ end
    before T h = omega (arith, g.latest, most_ge t finish T h)

    -- task t finishes after all before it
    pub alone : end < finish t → Going (t + 1) (finish t) (sums t)
    alone h = record {
      latest = omega (arith, more);
      smallest = record { to_each = λ T b e. each T e (place T b); is_one = λ n. (t, omega arith, omega (arith, more), refl) };
    }
      where
        each : (T : ℕ) → finish T ≡ most (t + 1) finish → (T < t) ⊎ (T ≡ t) → sums t ≤ sums T
        each T e (inl k) = absurd (omega (arith, e, more, before T k))
        each T e (inr k) = rw k (omega arith)

    -- it does not: the last finish is as it was
    module _ (h : finish t ≤ end) where
      pub same : most (t + 1) finish ≡ most t finish
      same = omega (arith, more, g.latest)

      -- some task before it finishes last, or there is none yet
      pub kept : {T : ℕ} → finish T ≡ most t finish → finish T ≡ most (t + 1) finish
      kept e = e ∙ sym same

      pub below : (T : ℕ) → finish T ≡ most (t + 1) finish → T < t → least ≤ sums T
      below T e k = g.smallest.to_each T k (e ∙ same)

      -- it finishes with the last, and its sum is smaller
      lower : finish t ≡ end → sums t < least → Going (t + 1) end (sums t)
      lower d k = record {
        latest = omega (arith, same, g.latest);
        smallest = record { to_each = λ T b e. each T e (place T b); is_one = λ n. (t, omega arith, omega (arith, more), refl) };
      }
        where
          each : (T : ℕ) → finish T ≡ most (t + 1) finish → (T < t) ⊎ (T ≡ t) → sums t ≤ sums T
          each T e (inl b) = omega (arith, below T e b)
          each T e (inr b) = rw b (omega arith)

      -- it does so with a sum that is not, or finishes before
      pub higher : 0 < finish t → (finish t ≡ end → least ≤ sums t) → Going (t + 1) end least
      higher p k = record {
        latest = omega (arith, same, g.latest);
        smallest = record { to_each = λ T b e. each T e (place T b); is_one = λ n. one (g.smallest.is_one some) };
      }
        where
          some : 0 < t
          some = go (le_or_lt t 0)
            where
              go : (t ≤ 0) ⊎ (0 < t) → 0 < t
              go (inl z) = let e : t ≡ 0 = omega arith in absurd (omega (arith, p, h, g.latest, none_at e))
                where
                  none_at : t ≡ 0 → most t finish ≡ 0
                  none_at e = rw e (sym (none_yet finish))
              go (inr z) = z

          each : (T : ℕ) → finish T ≡ most (t + 1) finish → (T < t) ⊎ (T ≡ t) → least ≤ sums T
          each T e (inl b) = below T e b
          each T e (inr b) = rw b (k (omega (arith, rw b at e, same, g.latest)))

          one : (T : ℕ) × (T < t) × (finish T ≡ most t finish) × (least ≡ sums T)
              → (T : ℕ) × (T < t + 1) × (finish T ≡ most (t + 1) finish) × (least ≡ sums T)
          one (T, b, e, q) = (T, omega arith, kept e, q)

      -- it finishes with the last, and the smaller sum is kept
      pub tied : {least' : ℕ} → 0 < finish t → finish t ≡ end → least' ≡ min least (sums t) → Going (t + 1) end least'
      tied {least'} p d e = go (le_or_lt least (sums t))
        where
          go : (least ≤ sums t) ⊎ (sums t < least) → Going (t + 1) end least'
          go (inl k) = let q : least' ≡ least = omega arith in rw q (higher p (λ z. k))
          go (inr k) = let q : least' ≡ sums t = omega arith in rw q (lower d k)

abbrev pub invariant-loop-t : goal.invariant-loop-t
invariant-loop-t l = Going (finish_in l.table) (λ T. get_or l.sums T 0) l.t l.end l.least
