-- `least::unwalked`: the entries before t are set.
use mathlib.Core.Path.{◌≡◌, ◌∙◌}
use mathlib.Core.Logic.{◌⊎◌, inl, inr}
use mathlib.Core.List.{List}
use Prim.Native.Nat.{ℕ, ◌+◌, ◌≤◌, ◌<◌}
use native.Mathlib.Omega.{arith}
use lib.ListN.{length, get_or}
use Rattle.base.specs.Laws.Tests.{same_or_not, le_or_lt}
use Rattle.etf.specs.Bounds.{most_chain}
use Rattle.schedule.specs.CoverPass.{Unwalked}
use Rattle.schedule.specs.Laws.Rows.Entry.{Entry}
use Rattle.schedule.proofs.least.unwalked.Given as goal

module _ (idle : List ℕ) where
  -- the first content of entry T
  unfoldable pub First : ℕ → ℕ → Type 0
  First T r = ((0 < get_or idle T 0) × (r ≡ most_chain)) ⊎ ((get_or idle T 0 ≡ 0) × (r ≡ 0))

  pub record Going (sums : List ℕ) (t : ℕ) : Type 0 where
    pub few : t ≤ 256
    pub size : length sums ≡ 256
    pub first : (T : ℕ) → T < t → First T (get_or sums T 0)

  pub begun : {sums : List ℕ} → length sums ≡ 256 → Going sums 0
  begun s = record { few = omega arith; size = s; first = λ T h. absurd (omega arith) }

  pub done : {sums : List ℕ} {t : ℕ} → 256 ≤ t → Going sums t → Unwalked idle sums
  unfolding First
  done {sums} h g = record {
    has_sums = g.size;
    none_short = λ T b e. none T e (g.first T (omega (arith, g.few)));
    short = λ T b k. some T k (g.first T (omega (arith, g.few)));
  }
    where
      none : (T : ℕ) → get_or idle T 0 ≡ 0 → First T (get_or sums T 0) → get_or sums T 0 ≡ 0
      none T e (inl (k, q)) = absurd (omega arith)
      none T e (inr (k, q)) = q

      some : (T : ℕ) → 0 < get_or idle T 0 → First T (get_or sums T 0) → get_or sums T 0 ≡ most_chain
      some T e (inl (k, q)) = q
      some T e (inr (k, q)) = absurd (omega arith)

  -- entry t is set
  pub turn : {sums after : List ℕ} {t r : ℕ} → Going sums t → t < 256 → Entry t r sums after
      → ((0 < get_or idle t 0) × (r ≡ most_chain)) ⊎ ((get_or idle t 0 ≡ 0) × (r ≡ 0)) → Going after (t + 1)
  unfolding First
  turn {sums} {after} {t} {r} g h E w = record {
    few = omega arith;
    size = E.size ∙ g.size;
    first = λ T b. each T b (same_or_not T t);
  }
    where
      each : (T : ℕ) → T < t + 1 → (T ≡ t) ⊎ (T ≡ t → ⊥) → First T (get_or after T 0)
      each T b (inl d) = rw (d, E.here) w
      each T b (inr d) = rw (E.elsewhere T d) (g.first T (before (le_or_lt t T)))
        where
          before : (t ≤ T) ⊎ (T < t) → T < t
          before (inl a) = absurd (d (omega arith))
          before (inr a) = a

abbrev pub invariant-loop-t : goal.invariant-loop-t
invariant-loop-t l = Going l.idle l.sums l.t
