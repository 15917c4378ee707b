-- The ticks in which a task runs, and how many they are.
use Rattle.std.specs.Prelude.{◌≡◌, ◌⊎◌, not, ℕ, zero, suc, ◌+◌, ◌-◌, ◌≤◌, ◌<◌, min, leb, ltb, T as Holds}
use Rattle.std.proofs.Common.{inl, inr, arith, leb→le, le→leb, ltb→lt, lt→ltb}
use Rattle.base.specs.Laws.Sums.{one_if_yes, one_if_no}
use Rattle.base.specs.Rows.{sum, one_if}
use Rattle.base.specs.Laws.Tests.{either, not_both, both, first, second, le_or_lt}
use Rattle.etf.specs.Cover.{running}

pub running_of : (s d t : ℕ) → Holds (running s d t) → (s ≤ t) × (t < s + d)
unfolding running
running_of s d t h = (leb→le s t (first (leb s t) (ltb t (s + d)) h), ltb→lt t (s + d) (second (leb s t) (ltb t (s + d)) h))

pub running_in : (s d t : ℕ) → s ≤ t → t < s + d → Holds (running s d t)
unfolding running
running_in s d t h k = both (leb s t) (ltb t (s + d)) (le→leb s t h) (lt→ltb t (s + d) k)

sum_window : (E s d : ℕ) → sum E (λ t. one_if (running s d t)) ≡ min E (s + d) - s
unfolding sum
sum_window zero s d = omega arith
sum_window (suc E) s d = go (either (running s d E)) (sum_window E s d)
  where
    no_run : Holds (not (running s d E)) → (s ≤ E) ⊎ (E < s) → (suc E ≤ s + d) ⊎ (s + d < suc E)
        → sum E (λ t. one_if (running s d t)) ≡ min E (s + d) - s
        → sum E (λ t. one_if (running s d t)) ≡ min (suc E) (s + d) - s
    no_run h (inl x) (inl y) r = absurd (not_both (running s d E) h (running_in s d E x y))
    no_run h (inl x) (inr y) r = omega arith
    no_run h (inr x) (inl y) r = omega arith
    no_run h (inr x) (inr y) r = omega arith

    go : Holds (running s d E) ⊎ Holds (not (running s d E)) → sum E (λ t. one_if (running s d t)) ≡ min E (s + d) - s
        → sum E (λ t. one_if (running s d t)) + one_if (running s d E) ≡ min (suc E) (s + d) - s
    go (inl h) r = omega (arith, one_if_yes (running s d E) h, running_of s d E h)
    go (inr h) r =
        omega (arith, one_if_no (running s d E) h, no_run h (le_or_lt s E) (le_or_lt (suc E) (s + d)) r)

-- it runs in d ticks, if it ends by E
pub sum_running : (E s d : ℕ) → s + d ≤ E → sum E (λ t. one_if (running s d t)) ≡ d
sum_running E s d h = omega (arith, sum_window E s d)
