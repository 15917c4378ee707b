-- Places of the order passed over, as their tasks are placed: one more, the first whose task is not, or none left.
use Rattle.std.specs.Prelude.{◌≡◌, ◌⊎◌, List, ℕ, ◌+◌, ◌≤◌, ◌<◌}
use Rattle.std.proofs.Common.{inl, inr}
use native.Mathlib.Omega.{arith}
use Rattle.std.proofs.Math.ListN.{get_or}
use Rattle.base.specs.Laws.Tests.{le_or_lt}
use Rattle.schedule.specs.Pass.{Skipped, placed_mark}

-- the tasks at the places from `low` to before t are marked as placed
unfoldable pub Marked : (ℕ → ℕ) → List ℕ → ℕ → ℕ → Type 0
Marked order waiting low t = (i : ℕ) → low ≤ i → i < t → get_or waiting (order i) 0 ≡ placed_mark

module _ (order : ℕ → ℕ) (waiting : List ℕ) (low t : ℕ) (M : Marked order waiting low t) where
  pub pass : get_or waiting (order t) 0 ≡ placed_mark → Marked order waiting low (t + 1)
  unfolding Marked
  pass e i p q = go (le_or_lt t i)
    where
      go : (t ≤ i) ⊎ (i < t) → get_or waiting (order i) 0 ≡ placed_mark
      go (inl r) = let d : i ≡ t = omega arith in rw d e
      go (inr r) = M i p r

  pub stop : (m : ℕ) → low ≤ t → t < m → (get_or waiting (order t) 0 ≡ placed_mark → ⊥) → Skipped waiting order low m t
  unfolding Marked
  stop m a b n = record { from_low = a; to_most = omega arith; passed = M; left = λ _. n }

  pub none : (m : ℕ) → low ≤ t → t ≤ m → m ≤ t → Skipped waiting order low m m
  unfolding Marked
  none m a b h =
      let e : t ≡ m = omega arith in
      record { from_low = omega arith; to_most = omega arith; passed = λ i p q. M i p (omega arith); left = λ z. absurd (omega arith) }

-- at first none is passed
pub unpassed : (order : ℕ → ℕ) (waiting : List ℕ) (low : ℕ) → Marked order waiting low low
unfolding Marked
unpassed order waiting low i p q = absurd (omega arith)
