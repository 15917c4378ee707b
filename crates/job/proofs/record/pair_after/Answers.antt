-- `record::pair_after`: the next place of the row that is not the processor itself, or the first place of the next row.
use mathlib.Core.Path.{◌≡◌, refl, sym, ◌∙◌}
use mathlib.Core.Logic.{◌⊎◌, inl, inr}
use Prim.Native.Nat.{ℕ, ◌+◌, ◌≤◌, ◌<◌}
use native.Mathlib.Omega.{arith}
use Rattle.std.specs.Prelude.{Some, None}
use Rattle.job.specs.declared.record.Pair.{Pair}
use Rattle.job.specs.Pass.{due_from, PairAfter}
use Rattle.job.specs.Laws.Wires.{past_itself, next_row, none_due}
use Rattle.job.proofs.record.pair_after.Goals as goal
use Rattle.job.proofs.record.pair_after.Goals.{Joined-to-x, else-to-x, then-to-x}

-- the place after q, or the one past it where that is p itself
abbrev Past : ℕ → ℕ → ℕ → Type 0
Past p q to = ((q + 1 ≡ p) × (to ≡ q + 1 + 1)) ⊎ ((q + 1 ≡ p → ⊥) × (to ≡ q + 1))

past : (n p q to : ℕ) → Past p q to → (due_from n p to ≡ due_from n p (q + 1)) × (p ≡ to → ⊥)
past n p q to (inl (e, d)) = rw (d, e) (sym (past_itself n p), λ z. absurd (omega (arith, z)))
past n p q to (inr (e, d)) = rw d (refl, λ z. e (sym z))

module _ (n : ℕ) (x : Pair) (to : ℕ) (h : Past x.from x.to to) (p : x.from < n) where
  same_row : to < n → PairAfter n x (Some record { from = x.from; to = to })
  same_row k =
      let r = past n x.from x.to to h in
      record { left = r.0; on = record { from_below = p; to_below = k; different = r.1 } }

  module _ (k : n ≤ to) (from : ℕ) (e : from ≡ x.from + 1) where
    row_after : from < n → PairAfter n x (Some record { from = from; to = 0 })
    row_after l =
        record {
          left = rw e (sym (next_row n x.from to k p) ∙ (past n x.from x.to to h).0);
          on = record { from_below = l; to_below = omega arith; different = λ z. absurd (omega (arith, z)) };
        }

    none_after : n ≤ from → PairAfter n x None
    none_after l =
        record {
          left = sym (none_due n (x.from + 1) 0 (omega arith)) ∙ sym (next_row n x.from to k p) ∙ (past n x.from x.to to h).0;
          on = tt;
        }

past-here : (w : Joined-to-x) → Past w.args.x.from w.args.x.to w.if-to-x.to
past-here w =
    (elim w.if-to-x.branch [
      | then-to-x z ↦ inl (omega (arith, z.if-to-x.true), omega (arith, z.to-is))
      | else-to-x z ↦ inr (λ e. z.if-to-x.false (omega (arith, e)), omega (arith, z.to-is))
    ])

pub returns-then-to-n : goal.returns-then-to-n
returns-then-to-n c =
    same_row _ _ _ (past-here (goal.at.returns-then-to-n c).Joined-to-x) c.requires.1 (omega (arith, c.if-to-n.true))

pub returns-then-from-n : goal.returns-then-from-n
returns-then-from-n c =
    row_after _ _ _ (past-here (goal.at.returns-then-from-n c).Joined-to-x) c.requires.1
    (omega (arith, c.if-to-n.false)) _ (omega arith) (omega (arith, c.if-from-n.true))

pub returns : goal.returns
returns c =
    none_after _ _ _ (past-here (goal.at.returns c).Joined-to-x) c.requires.1
    (omega (arith, c.if-to-n.false)) (c.args.x.from + 1) (omega arith) (omega (arith, c.if-from-n.false))
