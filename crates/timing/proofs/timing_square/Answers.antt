-- `timing::timing_square`: a row or a column past the sixteenth has no entry.
use mathlib.Core.Path.{◌≡◌, sym, ap}
use mathlib.Core.List.{List, []}
use Prim.Native.Nat.{ℕ, ◌≤◌, ◌<◌}
use native.Mathlib.Omega.{arith}
use lib.ListN.{get_or, get_or-eq_default}
use Rattle.etf.specs.Topology.{cost, square, entry}
use Rattle.etf.proofs.Laws.Costs.{square_length, row_length}
use Rattle.costs.specs.Wires.{loaded}
use Rattle.timing.specs.Timing.{square_timed}
use Rattle.timing.proofs.timing_square.Goals as goal

module _ (n t u : ℕ) (wires : List ℕ) (p q : ℕ) where
  abbrev cost_of : ℕ → ℕ → ℕ
  cost_of = cost (record { processors = n; topology = t; unit = u }) (loaded wires)

  no_row : 16 ≤ p → 0 ≡ square_timed n t u wires p q
  unfolding square_timed
  no_row h =
      let none = get_or-eq_default (square n cost_of) [] {n = p} (omega (arith, square_length n cost_of)) in
      sym (ap (λ (row : List ℕ). get_or row q 0) none)

  no_column : p < 16 → 16 ≤ q → 0 ≡ square_timed n t u wires p q
  unfolding square_timed
  no_column h k = sym (get_or-eq_default (get_or (square n cost_of) p []) 0 {n = q} (omega (arith, row_length n cost_of p h)))

  found : (costs : List (List ℕ)) → costs ≡ square n cost_of → entry costs p q ≡ square_timed n t u wires p q
  unfolding square_timed
  found costs e = ap (λ (rows : List (List ℕ)). entry rows p q) e

pub returns-then-p-ge16 : goal.returns-then-p-ge16
returns-then-p-ge16 c =
    no_row _ _ _ _ _ _ (omega (arith, c.if-p-ge16.true))

pub returns-then-q-ge16 : goal.returns-then-q-ge16
returns-then-q-ge16 c =
    no_column _ _ _ _ _ _ (omega (arith, c.if-p-ge16.false)) (omega (arith, c.if-q-ge16.true))

pub returns : goal.returns
returns c =
    found _ _ _ _ _ _ _ c.square-costs.ensures
