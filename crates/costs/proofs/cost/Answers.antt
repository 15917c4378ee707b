-- `cost`: the wire's cost under topology 3, else the unit cost times the hops, a byte times fifteen at most.
use Rattle.std.proofs.Common.{◌≡◌, ℕ, ◌*◌, ◌≤◌, ◌<◌, arith}
use native.Mathlib.Nat.{mul-le-mul}
use borrow.Author.Tests.{eq-eqb, ne_eqb}
use Rattle.job.specs.declared.Platform.{Platform}
use Rattle.etf.specs.Topology.{hops, cost}
use Rattle.etf.proofs.Laws.Costs.{hops_near}
use Rattle.costs.specs.Wires.{loaded}
use Rattle.costs.proofs.cost.Goals as goal

small : (r : Platform) (p q u h : ℕ) → u < 256 → h ≡ hops r p q → p < 16 → q < 16 → u * h ≤ 255 * 15
small r p q u h b e i k =
    let byte : u ≤ 255 = omega arith in
    let near : h ≤ 15 = omega (arith, e, hops_near r p q i k) in
    mul-le-mul byte near

pub returns-then-p-q : goal.returns-then-p-q
unfolding cost
returns-then-p-q c =
    simp (eq-eqb _ _ c.if-p-q.true)

pub returns-then-platform : goal.returns-then-platform
unfolding cost loaded
returns-then-platform c =
    simp (ne_eqb _ _ c.if-p-q.false, c.if-platform.true, c.from.ensures)

pub overflow_mul-result : goal.overflow_mul-result
overflow_mul-result c =
    let all = small _ _ _ c.from-2.result _ (omega (arith, c.from-2.ensures)) c.hops.ensures c.requires.2 c.requires.3 in
    record { fits = omega arith }

pub returns : goal.returns
unfolding cost
returns c =
    simp (ne_eqb _ _ c.if-p-q.false, ne_eqb _ _ c.if-platform.false, c.from-2.ensures, c.hops.ensures)
