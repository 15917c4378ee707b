-- `hops`: each topology has its rule.
use Rattle.std.proofs.Common.{◌≡◌, ℕ, ◌<◌, arith}
use borrow.Author.Tests.{ne_eqb}
use Rattle.job.specs.declared.Platform.{Platform}
use Rattle.etf.specs.Topology.{hops}
use Rattle.costs.proofs.hops.Goals as goal

-- no rule for any other
none : (r : Platform) (p q : ℕ) → 2 < r.topology → 0 ≡ hops r p q
unfolding hops
none r p q h =
    simp (ne_eqb r.topology 0 (λ e. omega arith), ne_eqb r.topology 1 (λ e. omega arith), ne_eqb r.topology 2 (λ e. omega arith))

pub returns-in-Ok-Complete : goal.returns-in-Ok-Complete
unfolding hops
returns-in-Ok-Complete c =
    let t = c.in-Ok-Complete in
    simp (rw t.field-0-is at t.ensures)

pub returns-in-Ok-Hypercube : goal.returns-in-Ok-Hypercube
unfolding hops
returns-in-Ok-Hypercube c =
    let t = c.in-Ok-Hypercube in
    simp (rw t.field-0-is at t.ensures, c.hypercube_hops.ensures)

pub returns-in-Ok-Ring : goal.returns-in-Ok-Ring
unfolding hops
returns-in-Ok-Ring c =
    let t = c.in-Ok-Ring in
    simp (rw t.field-0-is at t.ensures, c.from.ensures, c.ring_hops.ensures)

pub returns-in-Ok-Wired : goal.returns-in-Ok-Wired
returns-in-Ok-Wired c =
    let t = c.in-Ok-Wired in
    none _ _ _ (omega (arith, rw t.field-0-is at t.ensures))

pub returns-in-Err : goal.returns-in-Err
returns-in-Err c =
    none _ _ _ (omega (arith, c.in-Err.ensures.0))
