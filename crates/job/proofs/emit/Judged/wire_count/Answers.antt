-- `emit::Judged::wire_count`: each of the n processors has a wire to each of the n - 1 others.
use Rattle.std.proofs.Common.{◌≡◌, ℕ, ◌*◌, ◌-◌, ◌≤◌, refl, sym, arith, length}
use Rattle.job.specs.declared.Platform.{Platform}
use Rattle.job.specs.Record.{wire_pairs}
use Rattle.job.specs.Laws.Tests.{platform_facts}
use Rattle.job.specs.Laws.Wires.{pairs_count, few_pairs, wired, unwired}
use Rattle.job.proofs.emit.Judged.wire_count.Goals as goal
use Rattle.job.proofs.emit.Judged.wire_count.Goals.{After-from-n}

under_3 : (p : Platform) (n : ℕ) → p.topology ≡ 3 → p.processors ≤ 16 → n ≡ p.processors
    → (n * (n - 1) ≡ length (wire_pairs p)) × (n * (n - 1) ≤ 240)
under_3 p n e h is =
    let q : n * (n - 1) ≡ length (wire_pairs p) = rw (is, wired p e) (sym (pairs_count p.processors)) in
    (q, omega (arith, q, few_pairs p h))

counted : (w : After-from-n)
    → (w.from-n.result * (w.from-n.result - 1) ≡ length (wire_pairs w.args.self.now.job.platform))
    × (w.from-n.result * (w.from-n.result - 1) ≤ 240)
counted w =
    under_3 w.args.self.now.job.platform _ (omega (arith, w.if-self.false)) (platform_facts _ w.args.self.now.rack).1
    (omega (arith, w.from-n.ensures))

pub returns-then-self : goal.returns-then-self
returns-then-self c = (rw (unwired c.args.self.now.job.platform (λ e. c.if-self.true (omega (arith, e)))) refl, omega arith)

pub overflow_sub-result : goal.overflow_sub-result
overflow_sub-result c = omega (arith, c.from-n.ensures, (platform_facts _ c.args.self.now.rack).0)

pub returns : goal.returns
returns c = counted (goal.at.returns c).After-from-n
