-- `lay`: each entry is the square's, or its place, counted row by row, is still to come.
use Rattle.std.proofs.Common.{◌≡◌, ℕ, List, replicate, arith}
use Rattle.etf.specs.Topology.{cost}
use Rattle.costs.specs.Wires.{loaded}
use Rattle.costs.proofs.lay.Invariants.{zeros, Held, start, more, done}
use Rattle.costs.proofs.lay.Goals as goal

begun : (n : ℕ) (f : ℕ → ℕ → ℕ) (a : List (List ℕ)) → a ≡ replicate 16 (replicate 16 0) → Held n f 0 a
unfolding zeros
begun n f a e = rw e (start n f)

pub loop-p-init : goal.loop-p-init
loop-p-init c =
    begun c.args.platform.processors (cost c.args.platform (loaded c.args.wires.now)) c.args.costs.now c.requires

pub loop-q-preserved : goal.loop-q-preserved
loop-q-preserved c =
    more _ _ _ _ _ _ c.loop-q.invariant (omega arith) (omega arith) (omega arith) (omega arith) c.cost.ensures

pub returns : goal.returns
returns c =
    done _ _ _ _ c.loop-p.invariant (omega arith)
