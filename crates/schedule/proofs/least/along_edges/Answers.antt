-- `least::along_edges`: after k turns the sums are the least over the first k edges.
-- A turn lowers the sum of the task that the edge goes to, where its source's is lower (Laws/Walk/LeastByEdge).
use Rattle.std.proofs.Common.{ℕ, ◌≤◌, ◌<◌, length, get_or, arith}
use Rattle.schedule.specs.Handed.{plannable}
use Rattle.schedule.specs.Laws.Held.{climb}
use Rattle.schedule.specs.Laws.Rows.Entry.{stored, kept}
use Rattle.schedule.specs.Laws.Walk.LeastByEdge.{not_lower, one_more}
use Rattle.schedule.proofs.least.along_edges.Goals as goal
use Rattle.schedule.proofs.least.along_edges.Goals.{else-sums-s, then-sums-s}

pub along_edge-requires-clause-between : goal.along_edge-requires-clause-between
along_edge-requires-clause-between c = rw c.from-t.ensures (c.requires.between _ c.loop-k-test.true)

pub loop-k-preserved : goal.loop-k-preserved
loop-k-preserved c =
    let h = c.loop-k-test.true in
    let F = plannable c.args.table.now.instance in
    let K = c.loop-k.invariant in
    let t : c.from-t.result < 256 = omega (arith, c.from-t.ensures, F.within _ h, F.few_tasks) in
    let there : c.from-t.result < length c.loop-k.sums = omega (arith, t, K.has_sums) in
    let rises : (i : ℕ) → i ≤ c.loop-k.k
    → get_or c.args.table.now.instance.from.now i 0 ≤ get_or c.args.table.now.instance.from.now c.loop-k.k 0 =
    λ i b. climb F i c.loop-k.k b h in
    (elim c.if-sums-s.branch [
      | then-sums-s w ↦ one_more _ _ _ _ _ _ _ _ _ K rises (F.forward _ h) c.from-s.ensures c.from-t.ensures t w.along_edge.ensures
          (stored there w.sums-is)
      | else-sums-s w ↦ one_more _ _ _ _ _ _ _ _ _ K rises (F.forward _ h) c.from-s.ensures c.from-t.ensures t
          (not_lower _ _ (omega (arith, w.if-sums-s.false))) (kept w.sums-is)
    ])
