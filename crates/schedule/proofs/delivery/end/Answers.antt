-- `delivery::end`: the loop keeps the greatest of the last finish and of the arrivals looked at. A turn adds one; where a task has no
-- result, what would be added is its finish, which is no later than the last.
use Rattle.std.proofs.Common.{◌≡◌, List, ℕ, ◌+◌, ◌*◌, ◌<◌, max, get_or, arith}
use Rattle.base.specs.Rows.{most}
use Rattle.base.specs.Laws.Most.{most_more, none_yet}
use Rattle.etf.specs.Topology.{entry}
use Rattle.schedule.specs.Pass.{delivered_at, ToDeliver}
use Rattle.schedule.proofs.delivery.end.Goals as goal
use Rattle.schedule.proofs.delivery.end.Goals.{then-count-ne0, else-count-ne0}

module _ {m last : ℕ} {durations results : List ℕ} {costs : List (List ℕ)} {starts processors : List ℕ}
    (given : ToDeliver m last durations results costs starts processors) {end t : ℕ} (h : t < m)
    (so_far : end ≡ max last (most t (delivered_at durations results costs starts processors))) where
  abbrev at : ℕ → ℕ
  at = delivered_at durations results costs starts processors

  -- no result: the finish is no later than the last
  nothing : {after : ℕ} → get_or results t 0 ≡ 0 → after ≡ end → after ≡ max last (most (t + 1) at)
  unfolding delivered_at
  nothing e same =
      let free : get_or results t 0 * entry costs (get_or processors t 0) 0 ≡ 0 = rw e (omega arith) in
      omega (arith, so_far, most_more t at, given.finished t h, free, same)

  -- the later of the two
  later : {count p after : ℕ} → count ≡ get_or results t 0 → p ≡ get_or processors t 0
      → after ≡ max end (get_or starts t 0 + get_or durations t 0 + count * entry costs p 0) → after ≡ max last (most (t + 1) at)
  unfolding delivered_at
  later {count} {p} count_is p-is e =
      let is : at t ≡ get_or starts t 0 + get_or durations t 0 + count * entry costs p 0 = rw (count_is, p-is) in
      omega (arith, so_far, most_more t at, is, e)

pub loop-t-init : goal.loop-t-init
loop-t-init c =
    omega (
      arith,
      none_yet (delivered_at c.args.instance.now.durations.now c.args.results.now c.args.instance.now.costs.now
          c.args.plan.now.starts.now c.args.plan.now.processors.now),
    )

pub loop-t-preserved : goal.loop-t-preserved
loop-t-preserved c =
    let h = c.loop-t-test.true in
    let so_far = c.loop-t.invariant in
    (elim c.if-count-ne0.branch [
      | then-count-ne0 w ↦ later c.requires h so_far c.from-count.ensures w.from-p.ensures (omega (arith, w.end-is, w.max-end.ensures))
      | else-count-ne0 w ↦ nothing c.requires h so_far (omega (arith, c.from-count.ensures, w.if-count-ne0.false)) w.end-is
    ])
