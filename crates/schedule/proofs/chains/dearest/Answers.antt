-- `chains::dearest`: before edge k the array has for each task the dearest chain whose last edge is one of the first k. After the last edge
-- the greatest is the instance's dearest chain.
use Rattle.std.proofs.Common.{◌≡◌, ℕ, ◌<◌, length, refl, arith}
use Rattle.schedule.specs.declared.instance.Instance.{Instance}
use Rattle.schedule.specs.Handed.{plannable}
use Rattle.schedule.specs.CoverPass.{greatest_in}
use Rattle.schedule.specs.Laws.Held.{climb}
use Rattle.schedule.specs.Laws.Rows.Entry.{stored}
use Rattle.schedule.specs.Laws.Rows.Lifted.{raised}
use Rattle.schedule.specs.Laws.Walk.DearestChain.{messages_fit as messages_most, dearest_found}
use Rattle.schedule.proofs.chains.dearest.Invariants.{begun, done, Asked, messages_fit, sum_fits, more}
use Rattle.schedule.proofs.chains.dearest.Goals as goal

-- what is asked of the edges holds of an instance's
asked : (x : Instance) {cost : ℕ} → cost ≡ greatest_in x.costs.now x.processors → Asked x.from.now x.to.now x.counts.now x.edges cost
asked x e =
    let F = plannable x in record {
      rising = climb F;
      up = λ k h. (F.forward k h, omega (arith, F.within k h, F.few_tasks));
      near = messages_most F e;
    }

pub loop-k-init : goal.loop-k-init
loop-k-init c = begun _ _ _ _ _ _ refl

pub overflow_mul-sum : goal.overflow_mul-sum
overflow_mul-sum c =
    let fits = messages_fit _ _ _ _ _ (asked c.args.instance.now c.requires) c.loop-k.invariant c.loop-k-test.true c.from-s.ensures
    c.from.ensures in
    record { fits = omega (arith, fits) }

pub overflow_add-sum : goal.overflow_add-sum
overflow_add-sum c =
    let fits = sum_fits _ _ _ _ _ (asked c.args.instance.now c.requires) c.loop-k.invariant c.loop-k-test.true c.from-s.ensures
    c.from.ensures in
    record { fits = omega (arith, fits) }

pub loop-k-preserved : goal.loop-k-preserved
loop-k-preserved c =
    let S = c.loop-k.invariant in
    let A = asked c.args.instance.now c.requires in
    let there : c.from-t.result < length c.loop-k.sums = omega (arith, A.up c.loop-k.k c.loop-k-test.true, S.size) in
    more _ _ _ _ _ A S c.loop-k-test.true c.from-s.ensures c.from.ensures refl c.from-t.ensures
    (raised (stored there refl) c.max.ensures) c.max-most.ensures

pub returns : goal.returns
returns c =
    let e : c.loop-k.k ≡ c.args.instance.now.edges = omega arith in
    dearest_found (plannable c.args.instance.now) c.requires (done _ _ _ _ _ e c.loop-k.invariant)
