-- `fill`: the loop over the links keeps `Going`, the answer to the file with the job that the arrays hold so far; each return is that
-- answer after a part of the file.
use mathlib.Core.Path.{ap}
use Rattle.base.specs.Laws.Tests.{when_false}
use Rattle.std.proofs.lemmas.Result.{err_from_is_err_and}
use Rattle.job.specs.declared.Arrays.{Arrays}
use Rattle.job.specs.Job.{blank}
use Rattle.job.specs.Read.{padded, arrays_of}
use Rattle.job.specs.Laws.Taking.{begun, on, undelivered, Ready, results-met, taken, untaken, end-met, accept}
use Rattle.job.proofs.fill.Goals as goal
use Rattle.job.proofs.fill.Goals.{Joined-stands, then-stands+in_ok-at, else-stands}

-- after the results, if there are any
at-end : (c : Joined-stands) → Ready c.loop-least.invariant c.if-stands.arrays c.if-stands.at
at-end c =
    let g = c.loop-least.invariant in
    let no-link = c.stands.ensures.no (when_false c.loop-least-test.false) in
    elim c.if-stands.branch [
      | then-stands+in_ok-at w ↦ rw (w.arrays-is, w.at-is) (taken g w.senders-sent.ensures _ _ w.in_ok-at.ensures no-link)
      | else-stands w ↦ rw (w.arrays-is, w.at-is) (untaken g (c.stands-2.ensures.no (when_false w.if-stands.false)) no-link)
    ]

pub wires-requires : goal.wires-requires
unfolding arrays_of blank
wires-requires c =
    let x = c.in_ok-platform.ensures in
    (x.inside, x.in_range_lem, ap (λ (a : Arrays). a.wires) c.requires)

pub steps-requires : goal.steps-requires
unfolding arrays_of padded blank
steps-requires c =
    (c.in_ok-start.ensures.inside, ap (λ (a : Arrays). a.durations) c.requires)

pub loop-least-init : goal.loop-least-init
loop-least-init c =
    begun _ _ c.in_ok-platform.ensures _ _ c.in_ok-start.ensures _ _ _ c.in_ok-steps.ensures _ c.requires

pub loop-least-preserved : goal.loop-least-preserved
loop-least-preserved c =
    on c.loop-least.invariant _ c.in_ok-link.ensures _ c.key-least.ensures.0

pub results-requires : goal.results-requires
results-requires c =
    let g = c.loop-least.invariant in
    (g.inside, g.few_tasks, undelivered g)

pub returns-in_err-at : goal.returns-in_err-at
returns-in_err-at c =
    let p = err_from_is_err_and c.from_residual-in_err-at.result c.from_residual-in_err-at.ensures.1 in
    rw (p.1, p.2) (results-met c.loop-least.invariant c.senders-sent.ensures _ c.in_err-at.ensures)

pub returns-in_err-end : goal.returns-in_err-end
returns-in_err-end c =
    let p = err_from_is_err_and c.from_residual-in_err-end.result c.from_residual-in_err-end.ensures.1 in
    rw (p.1, p.2) (end-met c.loop-least.invariant (at-end (goal.at.returns-in_err-end c).Joined-stands) _ c.in_err-end.ensures)

pub returns : goal.returns
returns c =
    accept c.loop-least.invariant (at-end (goal.at.returns c).Joined-stands) _ c.in_ok-end.ensures
