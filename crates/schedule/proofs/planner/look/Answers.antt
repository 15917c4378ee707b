-- `planner::look` hands the free processors that the survey lists, each below n, on to the search.
use native.Mathlib.Omega.{arith}
use lib.ListN.{take}
use Rattle.schedule.specs.Handed.{plannable}
use Rattle.schedule.specs.Laws.Planner.SearchSteps.{freed}
use Rattle.schedule.proofs.planner.look.Goals as goal

pub choose-pair-requires : goal.choose-pair-requires
choose-pair-requires g c =
    let F = plannable c.args.instance.now in
    let free = freed c.survey-moment.ensures
    (omega (arith, c.survey-moment.ensures.few, F.few_processors, c.survey-moment.array_long)) in
    record {
      clock_bound = c.requires.clock_bound;
      in_order = c.requires.in_order;
      may_try = c.requires.may_try;
      free_in_bounds = λ i h. omega (arith, free.below i h, c.requires.processors_in_bounds);
    }

pub returns : goal.returns
returns g c =
    let F = plannable c.args.instance.now in
    let free = freed c.survey-moment.ensures
    (omega (arith, c.survey-moment.ensures.few, F.few_processors, c.survey-moment.array_long)) in
    record {
      free = take c.survey-moment.result.free c.survey-moment.new.free;
      count = _;
      next = c.survey-moment.ensures.next;
      listed = free.listed;
      found = c.choose-pair.ensures;
    }
