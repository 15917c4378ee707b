-- `small::place` writes the pair and its finish down, tells the task's successors and skips the placed tasks: it promises what these three
-- promise.
use Prim.Native.Nat.{◌+◌}
use mathlib.Core.Path.{ap}
use lib.ListN.{length-set}
use native.Mathlib.Omega.{arith}
use borrow.Author.Rules.{rules}
use Rattle.schedule.specs.declared.planner.Progress.{Progress}
use Rattle.schedule.proofs.small.place.Goals as goal

pub put-requires : goal.put-requires
put-requires c =
    record {
      task_in_bounds = (c.requires.has_start, c.requires.has_processor, c.requires.task_below);
      processor_in_bounds = c.requires.processor_below;
    }

pub tell-requires : goal.tell-requires
tell-requires c =
    let asked = c.requires.telling in
    rw c.put.ensures.progress_after (record {
      rises = asked.rises;
      has_to = asked.has_to;
      enough = asked.enough;
      waiting_size = asked.waiting_size;
      scratch_room = omega (arith, asked.scratch_room, length-set c.args.scratch.now (256 + c.args.done.pair.task) c.args.done.finish);
    })

pub skip-progress-requires : goal.skip-progress-requires
skip-progress-requires c =
    record { low_bound = rw c.put.ensures.progress_after c.requires.low_most; in_order = λ i h. omega (arith, h, c.requires.few_tasks) }

pub returns : goal.returns
returns c = record {
  clock_after = ap (λ (p : Progress). p.clock) c.put.ensures.progress_after;
  waiting_size = search rules;
  entered = record {
    starts_are = c.put.ensures.starts_after;
    processors_are = c.put.ensures.processors_after;
    busy_are = ap (λ (p : Progress). p.busy) c.put.ensures.progress_after;
    told = rw c.put.ensures.progress_after at c.tell.ensures;
    skipped = rw c.put.ensures.progress_after at c.skip-progress.ensures;
  };
}
