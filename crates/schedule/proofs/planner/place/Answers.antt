-- `planner::place` writes the pair down, sends along the task's edges and skips the placed tasks: it promises what these three promise.
use mathlib.Core.Path.{ap}
use native.Mathlib.Omega.{arith}
use borrow.Author.Rules.{rules}
use Rattle.schedule.specs.declared.planner.Progress.{Progress}
use Rattle.schedule.proofs.planner.place.Goals as goal

pub put-requires : goal.put-requires
put-requires c =
    let asked = c.requires.to_place in
    record {
      task_in_bounds = (asked.has_start, asked.has_processor, asked.task_below);
      processor_in_bounds = omega (arith, asked.processor_below);
    }

pub send-requires : goal.send-requires
send-requires c =
    rw c.put.ensures.progress_after c.requires.to_place.sending

pub skip-progress-requires : goal.skip-progress-requires
skip-progress-requires c =
    let ordered = c.requires.order_in in
    record {
      low_bound = rw c.put.ensures.progress_after c.requires.to_place.low_most;
      in_order = λ i h. (omega (arith, h, ordered.places), ordered.below i h);
    }

pub returns : goal.returns
returns c = record {
  clock_after = ap (λ (p : Progress). p.clock) c.put.ensures.progress_after;
  waiting_size = search rules;
  placed = record {
    starts_are = c.put.ensures.starts_after;
    processors_are = c.put.ensures.processors_after;
    busy_are = ap (λ (p : Progress). p.busy) c.put.ensures.progress_after;
    sent = rw c.put.ensures.progress_after at c.send.ensures;
    skipped = rw c.put.ensures.progress_after at c.skip-progress.ensures;
  };
}
