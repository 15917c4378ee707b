-- `lines`: the lines put so far are those of the first tasks.
use mathlib.Core.Path.{◌≡◌}
use native.Mathlib.Omega.{arith}
use borrow.Author.Rules.{rules}
use Rattle.listing.specs.Laws.Put.{lines_none, lines_more}
use Rattle.listing.proofs.lines.Goals as goal

pub loop-t-init : goal.loop-t-init
loop-t-init c = record { short = search rules; put = lines_none _ _ _ _ _ }

pub overflow_add-finish : goal.overflow_add-finish
overflow_add-finish c =
    record { fits = c.requires.by_index c.loop-t.t (omega (arith, c.loop-t-test.true)) }

pub loop-t-preserved : goal.loop-t-preserved
loop-t-preserved c = record {
  short = search rules;
  put = lines_more _ _ _ _ _ _ _ _ c.loop-t.invariant.put c.task-place.ensures.put
      (omega arith) (omega (arith, c.from.ensures)) (omega arith) (omega arith);
}

pub returns-clause-put : goal.returns-clause-put
returns-clause-put c = let e : c.loop-t.t ≡ c.args.tasks = omega arith in rw e at c.loop-t.invariant.put
