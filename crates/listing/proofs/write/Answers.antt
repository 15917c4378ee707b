-- `write`: what the pieces put one after the other is the listing of the file.
use mathlib.Core.Path.{refl}
use Prim.Native.Nat.{◌≤◌}
use native.Mathlib.Omega.{arith}
use borrow.Author.Rules.{rules}
use Rattle.listing.specs.Laws.Listed.{refused_listed, few_tasks, few_edges, arrays_reach, finish_fits, plans_all, covers_all, plan_listed}
use Rattle.listing.proofs.write.Goals as goal

pub returns-in_default : goal.returns-in_default
returns-in_default c =
    let read = c.read-r.ensures in
    record {
      out_after = refused_listed _ _ read c.in_default.is (omega (arith, c.number.ensures)) c.refusal.ensures.out_after;
      upper_bound = c.refusal.ensures.upper_bound;
    }

pub unreachable-requires : goal.unreachable-requires
unreachable-requires c =
    plans_all _ c.read-r.ensures c.in-Counts.is _ _ _ _ refl refl refl c.plan.ensures c.in_default-plan.is

pub unreachable-requires-in_default-cover : goal.unreachable-requires-in_default-cover
unreachable-requires-in_default-cover c =
    covers_all _ c.read-r.ensures c.in-Counts.is _ _ _ _ refl refl refl c.plan.ensures _ c.cover.ensures c.in_default-cover.is

pub header-first-requires : goal.header-first-requires
header-first-requires c = (
  few_tasks _ c.read-r.ensures c.in-Counts.is,
  few_edges _ c.read-r.ensures c.in-Counts.is,
  search rules,
)

pub lines-last-requires : goal.lines-last-requires
lines-last-requires c =
    let read = c.read-r.ensures in
    let few = few_tasks _ read c.in-Counts.is in
    record {
      tasks_bound = (few, omega (arith, few, c.header-first.ensures.upper_bound, c.header-first.auto.out));
      tasks_in_bounds = arrays_reach _ read c.in-Counts.is _ _ _ _ refl refl refl c.plan.ensures _ c.cover.ensures;
      by_index = finish_fits _ read c.in-Counts.is _ _ _ _ refl refl refl c.plan.ensures _ c.cover.ensures;
    }

pub figures-requires : goal.figures-requires
figures-requires c =
    let few = few_tasks _ c.read-r.ensures c.in-Counts.is in
    omega (arith, few, c.header-first.ensures.upper_bound, c.header-first.auto.out, c.lines-last.ensures.upper_bound, c.lines-last.auto.out)

pub returns : goal.returns
returns c =
    let read = c.read-r.ensures in
    let few = few_tasks _ read c.in-Counts.is in
    let short : c.figures.result ≤ 12288 = omega
    (arith, few, c.header-first.ensures.upper_bound, c.lines-last.ensures.upper_bound, c.figures.ensures.upper_bound) in
    record {
      out_after = plan_listed _ read c.in-Counts.is _ _ _ _ refl refl refl c.plan.ensures _ c.cover.ensures c.in-Ok.is c.in-Ok-cover.is
          c.header-first.ensures.put c.lines-last.ensures.put c.figures.ensures.put (omega (arith, short));
      upper_bound = short;
    }
