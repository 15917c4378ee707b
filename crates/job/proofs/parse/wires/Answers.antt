-- `parse::wires`: the loop keeps that the answer to the file is the answer to its rest, with the wires taken so far; their pairs and those
-- that are due are all pairs, so that where none is due the array holds the wires that were taken.
use mathlib.Core.Path.{◌≡◌, ap, sym}
use mathlib.Core.List.{List, []}
use Prim.Native.Nat.{ℕ, ◌≤◌}
use native.Mathlib.Omega.{arith}
use lib.ListN.{length, drop}
use Rattle.std.specs.Prelude.{Option}
use Rattle.base.specs.Laws.Tests.{when_true, when_false}
use Rattle.job.specs.declared.record.Pair.{Pair}
use Rattle.std.proofs.lemmas.Result.{err_from_is_err_and}
use Rattle.job.specs.Job.{blank, with_rack}
use Rattle.job.specs.Read.{records, wire_array}
use Rattle.job.specs.Pass.{OnPair, PairAfter}
use Rattle.job.specs.Laws.Tests.{platform_facts}
use Rattle.job.specs.Laws.Due.{no_wires}
use Rattle.job.specs.Laws.Wires.{first_pair, next_on, one_next, none_next}
use Rattle.job.proofs.parse.wires.Invariants.{joined, Going, none, bad, early, done, on}
use Rattle.job.proofs.parse.wires.Goals as goal
use Rattle.job.proofs.parse.wires.Goals.{In_ok-wire}

begun : (file : List ℕ) (start n : ℕ) (costs : List ℕ) (due : Option Pair) → PairAfter n record { from = 0; to = 0 } due →
    costs ≡ wire_array [] → start ≤ length file → Going file start n costs due start
begun file start n costs due a e h =
    record {
      ws = [];
      pairs_are = first_pair n due a;
      costs_are = e;
      on = a.on;
      inside = h;
      same = λ p w. ap (records (drop start file) 0) (sym (no_wires (with_rack blank p)));
    }

pub returns-then-platform : goal.returns-then-platform
returns-then-platform c =
    let pre = c.requires in
    none _ _ _ _ pre.1 c.if-platform.true pre.2 pre.0

pub pair_after-due-requires : goal.pair_after-due-requires
pair_after-due-requires c =
    let f = platform_facts _ c.requires.1 in
    (f.1, f.0, f.0)

pub loop-due-init : goal.loop-due-init
loop-due-init c =
    begun _ _ _ _ _ c.pair_after-due.ensures c.requires.2 c.requires.0

-- the pair of a turn
turn-pair : (w : In_ok-wire) → OnPair w.args.platform.processors w.in_ok-wire.wire.pair
turn-pair w = next_on _ _ _ w.loop-due.invariant.on (w.in_ok-wire.ensures _ w.loop-due.invariant.on).is_due_lem

pub wire-requires : goal.wire-requires
wire-requires c =
    c.stands.ensures.yes (when_true c.loop-due-test.true)

pub returns-in_err-wire : goal.returns-in_err-wire
returns-in_err-wire c =
    let p = err_from_is_err_and c.from_residual.result c.from_residual.ensures.1 in
    rw (p.1, p.2)
    (bad _ _ _ _ _ _ c.loop-due.invariant _ (joined _ c.requires.1 c.if-platform.false) _
    (c.in_err-wire.ensures _ c.loop-due.invariant.on))

pub place-requires : goal.place-requires
place-requires c =
    let few = (platform_facts _ c.requires.1).1 in
    let o = turn-pair (goal.at.place-requires c).In_ok-wire in
    (omega (arith, o.from_below, few), omega (arith, o.to_below, few))

pub pair_after-due-requires-in-loop-due : goal.pair_after-due-requires-in-loop-due
pair_after-due-requires-in-loop-due c =
    let o = turn-pair (goal.at.pair_after-due-requires-in-loop-due c).In_ok-wire in
    ((platform_facts _ c.requires.1).1, o.from_below, o.to_below)

pub loop-due-preserved : goal.loop-due-preserved
loop-due-preserved c =
    on _ _ _ _ _ _ c.loop-due.invariant (platform_facts _ c.requires.1).1 _ (c.in_ok-wire.ensures _ c.loop-due.invariant.on)
    _ c.place.ensures.0 _ c.pair_after-due-in-loop-due.ensures

pub early-requires : goal.early-requires
early-requires c =
    c.stands.ensures.no (when_false c.loop-due-test.false)

pub returns-then-is_some : goal.returns-then-is_some
returns-then-is_some c =
    early _ _ _ _ _ _ c.loop-due.invariant _ (joined _ c.requires.1 c.if-platform.false)
    (one_next _ (sym c.if-is_some.ensures)) _ c.early.ensures

pub returns : goal.returns
returns c =
    done _ _ _ _ _ _ c.loop-due.invariant _ (joined _ c.requires.1 c.if-platform.false) (none_next _ (sym c.if-is_some.ensures))
    (c.stands.ensures.no (when_false c.loop-due-test.false))
