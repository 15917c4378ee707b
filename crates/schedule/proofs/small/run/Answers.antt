-- `small::run` plans: after each round the slices and a table of arrivals, which no array holds, are in step with the rule (`Following`).
use mathlib.Core.Path.{◌≡◌, refl, sym, ◌∙◌}
use mathlib.Core.List.{List, replicate}
use Prim.Native.Nat.{ℕ, ◌+◌, ◌<◌}
use native.Mathlib.Omega.{arith}
use Rattle.base.specs.Laws.Lists.{zeros_at}
use Rattle.graph.specs.Graph.{Runs, Listed}
use Rattle.graph.specs.Laws.Rising.{runs_of}
use Rattle.graph.specs.Laws.ByPlace.{counts_at}
use Rattle.graph.specs.Laws.Listed.{listed_of}
use Rattle.schedule.specs.declared.planner.Pair.{Pair}
use Rattle.schedule.specs.InArrays.{InArrays, Plannable}
use Rattle.schedule.specs.Handed.{in_arrays, plannable}
use Rattle.schedule.specs.SmallPass.{Sheet, sheet, ToEnter, Entered, SmallRoom}
use Rattle.schedule.specs.Laws.Held.{climb, edges_there}
use Rattle.schedule.specs.Laws.Planner.WithoutTable.{Following, follows_first, follows_last, follows_moved, follows_placed}
use Rattle.schedule.specs.Laws.Planner.WithoutTable.{clock_low, goes_down_low, to_look, task_low, finish_low, to_enter}
use Rattle.schedule.proofs.small.run.Goals as goal
use Rattle.schedule.proofs.small.run.Goals.{At-loop-progress, In-loop-progress, After-max-end, Else-pair-moment}

-- a pair, and the ends of its run of edges, by other names
module _ {pair pair' : Pair} {low m first last first' last' : ℕ} {to : List ℕ} {H : Sheet}
    (p : pair' ≡ pair) (d : first' ≡ first) (e : last' ≡ last) where
  asked_of : ToEnter pair first last low m to H → ToEnter pair' first' last' low m to H
  asked_of t = rw (p, d, e) t

  entered_of : {finish : ℕ} {order : ℕ → ℕ} {H' : Sheet} {r : ℕ} → Entered pair' finish first' last' low m order to H H' r
      → Entered pair finish first last low m order to H H' r
  entered_of t = rw (p, d, e) at t

-- ---- what is known at the loop

module _ (a : At-loop-progress) where
  abbrev A : InArrays
  A = in_arrays a.args.instance.now

  abbrev given : Plannable A
  given = plannable a.args.instance.now

  abbrev room : SmallRoom A.tasks a.args.starts.now a.args.processors.now a.args.scratch.now
  room = a.requires

  -- the edges of each task are one run
  edge_runs : Runs A.from A.tasks A.edges a.runs-runs.result
  edge_runs =
      runs_of _ _ _ (climb given) given.few_tasks (edges_there given).0 (omega (arith, given.few_edges)) a.runs-runs.ensures

  -- those into each task are one list
  edge_lists : Listed A.to A.edges a.lists.new.first (replicate 1024 0) a.lists.new.next
  edge_lists = listed_of _ _ (edges_there given).1 given.few_edges a.lists.ensures

-- in the loop tasks remain
module _ (q : In-loop-progress) where
  remain : q.loop-progress.progress.low < q.args.instance.now.tasks
  remain = q.loop-progress-test.true

pub loop-progress-init : goal.loop-progress-init
loop-progress-init c =
    let F = plannable c.args.instance.now in
    let counted = counts_at _ _ (edges_there F).1 (omega (arith, F.few_edges)) c.fill_counts.ensures in
    (0, follows_first F c.requires refl refl refl counted.0 counted.1 refl (zeros_at 16))

pub look-choice-requires : goal.look-choice-requires
look-choice-requires c =
    let a = (goal.at.look-choice-requires c).At-loop-progress in
    let Y = c.loop-progress.invariant.1 in
    let few = (given a).few_tasks in
    record {
      clock_bound = (clock_low (given a) (room a) Y, Y.inner.in_step.low_most, omega (arith, Y.scratch_size, (room a).for_scratch));
      in_order = λ i h. omega (arith, h, few);
      may_try = λ i h s. (omega (arith, h, few), to_look (given a) (room a) Y {before = replicate 1024 0} (edge_lists a) i h s);
      processors_in_bounds = omega arith;
    }

pub finish-done-requires : goal.finish-done-requires
finish-done-requires c =
    let a = (goal.at.finish-done-requires c).At-loop-progress in
    let q = (goal.at.finish-done-requires c).In-loop-progress in
    let Y = c.loop-progress.invariant.1 in
    record {
      task_in_bounds = task_low (given a) (room a) Y c.look-choice.ensures (remain q) (omega (arith, c.if-pair-moment.true));
      in_time = finish_low (given a) (room a) Y c.look-choice.ensures (remain q) (omega (arith, c.if-pair-moment.true));
    }

pub place-requires : goal.place-requires
place-requires c =
    let a = (goal.at.place-requires c).At-loop-progress in
    let q = (goal.at.place-requires c).In-loop-progress in
    let done = c.finish-done.ensures in
    asked_of done.pair_value done.first_value done.last_value
    (to_enter (given a) (room a) c.loop-progress.invariant.1 c.look-choice.ensures (remain q) (omega (arith, c.if-pair-moment.true))
    (edge_runs a) done.finish_value)

-- ---- one round more

module _ (c : After-max-end) where
  abbrev a : At-loop-progress
  a = (goal.at.loop-progress-preserved-then-pair-moment c).At-loop-progress

  abbrev q : In-loop-progress
  q = (goal.at.loop-progress-preserved-then-pair-moment c).In-loop-progress

  after_placed : Following (A a) c.args.starts.now c.args.processors.now c.args.scratch.now
      (sheet c.place.new.starts c.place.new.processors c.place.new.progress.busy c.place.new.progress.waiting
      c.place.new.scratch)
      c.place.new.progress.clock c.max-end.result c.place.new.progress.low (c.loop-progress.invariant.0 + 1)
  after_placed =
      let Y = c.loop-progress.invariant.1 in
      let done = c.finish-done.ensures in
      rw c.place.ensures.clock_after
      (follows_placed (given a) (room a) Y c.look-choice.ensures (remain q) (omega (arith, c.if-pair-moment.true)) (edge_runs a)
      done.finish_value (entered_of done.pair_value done.first_value done.last_value c.place.ensures.entered) c.max-end.ensures
      (c.place.ensures.waiting_size ∙ sym Y.inner.waiting_size) c.place.auto.scratch)

module _ (c : Else-pair-moment) where
  abbrev b : At-loop-progress
  b = (goal.at.loop-progress-preserved c).At-loop-progress

  after_moved : Following (A b) c.args.starts.now c.args.processors.now c.args.scratch.now
      (sheet c.loop-progress.starts c.loop-progress.processors c.loop-progress.progress.busy c.loop-progress.progress.waiting
      c.loop-progress.scratch)
      c.look-choice.result.next c.loop-progress.end c.loop-progress.progress.low (c.loop-progress.invariant.0 + 1)
  after_moved =
      follows_moved (given b) (room b) c.loop-progress.invariant.1 c.look-choice.ensures
      (remain (goal.at.loop-progress-preserved c).In-loop-progress) c.if-pair-moment.false

pub loop-progress-preserved-then-pair-moment : goal.loop-progress-preserved-then-pair-moment
loop-progress-preserved-then-pair-moment c =
    (_, after_placed c)

pub loop-progress-smaller-then-pair-moment : goal.loop-progress-smaller-then-pair-moment
loop-progress-smaller-then-pair-moment c =
    goes_down_low (given (a c)) (room (a c)) c.loop-progress.invariant.1 (after_placed c) (remain (q c))

pub loop-progress-preserved : goal.loop-progress-preserved
loop-progress-preserved c =
    (_, after_moved c)

pub loop-progress-smaller : goal.loop-progress-smaller
loop-progress-smaller c =
    goes_down_low (given (b c)) (room (b c)) c.loop-progress.invariant.1 (after_moved c)
    (remain (goal.at.loop-progress-smaller c).In-loop-progress)

pub returns : goal.returns
returns c =
    let a = (goal.at.returns c).At-loop-progress in
    follows_last (given a) (room a) c.loop-progress.invariant.1 c.loop-progress-test.false
