-- `planner::run` plans: after each round the arrays are in step with the rule (`Invariant`).
use mathlib.Core.Path.{◌≡◌, refl, sym, ◌∙◌}
use mathlib.Core.List.{List, []}
use lib.ListN.{get_or}
use Prim.Native.Nat.{ℕ, ◌+◌, ◌<◌}
use native.Mathlib.Omega.{arith}
use Rattle.base.specs.Laws.Lists.{zeros_at}
use Rattle.graph.specs.Graph.{Runs}
use Rattle.graph.specs.Laws.Rising.{runs_of}
use Rattle.graph.specs.Laws.ByPlace.{counts_at}
use Rattle.schedule.specs.declared.planner.Pair.{Pair}
use Rattle.schedule.specs.InArrays.{InArrays, reordered, Plannable, plannable_in_order}
use Rattle.schedule.specs.Handed.{in_arrays, plannable}
use Rattle.schedule.specs.Pass.{OrderIn, Room, Tables, ToPlace, Placed, tables, inbox}
use Rattle.schedule.specs.Laws.Held.{climb, edges_there}
use Rattle.schedule.specs.Laws.Planner.Invariant.{Invariant, holds_first, holds_last, clock_small, arrivals_room}
use Rattle.schedule.specs.Laws.Planner.Invariant.{task_small, finish_small, to_place, holds_placed, holds_moved}
use Rattle.schedule.specs.Laws.Planner.Ends.{goes_down}
use Rattle.schedule.proofs.planner.run.Goals as goal
use Rattle.schedule.proofs.planner.run.Goals.{At-loop-progress, In-loop-progress, After-max-end, Else-pair-next}

-- a pair, and the ends of its run of edges, by other names
module _ (costs : List (List ℕ)) {pair pair' : Pair} {finish low m n first last first' last' : ℕ} {to counts : List ℕ} {S : Tables}
    (p : pair' ≡ pair) (d : first' ≡ first) (e : last' ≡ last) where
  asked_of : ToPlace pair finish first last low m n (get_or costs pair.processor []) to counts S
      → ToPlace pair' finish first' last' low m n (get_or costs pair'.processor []) to counts S
  asked_of t = rw (p, d, e) t

  placed_of : {order : ℕ → ℕ} {S' : Tables} {r : ℕ}
      → Placed pair' finish first' last' low m n order (get_or costs pair'.processor []) to counts S S' r
      → Placed pair finish first last low m n order (get_or costs pair.processor []) to counts S S' r
  placed_of t = rw (p, d, e) at t

-- ---- what is known at the loop

module _ (a : At-loop-progress) where
  abbrev A : InArrays
  A = reordered (λ i. get_or a.args.order.now i 0) (in_arrays a.args.instance.now)

  abbrev given : Plannable A
  given = plannable_in_order (plannable a.args.instance.now) a.requires.ordered

  abbrev room : Room a.args.instance.now.tasks a.args.starts.now a.args.processors.now a.args.arrivals.now
  room = a.requires.tasks_in_bounds.1

  ordered : OrderIn a.args.instance.now.tasks a.args.order.now
  ordered = record {
    places = a.requires.tasks_in_bounds.0;
    below = λ i h. omega (arith, given.ordered.within i h, given.few_tasks);
  }

  -- the edges of each task are one run
  edge_runs : Runs a.args.instance.now.from.now a.args.instance.now.tasks a.args.instance.now.edges a.runs-runs.result
  edge_runs = runs_of _ _ _ (climb given) given.few_tasks (edges_there given).0
      (omega (arith, given.few_edges)) a.runs-runs.ensures

-- in the loop tasks remain
module _ (q : In-loop-progress) where
  remain : q.loop-progress.progress.low < q.args.instance.now.tasks
  remain = omega (arith, q.loop-progress-test.true, q.loop-progress.invariant.1.in_step.low_most)

pub loop-progress-init : goal.loop-progress-init
loop-progress-init c =
    let F = plannable_in_order (plannable c.args.instance.now) c.requires.ordered in
    let counted = counts_at _ _ (edges_there F).1 (omega (arith, F.few_edges)) c.fill_counts.ensures in
    (0, holds_first F c.requires.tasks_in_bounds.1 refl refl refl counted.0 counted.1 refl (zeros_at 256) refl (zeros_at 16))

pub look-choice-requires : goal.look-choice-requires
look-choice-requires c =
    let a = (goal.at.look-choice-requires c).At-loop-progress in
    let Y = c.loop-progress.invariant.1 in
    let row = ordered a in
    let wide = arrivals_room (given a) (room a) Y in
    record {
      clock_bound = (clock_small (given a) (room a) Y, Y.in_step.low_most, omega (arith, Y.latest_size));
      in_order = λ i h. (omega (arith, h, row.places), row.below i h);
      may_try = λ i h s. (row.below i h, wide);
      processors_in_bounds = (given a).few_processors;
    }

pub finish-done-requires : goal.finish-done-requires
finish-done-requires c =
    let a = (goal.at.finish-done-requires c).At-loop-progress in
    let q = (goal.at.finish-done-requires c).In-loop-progress in
    let Y = c.loop-progress.invariant.1 in
    record {
      task_in_bounds = task_small (given a) (room a) Y (remain q) c.look-choice.ensures (omega (arith, c.if-pair-next.true));
      in_time = finish_small (given a) (room a) Y (remain q) c.look-choice.ensures (omega (arith, c.if-pair-next.true));
    }

pub place-requires : goal.place-requires
place-requires c =
    let a = (goal.at.place-requires c).At-loop-progress in
    let q = (goal.at.place-requires c).In-loop-progress in
    let done = c.finish-done.ensures in
    record {
      to_place = asked_of c.args.instance.now.costs.now done.pair_value done.first_value done.last_value
          (to_place (given a) (room a) c.loop-progress.invariant.1 (remain q) c.look-choice.ensures
          (omega (arith, c.if-pair-next.true)) (edge_runs a) done.finish_value);
      order_in = ordered a;
    }

-- ---- one round more

module _ (c : After-max-end) where
  abbrev a : At-loop-progress
  a = (goal.at.loop-progress-preserved-then-pair-next c).At-loop-progress

  abbrev q : In-loop-progress
  q = (goal.at.loop-progress-preserved-then-pair-next c).In-loop-progress

  after_placed : Invariant (A a) c.args.starts.now c.args.processors.now c.args.arrivals.now
      (tables c.place.new.starts c.place.new.processors c.place.new.progress.busy
      (inbox c.place.new.arrivals c.place.new.progress.waiting c.place.new.latest))
      c.place.new.progress.clock c.max-end.result c.place.new.progress.low (c.loop-progress.invariant.0 + 1)
  after_placed =
      let Y = c.loop-progress.invariant.1 in
      let done = c.finish-done.ensures in
      rw c.place.ensures.clock_after
      (holds_placed (given a) (room a) Y (remain q) c.look-choice.ensures (omega (arith, c.if-pair-next.true)) (edge_runs a)
      done.finish_value
      (placed_of c.args.instance.now.costs.now done.pair_value done.first_value done.last_value c.place.ensures.placed)
      c.max-end.ensures
      c.place.auto.arrivals (c.place.ensures.waiting_size ∙ sym Y.waiting_size) (omega (arith, c.type_inv.latest, Y.latest_size)))

module _ (c : Else-pair-next) where
  abbrev b : At-loop-progress
  b = (goal.at.loop-progress-preserved c).At-loop-progress

  after_moved : Invariant (A b) c.args.starts.now c.args.processors.now c.args.arrivals.now
      (tables c.loop-progress.starts c.loop-progress.processors c.loop-progress.progress.busy
      (inbox c.loop-progress.arrivals c.loop-progress.progress.waiting c.loop-progress.latest))
      c.look-choice.result.next c.loop-progress.end c.loop-progress.progress.low (c.loop-progress.invariant.0 + 1)
  after_moved =
      holds_moved (given b) (room b) c.loop-progress.invariant.1 (remain (goal.at.loop-progress-preserved c).In-loop-progress)
      c.look-choice.ensures c.if-pair-next.false

pub loop-progress-preserved-then-pair-next : goal.loop-progress-preserved-then-pair-next
loop-progress-preserved-then-pair-next c =
    (_, after_placed c)

pub loop-progress-smaller-then-pair-next : goal.loop-progress-smaller-then-pair-next
loop-progress-smaller-then-pair-next c =
    goes_down (given (a c)) (room (a c)) c.loop-progress.invariant.1 (after_placed c) (remain (q c))

pub loop-progress-preserved : goal.loop-progress-preserved
loop-progress-preserved c =
    (_, after_moved c)

pub loop-progress-smaller : goal.loop-progress-smaller
loop-progress-smaller c =
    goes_down (given (b c)) (room (b c)) c.loop-progress.invariant.1 (after_moved c)
    (remain (goal.at.loop-progress-smaller c).In-loop-progress)

pub returns : goal.returns
returns c =
    let a = (goal.at.returns c).At-loop-progress in
    holds_last (given a) (room a) c.loop-progress.invariant.1 c.loop-progress-test.false
