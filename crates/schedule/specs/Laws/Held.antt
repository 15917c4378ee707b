-- The instance that arrays hold, in its own terms: it is well formed, its tasks and edges are the arrays', and its times have bounds.
use Rattle.std.specs.Prelude.{◌≡◌, ◌⊎◌, ℕ, zero, suc, ◌≤◌, ◌<◌, length}
use Rattle.std.proofs.Math.Path.{sym, ap}
use Rattle.std.proofs.Common.{subst, ◌∙◌, inl, inr}
use native.Mathlib.Omega.{arith}
use Rattle.std.proofs.Math.ListN.{get_or}
use Rattle.base.specs.Lists.{values, ◌∈◌}
use Rattle.base.specs.Laws.Tests.{le_or_lt}
use Rattle.base.specs.Laws.Lists.{place}
use Rattle.base.specs.Laws.Values.{length-values, value_at, value_in, for_values}
use Rattle.job.specs.Limits.{most_duration}
use Rattle.job.specs.Job.{Edge}
use Rattle.job.specs.Accepted.{Before}
use Rattle.job.specs.Write.{edge_held}
use Rattle.etf.specs.Instance.{Instance, ordered, WellFormed, tasks, duration, into, message_time}
use Rattle.etf.specs.Schedule.{Placement, finish, arrival, last_finish}
use Rattle.etf.specs.Rule.{begin, run, planned}
use Rattle.etf.specs.Dearest.{dearest}
use Rattle.etf.specs.Bounds.{most_message_time, most_finish, most_arrival}
use Rattle.etf.proofs.Laws.Ordered.{dearest_ordered}
use Rattle.etf.proofs.Laws.Placements.{into_of, into_in}
use Rattle.etf.proofs.Laws.Sound.{Opened}
use Rattle.etf.proofs.Laws.Times.{clock_after, finish_after, last_most, arrival_after}
use Rattle.schedule.specs.InArrays.{InArrays, reordered, Plannable, instance_in}

module _ {A : InArrays} (F : Plannable A) where
  abbrev I : Instance
  I = instance_in A

  pub held_tasks : tasks I ≡ A.tasks
  unfolding instance_in
  held_tasks = length-values (λ T. get_or A.durations T 0) 0 A.tasks

  pub held_few : tasks I ≤ 256
  held_few = omega (arith, held_tasks, F.few_tasks)

  -- ---- the tasks

  pub timed : (T : ℕ) → T < tasks I → get_or A.durations T 0 ≡ duration I T
  unfolding instance_in duration
  timed T h = sym (value_at (λ T. get_or A.durations T 0) 0 A.tasks T (omega (arith, held_tasks)))

  pub short_tasks : (T : ℕ) → T < tasks I → duration I T ≤ most_duration
  short_tasks T h = omega (arith, timed T h, F.short T (omega (arith, held_tasks)))

  -- ---- the edges

  -- what holds of each edge of the arrays holds of each edge
  each : (P : Edge → Type 0) → ((k : ℕ) → k < A.edges → P (edge_held A.from A.to A.counts k)) → (e : Edge) → e ∈ I.edges → P e
  unfolding instance_in
  each P f e h = for_values (edge_held A.from A.to A.counts) P 0 A.edges (λ k a b. f k (omega arith)) e h

  pub within : (k : ℕ) → k < A.edges → (get_or A.from k 0 < get_or A.to k 0) × (get_or A.to k 0 < tasks I)
  within k h = (F.forward k h, omega (arith, F.within k h, held_tasks))

  -- no edge has a lower source than the one before it
  step : (k : ℕ) → suc k < A.edges → get_or A.from k 0 ≤ get_or A.from (suc k) 0
  unfolding edge_held
  step k h = go (F.rising k h)
    where
      go : Before (edge_held A.from A.to A.counts k) (edge_held A.from A.to A.counts (suc k))
          → get_or A.from k 0 ≤ get_or A.from (suc k) 0
      go (inl b) = omega arith
      go (inr b) = omega (arith, b.0)

  pub climb : (i k : ℕ) → i ≤ k → k < A.edges → get_or A.from i 0 ≤ get_or A.from k 0
  climb i zero h b = let e : i ≡ 0 = omega arith in rw e (omega arith)
  climb i (suc k) h b = go (le_or_lt i k) (λ q. climb i k q (omega arith))
    where
      go : (i ≤ k) ⊎ (k < i) → (i ≤ k → get_or A.from i 0 ≤ get_or A.from k 0) → get_or A.from i 0 ≤ get_or A.from (suc k) 0
      go (inl q) r = omega (arith, r q, step k b)
      go (inr q) r = let e : i ≡ suc k = omega arith in rw e (omega arith)

  pub edges_there : (A.edges ≤ length A.from) × (A.edges ≤ length A.to) × (A.edges ≤ length A.counts)
  edges_there = (
    omega (arith, F.few_edges, F.from_size),
    omega (arith, F.few_edges, F.to_size),
    omega (arith, F.few_edges, F.counts_size),
  )

  -- an edge into task T stands at a place
  pub edge_place : (T : ℕ) (d : Edge) → d ∈ into I T
      → (k : ℕ) × (k < A.edges) × (edge_held A.from A.to A.counts k ≡ d) × (get_or A.to k 0 ≡ T)
  unfolding instance_in edge_held
  edge_place T d h =
      let held = edge_held A.from A.to A.counts in
      let w = into_of I T d h in
      let z = place (held 0) (values held 0 A.edges) d w.0 in
      let b : z.0 < A.edges = omega (arith, z.1, length-values held 0 A.edges) in
      let q : held z.0 ≡ d = sym (value_at held (held 0) A.edges z.0 b) ∙ z.2 in
      (z.0, b, q, ap (λ (a : Edge). a.to) q ∙ w.1)

  -- and the edge at a place goes into its task
  pub edge_into : (T k : ℕ) → k < A.edges → get_or A.to k 0 ≡ T → edge_held A.from A.to A.counts k ∈ into I T
  unfolding instance_in edge_held
  edge_into T k h e =
      into_in I T (edge_held A.from A.to A.counts k) (value_in (edge_held A.from A.to A.counts) A.edges k h) e

  -- ---- the instance

  all_in : (T : ℕ) → T < A.tasks → T ∈ values A.order 0 A.tasks
  all_in T h =
      let z = F.ordered.each T h in
      subst (λ (U : ℕ). U ∈ values A.order 0 A.tasks) z.2 (value_in A.order A.tasks z.0 z.1)

  pub well : WellFormed I
  unfolding instance_in duration edge_held
  well = record {
    some_processor = F.some_processor;
    some_task = omega (arith, held_tasks, F.some_task);
    takes_time = λ T h. omega (arith, timed T h, F.takes_time T (omega (arith, held_tasks)));
    goes_up = each (λ e. (e.from < e.to) × (e.to < tasks I)) within;
    has_all = λ T h. all_in T (omega (arith, held_tasks));
    has_only = λ T h.
        omega (arith, held_tasks, for_values A.order (λ U. U < A.tasks) 0 A.tasks (λ i a b. F.ordered.within i (omega arith)) T h);
  }

  pub near_processors : (e : Edge) → e ∈ I.edges → (p q : ℕ) → p < I.processors → q < I.processors
      → message_time I e p q ≤ most_message_time
  unfolding instance_in message_time edge_held
  near_processors e h p q s t = each (λ e. message_time I e p q ≤ most_message_time) (λ k b. F.near k p q b) e h

  -- ---- how late the planner's times can be, after any number of rounds

  pub no_clock_passes : (k : ℕ) → (run I k begin).clock ≤ most_arrival
  no_clock_passes k = omega (arith, clock_after I well most_duration most_message_time short_tasks near_processors k, held_few)

  pub no_finish_passes : (k : ℕ) (u : Placement) → u ∈ (run I k begin).placements → finish I u ≤ most_finish
  no_finish_passes k u h = omega (arith, finish_after I well most_duration most_message_time short_tasks near_processors k u h, held_few)

  pub no_last_passes : last_finish I (planned I) ≤ most_finish
  no_last_passes = omega (arith, last_most I well most_duration most_message_time short_tasks near_processors, held_few)

  pub no_arrival_passes : (k T P : ℕ) → Opened I (run I k begin).placements T → P < I.processors
      → arrival I (run I k begin).placements T P ≤ most_arrival
  no_arrival_passes k T P o p =
      omega (arith, arrival_after I well most_duration most_message_time short_tasks near_processors k T P o p, held_few)

-- ---- the tasks in another order

-- the dearest chain is the same
pub same_dearest : (A : InArrays) (order : ℕ → ℕ) → dearest (instance_in (reordered order A)) ≡ dearest (instance_in A)
unfolding instance_in ordered
same_dearest A order = dearest_ordered (instance_in A) (values order 0 A.tasks)
