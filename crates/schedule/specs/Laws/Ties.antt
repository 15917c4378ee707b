-- Tie rules: an instance in arrays with its tasks by a rule, from the array that holds them in that order.
use Rattle.std.specs.Prelude.{◌≡◌, refl, ℕ, ◌<◌}
use Rattle.std.proofs.Common.{sym, subst, ◌∙◌, arith}
use Rattle.std.proofs.Math.Path.{ap}
use mathlib.Core.List.{List}
use Rattle.std.proofs.Math.ListN.{get_or}
use Rattle.base.specs.Lists.{◌∈◌, values}
use Rattle.base.specs.Laws.Lists.{place}
use Rattle.base.specs.Laws.Values.{length-values, value_at, value_in, values_back}
use Rattle.job.specs.Job.{Edge, Job}
use Rattle.job.specs.Write.{edge_held}
use Rattle.etf.specs.Instance.{Instance, ordered}
use Rattle.etf.specs.OfJob.{instance}
use Rattle.priority.specs.declared.Ties.{Ties}
use Rattle.priority.specs.Orders.{order_by, instance_by, every_task, only_tasks, as_many_tasks}
use Rattle.priority.specs.TasksIn.{TasksIn, edge_of}
use Rattle.schedule.specs.InArrays.{InArrays, reordered, instance_in, Ordering, Plannable, plannable_in_order}
use Rattle.schedule.specs.Pass.{tied_by}
use Rattle.schedule.specs.CoverPass.{HoldsPlan, HoldsIn}
use Rattle.schedule.specs.Laws.Held.{held_tasks, held_few, well, short_tasks, timed, climb}

module _ {A : InArrays} (F : Plannable A) where
  edge_at : (k : ℕ) → k < A.edges → edge_of (instance_in A).edges k ≡ edge_held A.from A.to A.counts k
  unfolding instance_in
  edge_at k h = value_at (edge_held A.from A.to A.counts) (record { from = 0; to = 0; count = 0 }) A.edges k h

  -- the arrays hold its tasks and edges
  pub tasks_in : TasksIn (instance_in A) A.edges A.durations A.from A.to
  unfolding instance_in edge_held
  tasks_in = record {
    well = well F;
    few_tasks = held_few F;
    as_many_edges = length-values (edge_held A.from A.to A.counts) 0 A.edges;
    few_edges = F.few_edges;
    short = short_tasks F;
    duration_at = timed F;
    from_at = λ k h. ap (λ (e : Edge). e.from) (sym (edge_at k h));
    to_at = λ k h. ap (λ (e : Edge). e.to) (sym (edge_at k h));
    rising = climb F;
  }

  module _ (ties : Ties) where
    abbrev row : List ℕ
    row = order_by ties (instance_in A)

    -- the row itself, by place
    row_back : values (λ i. get_or row i 0) 0 A.tasks ≡ row
    row_back =
        ap (λ (m : ℕ). values (λ i. get_or row i 0) 0 m) (sym (as_many_tasks ties (instance_in A) ∙ held_tasks F))
        ∙ values_back 0 row (λ i. get_or row i 0) (λ i. refl)

    -- anything that has the row's tasks by place
    module _ (order : ℕ → ℕ) (by_place : values order 0 A.tasks ≡ row) where
      at : (i : ℕ) → i < A.tasks → order i ∈ row
      at i h = subst (λ (l : List ℕ). order i ∈ l) by_place (value_in order A.tasks i h)

      found : (T : ℕ) → T < A.tasks → (i : ℕ) × (i < A.tasks) × (order i ≡ T)
      found T h =
          let in_row = every_task ties (instance_in A) T (omega (arith, held_tasks F)) in
          let z = place 0 (values order 0 A.tasks) T (subst (λ (l : List ℕ). T ∈ l) (sym by_place) in_row) in
          let b : z.0 < A.tasks = omega (arith, z.1, length-values order 0 A.tasks) in
          (z.0, b, sym (value_at order 0 A.tasks z.0 b) ∙ z.2)

      pub ordering_in : Ordering A.tasks order
      ordering_in = record {
        within = λ i h. omega (arith, only_tasks ties (instance_in A) (order i) (at i h), held_tasks F);
        each = found;
      }

      pub plannable_in : Plannable (reordered order A)
      plannable_in = plannable_in_order F ordering_in

      -- the instance by the rule
      pub instance_in_lem : instance_in (reordered order A) ≡ ordered row (instance_in A)
      unfolding instance_in ordered
      instance_in_lem = ap (λ (l : List ℕ). ordered l (instance_in A)) by_place

    pub plannable_by : Plannable (tied_by ties A)
    plannable_by = plannable_in (λ i. get_or row i 0) row_back

    pub same_in : (order : ℕ → ℕ) → values order 0 A.tasks ≡ row → instance_in (reordered order A) ≡ instance_in (tied_by ties A)
    same_in order by_place = instance_in_lem order by_place ∙ sym (instance_in_lem (λ i. get_or row i 0) row_back)

    -- which is the job's, where the arrays hold the job's instance
    pub instance_by_lem : (j : Job) → instance_in A ≡ instance j → instance_in (tied_by ties A) ≡ instance_by ties j
    unfolding instance_by
    instance_by_lem j same = instance_in_lem (λ i. get_or row i 0) row_back ∙ ap (λ (I : Instance). ordered (order_by ties I) I) same

    -- slices that hold the planner's schedule by the rule
    pub held_in : {starts processors : List ℕ} → HoldsPlan (instance_in (tied_by ties A)) A.tasks starts processors
        → HoldsIn A starts processors (λ i. get_or row i 0)
    held_in H = record { plannable = plannable_by; plan = H }
