-- What holds of every accepted job's instance: it is well formed, its times are bounded, and the checker accepts the planner's schedule.
-- `Accepted` (crate job) is all that is known of the job.
use Rattle.std.specs.Prelude.{◌≡◌, refl, List, [], ℕ, ◌+◌, ◌*◌, ◌≤◌, ◌<◌, max, length}
use Rattle.std.proofs.Common.{sym, subst, arith, eq-eqb, ne_eqb}
use Rattle.std.proofs.Math.Option.{none}
use Rattle.base.specs.Lists.{◌∈◌, upto, greatest}
use Rattle.base.specs.Laws.Lists.{upto_in, upto_of}
use Rattle.job.specs.Limits.{most_duration, most_count}
use Rattle.job.specs.Job.{Edge, wire_cost, Result, result_count, Job, job_with_results}
use Rattle.job.specs.Accepted.{Accepted}
use Rattle.etf.specs.Instance.{Instance, ordered, WellFormed, tasks, duration, message_time}
use Rattle.etf.specs.Schedule.{Placement, placement_of, finish, arrival, last_finish, end, dearest_result, by_task}
use Rattle.etf.specs.Rule.{planned}
use Rattle.etf.specs.Cover.{cover}
use Rattle.etf.specs.Dearest.{dearest}
use Rattle.etf.specs.Least.{least}
use Rattle.etf.specs.Ideal.{Ideal, makespan}
use Rattle.etf.specs.Weight.{tasks_by_weight}
use Rattle.etf.specs.Checker.{Keeps, check}
use Rattle.etf.specs.Topology.{hops, cost}
use Rattle.etf.specs.OfJob.{cost_in, costs_of, instance, instance_by_weight, TieRule, result_of}
use Rattle.etf.specs.Bounds.{most_cost, most_message_time, most_finish, most_end}
use Rattle.etf.specs.Results.{WithinResults}
use Rattle.etf.proofs.Results.{end_after, end_is, dearest_is, planned_without, any_order_within}
use Rattle.etf.proofs.LeastWalks.{any_order_within as least-in-order}
use Rattle.etf.proofs.Weights.{has_all, has_only}
use Rattle.etf.proofs.Laws.Costs.{cost_most}
use Rattle.etf.proofs.Laws.Times.{finish_most, last_most, arrival_most}
use Rattle.etf.proofs.Laws.Checker.{keeps_yes, planned_keeps}
use Rattle.etf.proofs.Laws.Dearest.{dearest_free}
use Rattle.etf.proofs.Laws.Results.{time_most}
use Rattle.etf.proofs.Laws.Ordered.{ordered_well, dearest_ordered, keeps_ordered}
use Rattle.etf.proofs.Laws.OfJob.{of_job, few, short_tasks, entry_most, near_processors, laid_out, one_processor}

-- 01: the dearest chain is 0 "with one board", of any job
pub none_with_one_processor : (j : Job) → j.platform.processors ≡ 1 → dearest (instance j) ≡ 0
none_with_one_processor j e = dearest_free (instance j) (one_processor j e)

-- 02 §1: a wire's cost between different processors under wiring 3, ..
pub by_wires : (j : Job) (p q : ℕ) → j.platform.topology ≡ 3 → (p ≡ q → ⊥) → cost_in j p q ≡ wire_cost j.wires p q
unfolding cost
by_wires j p q e n = simp (ne_eqb p q n, eq-eqb j.platform.topology 3 e)

-- .. and what document 01 has under the other wirings, as before
pub by_hops : (j : Job) (p q : ℕ) → j.platform.topology ≤ 2 → (p ≡ q → ⊥) → cost_in j p q ≡ j.platform.unit * hops j.platform p q
unfolding cost
by_hops j p q few n = simp (ne_eqb p q n, ne_eqb j.platform.topology 3 (λ e. omega arith))

-- 02 §2: "The choice of boards and the walk do not change": results move nothing of what is planned, walked and checked
pub results_move_nothing : (j : Job) (rs : List Result) → instance (job_with_results j rs) ≡ instance j
unfolding instance costs_of
results_move_nothing j rs = refl

module _ (j : Job) (a : Accepted j) where
  -- 01: "No cost passes 800"
  pub no_cost_passes : (p q : ℕ) → cost_in j p q ≤ most_cost
  no_cost_passes p q = cost_most j.platform (wire_cost j.wires) p q a.few_processors a.small_unit (a.cheap_wires p q)

  -- what a message takes is the cost: the square has it at p, q
  pub cost_right : (p q : ℕ) → p < (instance j).processors → q < (instance j).processors → (instance j).cost p q ≡ cost_in j p q
  cost_right p q h k = laid_out j p q a.few_processors h k

-- ---- the planner's schedule, with any tie rule: `by` is the job's instance, its tasks in some priority order

-- ties by number (01) and by weight (02 §6) are two such rules
pub by_number : TieRule instance
unfolding instance ordered
by_number = record {
  order = λ j. upto (length j.tasks);
  is_by = λ j. refl;
  has_all = λ j. upto_in (length j.tasks);
  has_only = λ j. upto_of (length j.tasks);
}

pub by_weight : TieRule instance_by_weight
unfolding instance instance_by_weight
by_weight = record {
  order = λ j. tasks_by_weight (instance j);
  is_by = λ j. refl;
  has_all = λ j. has_all (instance j);
  has_only = λ j. has_only (instance j);
}

module _ {by : Job → Instance} (rule : TieRule by) (j : Job) (a : Accepted j) where
  -- what the planner plans
  abbrev I : Instance
  I = by j

  -- the instance is well formed
  pub well_formed : WellFormed I
  unfolding instance
  well_formed = rw (rule.is_by j) (ordered_well (instance j) (rule.order j) (of_job j a) (rule.has_all j) (rule.has_only j))

  -- its tasks, edges and costs are the job's
  pub same_tasks : tasks I ≡ length j.tasks
  unfolding ordered instance
  same_tasks = rw (rule.is_by j)

  few_tasks : tasks I ≤ 256
  unfolding ordered
  few_tasks = rw (rule.is_by j) (few j a)

  short : (T : ℕ) → T < tasks I → duration I T ≤ most_duration
  unfolding ordered duration
  short = rw (rule.is_by j) (short_tasks j a)

  near : (e : Edge) → e ∈ I.edges → (p q : ℕ) → p < I.processors → q < I.processors → message_time I e p q ≤ most_message_time
  unfolding ordered message_time
  near = rw (rule.is_by j) (near_processors j a)

  -- no entry of the square passes the greatest cost
  near_gate : (p : ℕ) → I.cost p 0 ≤ most_cost
  unfolding ordered instance
  near_gate p = rw (rule.is_by j) (entry_most j a p 0)

  -- 01: "no planned time passes 460,000,000": no start and no finish
  pub no_finish_passes : (u : Placement) → u ∈ planned I → finish I u ≤ most_finish
  no_finish_passes u h =
      omega (arith, finish_most I well_formed most_duration most_message_time short near u h, few_tasks)

  -- nor the last finish
  pub no_last_passes : last_finish I (planned I) ≤ most_finish
  no_last_passes = omega (arith, last_most I well_formed most_duration most_message_time short near, few_tasks)

  -- 02 §2: no result takes more than 1,000 messages of 800 do, ..
  pub no_result_passes : dearest_result I (result_of j) (planned I) ≤ most_message_time
  no_result_passes =
      time_most I (result_of j) (planned I) most_count most_cost
      (λ u h. a.few_deliveries u.task) (λ u h. near_gate u.processor)

  -- .. so the end passes the finishes' bound by 800,000 at most
  pub no_end_passes : end I (result_of j) (planned I) ≤ most_end
  no_end_passes = omega (arith, end_after I (result_of j) (planned I), no_last_passes, no_result_passes)

  -- 02 §2: "the greatest of all finishes and of each result's finish plus its count times the cost from its board to board 0"
  pub end_right : end I (result_of j) (planned I)
      ≡ max (last_finish I (planned I))
      (greatest (λ r. finish I (placement_of (planned I) r.task) + r.count * I.cost (placement_of (planned I) r.task).processor 0)
      j.results)
  end_right = end_is I well_formed j.results a.results_rise (λ r h. omega (arith, a.results_within r h, same_tasks))

  -- 02 §2: "the dearest result time (a count times that cost) of our plan"
  pub result_time_right : dearest_result I (result_of j) (planned I)
      ≡ greatest (λ r. r.count * I.cost (placement_of (planned I) r.task).processor 0) j.results
  result_time_right = dearest_is I well_formed j.results a.results_rise (λ r h. omega (arith, a.results_within r h, same_tasks))

  -- a job without results: the end is the last finish, as in document 01, and there is no result time
  pub without_results : j.results ≡ []
      → (end I (result_of j) (planned I) ≡ last_finish I (planned I)) × (dearest_result I (result_of j) (planned I) ≡ 0)
  unfolding result_count
  without_results e = planned_without I well_formed (result_of j) (λ T h. rw e refl)

  -- nor the arrival of a task at any processor
  pub no_arrival_passes : (T P : ℕ) → T < tasks I → P < I.processors → arrival I (planned I) T P ≤ most_finish
  no_arrival_passes T P h p =
      omega (arith, arrival_most I well_formed most_duration most_message_time short near T P h p, few_tasks)

  -- the planner's schedule keeps the rules
  pub planned_keeps_rules : Keeps (instance j) (by_task I (planned I))
  planned_keeps_rules =
      let kept = planned_keeps I well_formed (λ u h. omega (arith, no_finish_passes u h)) in
      keeps_ordered (instance j) (rule.order j) (by_task I (planned I))
      (subst (λ (J : Instance). Keeps J (by_task I (planned I))) (rule.is_by j) kept)

  -- so the checker's answer to it is a yes
  pub planned_accepted : check (instance j) (by_task I (planned I)) ≡ none
  planned_accepted = keeps_yes (instance j) (by_task I (planned I)) planned_keeps_rules

  -- the dearest chain is the job's, whatever the order
  pub dearest_same : dearest I ≡ dearest (instance j)
  dearest_same = rw (rule.is_by j) (dearest_ordered (instance j) (rule.order j))

  -- the comparison of a plan's end with an ideal schedule of the job, with some figure of the plan in the place of C
  abbrev Compared : (Instance → ℕ) → Ideal (instance j) → Instance → Type 0
  Compared figure S J =
      WithinResults j.platform.processors (end J (result_of j) (planned J)) (makespan (instance j) S) (figure J)
      (dearest_result J (result_of j) (planned J)) (dearest J)

  -- where it holds in any priority order, it holds in that of the rule
  in_order : (figure : Instance → ℕ) (S : Ideal (instance j))
      → ((order : List ℕ) → WellFormed (ordered order (instance j)) → Compared figure S (ordered order (instance j))) → Compared figure S I
  in_order figure S each =
      subst (λ (J : Instance). WellFormed J → Compared figure S J) (sym (rule.is_by j)) (each (rule.order j)) well_formed

  -- 00, demand 3, and 02 §6: "The distance from the rival is shown over an arbitrary priority order": E, C and the result time are those of
  -- the plan in that order, F is of any ideal schedule of the job, which knows of none
  pub within : (S : Ideal (instance j))
      → WithinResults j.platform.processors (end I (result_of j) (planned I)) (makespan (instance j) S) (cover I)
      (dearest_result I (result_of j) (planned I)) (dearest I)
  unfolding instance
  within S = in_order cover S (λ order W. any_order_within (instance j) order W (result_of j) S)

  -- 02 §7: "the rival comparison holds with it in place of C (plus the result time where a job has one)"
  pub least_within : (S : Ideal (instance j))
      → WithinResults j.platform.processors (end I (result_of j) (planned I)) (makespan (instance j) S) (least I)
      (dearest_result I (result_of j) (planned I)) (dearest I)
  unfolding instance
  least_within S = in_order least S (λ order W. least-in-order (instance j) order W (result_of j) S)
