-- What an entry learns from the reader's contract: a verdict with counts comes with an accepted job, and the arrays hold its instance.
use Rattle.std.specs.Prelude.{◌≡◌, refl, List, ℕ, suc, ◌+◌, ◌*◌, ◌≤◌, ◌<◌}
use Rattle.std.proofs.Math.Path.{ap, sym, subst}
use Rattle.std.proofs.Common.{◌∙◌, arith}
use Rattle.std.proofs.Math.Nat.{mul-le-mul}
use Rattle.std.proofs.Math.ListN.{length, get_or}
use Rattle.base.specs.Lists.{values, upto}
use Rattle.base.specs.Laws.Values.{length-values, value_at, upto-values}
use Rattle.job.specs.declared.Verdict.TheVariants.{Counts}
use Rattle.job.specs.declared.Reading.{Reading}
use Rattle.job.specs.Limits.{most_duration, most_count}
use Rattle.job.specs.Job.{Edge, wire_cost, Job}
use Rattle.job.specs.Read.{accepted, read_job, reading_of}
use Rattle.job.specs.Write.{edge_held, held_job}
use Rattle.job.specs.Accepted.{Accepted, LaidOut, Before, edge_at, accepted_job, counted, laid_out}
use Rattle.job.specs.RoundTrip.{read_held}
use Rattle.etf.specs.Instance.{Instance}
use Rattle.etf.specs.Topology.{cost, square, entry}
use Rattle.etf.specs.OfJob.{cost_in, costs_of, instance, result_of}
use Rattle.etf.specs.Bounds.{most_cost, most_message_time}
use Rattle.etf.proofs.Laws.Costs.{square_same, cost_same, row_length}
use Rattle.etf.proofs.Laws.OfJob.{entry_most}
use Rattle.costs.specs.Wires.{loaded}
use Rattle.priority.specs.declared.Ties.{Ties}
use Rattle.priority.specs.Orders.{instance_by}
use Rattle.schedule.specs.declared.instance.Instance.{Instance as Handed}
use Rattle.schedule.specs.InArrays.{InArrays, in_number_order, instance_in, Ordering, Plannable}
use Rattle.schedule.specs.Handed.{in_arrays, read_in_arrays, plannable as can_be_planned}
use Rattle.schedule.specs.Pass.{tied_by}
use Rattle.schedule.specs.Laws.Ties.{instance_by_lem}

-- an accepted file: the job, held in the arrays of its reading x
pub record Read (file : List ℕ) (x : Reading) (m l : ℕ) : Type 0 where
  pub job : Job
  pub says : read_job file ≡ accepted job
  pub sound : Accepted job
  pub tasks_are : length job.tasks ≡ m
  pub held : held_job x.platform m l x.arrays ≡ job
  pub durations_size : length x.arrays.durations ≡ 256
  pub from_size : length x.arrays.from ≡ 1024
  pub to_size : length x.arrays.to ≡ 1024
  pub counts_size : length x.arrays.counts ≡ 1024
  pub wires_are : (p q : ℕ) → p < 16 → q < 16 → loaded x.arrays.wires p q ≡ wire_cost job.wires p q
  pub results_are : (T : ℕ) → T < 256 → get_or x.arrays.results T 0 ≡ result_of job T

held_as : (j : Job) (m l : ℕ) → Accepted j → length j.tasks ≡ m → length j.edges ≡ l
    → held_job (reading_of (accepted j)).platform m l (reading_of (accepted j)).arrays ≡ j
held_as j m l s a b = rw (← a, ← b) (read_held j s)

-- the array has the job's wires
wires_as : (j : Job) → LaidOut (reading_of (accepted j)).arrays j → (x : Reading) → x ≡ reading_of (accepted j)
    → (p q : ℕ) → p < 16 → q < 16 → loaded x.arrays.wires p q ≡ wire_cost j.wires p q
unfolding loaded
wires_as j s x r p q h k = ap (λ (y : Reading). get_or y.arrays.wires (16 * p + q) 0) r ∙ s.wire_at p q h k

pub read_as : {file : List ℕ} {x : Reading} {m l : ℕ} → x ≡ reading_of (read_job file) → x.verdict ≡ Counts m l → Read file x m l
read_as {file} {x} {m} {l} e v =
    let c = counted (read_job file) m l (ap (λ (r : Reading). r.verdict) (sym e) ∙ v) in
    let j = c.0 in
    let a = accepted_job file j c.1 in
    let s = laid_out j a in
    let r : x ≡ reading_of (accepted j) = e ∙ ap reading_of c.1 in
    record {
      job = j;
      says = c.1;
      sound = a;
      tasks_are = c.2;
      held = ap (λ (y : Reading). held_job y.platform m l y.arrays) r ∙ held_as j m l a c.2 c.3;
      durations_size = ap (λ (y : Reading). length y.arrays.durations) r ∙ s.durations_length;
      from_size = ap (λ (y : Reading). length y.arrays.from) r ∙ s.from_length;
      to_size = ap (λ (y : Reading). length y.arrays.to) r ∙ s.to_length;
      counts_size = ap (λ (y : Reading). length y.arrays.counts) r ∙ s.counts_length;
      wires_are = wires_as j s x r;
      results_are = λ T h. ap (λ (y : Reading). get_or y.arrays.results T 0) r ∙ s.result_at T h;
    }

-- the tasks by number are an order of them
by_number : (m : ℕ) → Ordering m (λ i. i)
by_number m = record { within = λ i h. h; each = λ T h. (T, h, refl) }

module _ {file : List ℕ} {x : Reading} {m l : ℕ} (K : Read file x m l) where
  -- the job as it is held
  abbrev J : Job
  J = held_job x.platform m l x.arrays

  held_sound : Accepted J
  held_sound = subst Accepted (sym K.held) K.sound

  -- ---- the tasks and edges of the job, by place in the arrays

  abbrev held : ℕ → Edge
  held = edge_held x.arrays.from x.arrays.to x.arrays.counts

  tasks_held : length J.tasks ≡ m
  unfolding held_job
  tasks_held = length-values (λ t. get_or x.arrays.durations t 0) 0 m

  edges_held : length J.edges ≡ l
  unfolding held_job
  edges_held = length-values held 0 l

  each_task : (P : ℕ → Type 0) → ((t : ℕ) → t < length J.tasks → P (get_or J.tasks t 0))
      → (t : ℕ) → t < m → P (get_or x.arrays.durations t 0)
  unfolding held_job
  each_task P f t h = subst P (value_at (λ t. get_or x.arrays.durations t 0) 0 m t h) (f t (omega (arith, tasks_held)))

  edge_is : (k : ℕ) → k < l → edge_at J k ≡ held k
  unfolding held_job
  edge_is k h = value_at held _ l k h

  each_edge : (P : Edge → Type 0) → ((k : ℕ) → k < length J.edges → P (edge_at J k)) → (k : ℕ) → k < l → P (held k)
  each_edge P f k h = subst P (edge_is k h) (f k (omega (arith, edges_held)))

  module _ {n : ℕ} (n-is : n ≡ x.platform.processors)
      {costs : List (List ℕ)}
      (costs_are : costs ≡ square x.platform.processors (cost x.platform (loaded x.arrays.wires))) where
    abbrev A : InArrays
    A = in_number_order n m l x.arrays.durations x.arrays.from x.arrays.to x.arrays.counts costs

    -- the square is the job's, as the array has its wires
    costs_of_lem : costs ≡ costs_of J
    unfolding costs_of held_job
    costs_of_lem =
        costs_are
        ∙ square_same x.platform.processors (cost x.platform (loaded x.arrays.wires)) (cost_in J)
        (λ p q h k. cost_same x.platform (loaded x.arrays.wires) (wire_cost J.wires) p q
        (K.wires_are p q (omega (arith, held_sound.few_processors)) (omega (arith, held_sound.few_processors))
        ∙ ap (λ (j : Job). wire_cost j.wires p q) (sym K.held)))

    -- the arrays hold the instance of the job
    pub instance_held : instance_in A ≡ instance K.job
    unfolding instance_in instance held_job
    instance_held = rw (n-is, costs_of_lem) (ap with_order in_order) ∙ ap instance K.held
      where
        in_order : values (λ i. i) 0 m ≡ upto (length J.tasks)
        in_order = sym (upto-values m) ∙ ap upto (sym tasks_held)

        with_order : List ℕ → Instance
        with_order order = record {
          processors = J.platform.processors;
          durations = J.tasks;
          edges = J.edges;
          cost = entry (costs_of J);
          order = order;
        }

    -- no result takes longer than the messages of an edge
    pub near_gate : (T p : ℕ) → T < 256 → get_or x.arrays.results T 0 * entry costs p 0 ≤ most_message_time
    near_gate T p h =
        let few : get_or x.arrays.results T 0 ≤ most_count = omega (arith, K.results_are T h, K.sound.few_deliveries T) in
        let cheap : entry costs p 0 ≤ most_cost = rw costs_of_lem (entry_most J held_sound p 0) in
        mul-le-mul few cheap

    -- and all that is asked of them
    pub plannable : Plannable A
    unfolding edge_held held_job
    plannable = record {
      some_processor = rw n-is held_sound.some_processor;
      few_processors = rw n-is held_sound.few_processors;
      some_task = omega (arith, held_sound.some_task, tasks_held);
      few_tasks = omega (arith, held_sound.few_tasks, tasks_held);
      few_edges = omega (arith, held_sound.few_edges, edges_held);
      takes_time = each_task (λ d. 1 ≤ d) held_sound.long_enough;
      short = each_task (λ d. d ≤ most_duration) held_sound.short_enough;
      forward = each_edge (λ e. e.from < e.to) held_sound.forward;
      within = λ k h. omega (arith, each_edge (λ e. e.to < length J.tasks) held_sound.within k h, tasks_held);
      rising = λ k h.
          subst (λ (e : Edge). Before (held k) e) (edge_is (suc k) h)
          (subst (λ (e : Edge). Before e (edge_at J (suc k))) (edge_is k (omega arith)) (held_sound.rising k (omega (arith, edges_held))));
      near = λ k p q h.
          let cheap : entry costs p q ≤ most_cost = rw costs_of_lem (entry_most J held_sound p q) in
          mul-le-mul (each_edge (λ e. e.count ≤ most_count) held_sound.few_messages k h) cheap;
      ordered = by_number m;
      durations_size = K.durations_size;
      from_size = K.from_size;
      to_size = K.to_size;
      counts_size = K.counts_size;
      row_size = λ p h. rw costs_are (row_length x.platform.processors (cost x.platform (loaded x.arrays.wires)) p h);
    }

  -- the instance of such arrays, as it is handed on
  module _ (H : Handed) {costs : List (List ℕ)} (is : in_arrays H ≡ read_in_arrays x m l costs)
      (costs_are : costs ≡ square x.platform.processors (cost x.platform (loaded x.arrays.wires))) where
    pub handed_held : instance_in (in_arrays H) ≡ instance K.job
    handed_held = ap instance_in is ∙ instance_held refl costs_are

    pub handed_by : (ties : Ties) → instance_in (tied_by ties (in_arrays H)) ≡ instance_by ties K.job
    handed_by ties = instance_by_lem (can_be_planned H) ties K.job handed_held

    pub handed_tasks : H.tasks ≡ m
    handed_tasks = ap (λ (A : InArrays). A.tasks) is

    pub handed_near : (T p : ℕ) → T < 256 → get_or x.arrays.results T 0 * entry H.costs.now p 0 ≤ most_message_time
    handed_near T p h = rw (ap (λ (A : InArrays). A.costs) is) (near_gate refl costs_are T p h)
