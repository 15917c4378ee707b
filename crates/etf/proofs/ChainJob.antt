-- The limit of 2m - 1 rounds is reached: for each number of processors and of tasks there is a job that takes as many.
use Rattle.std.proofs.Common.{inl, ◌∙◌, arith}
use Rattle.std.specs.Prelude.{◌≡◌, ℕ, suc, ◌-◌, ◌*◌, ◌≤◌, ◌<◌}
use Rattle.std.proofs.Math.Path.{refl, ap}
use Rattle.std.proofs.Math.ListN.{length, length-replicate, get_or-replicate}
use Rattle.base.specs.Lists.{upto}
use Rattle.base.specs.Laws.Lists.{in_nothing, upto_in, map_in, map-upto_at, map-upto-length}
use Rattle.job.specs.Job.{wire_cost, result_count, blank}
use Rattle.job.specs.Record.{wire_pairs}
use Rattle.job.specs.Accepted.{Accepted, duration, edge_at}
use Rattle.etf.specs.Instance.{TaskChain}
use Rattle.etf.specs.Rule.{rounds}
use Rattle.etf.specs.OfJob.{instance}
use Rattle.etf.proofs.Placing.{chain_rounds}
use Rattle.etf.proofs.Jobs.{by_number, well_formed}
use Rattle.etf.specs.ChainJob.{arrow, chain_job}

module _ (n m : ℕ) where
  abbrev one : ℕ
  one = 1

  long : length (chain_job n m).tasks ≡ m
  unfolding chain_job blank
  long = length-replicate m one

  edges_long : length (chain_job n m).edges ≡ m - 1
  unfolding chain_job blank
  edges_long = map-upto-length arrow (m - 1)

  edge_is : (i : ℕ) → i < length (chain_job n m).edges → edge_at (chain_job n m) i ≡ arrow i
  unfolding chain_job blank
  edge_is i h = map-upto_at arrow (m - 1) i (record { from = 0; to = 0; count = 0 }) (omega (arith, edges_long))

  -- it is accepted within the ranges of document 01
  pub chain_accepted : 1 ≤ n → n ≤ 16 → 1 ≤ m → m ≤ 256 → Accepted (chain_job n m)
  unfolding chain_job blank wire_pairs wire_cost result_count
  chain_accepted a b c d = record {
    some_processor = a;
    few_processors = b;
    known_topology = omega arith;
    small_unit = omega arith;
    wires_stand = refl;
    cheap_wires = λ p q. omega arith;
    some_task = omega (arith, long);
    few_tasks = omega (arith, long);
    long_enough = λ t h. omega (arith, tick t h);
    short_enough = λ t h. omega (arith, tick t h);
    few_edges = omega (arith, edges_long);
    forward = λ i h. rw (edge_is i h) (omega arith);
    within = λ i h. rw (edge_is i h) (omega (arith, long, edges_long));
    some_message = λ i h. rw (edge_is i h) (omega arith);
    few_messages = λ i h. rw (edge_is i h) (omega arith);
    rising = λ i h. rw (edge_is i (omega arith), edge_is (suc i) h) (inl (omega arith));
    results_rise = tt;
    results_within = λ r h. absurd (in_nothing h);
    results_last = λ r h. absurd (in_nothing h);
    some_delivery = λ r h. absurd (in_nothing h);
    few_deliveries = λ T. omega arith;
    few_results = omega (arith, long, edges_long);
  }
    where
      tick : (t : ℕ) → t < length (chain_job n m).tasks → duration (chain_job n m) t ≡ 1
      tick t h = get_or-replicate m t one 0 (omega (arith, long))

  in_chain : TaskChain (instance (chain_job n m))
  unfolding instance chain_job blank
  in_chain T h = (arrow T, map_in arrow (upto (m - 1)) T (upto_in (m - 1) T (omega (arith, long))), refl, refl)

  -- and takes 2m - 1 rounds
  pub chain_job_rounds : 1 ≤ n → n ≤ 16 → 1 ≤ m → m ≤ 256 → rounds (instance (chain_job n m)) ≡ 2 * m - 1
  unfolding instance
  chain_job_rounds a b c d =
      chain_rounds (instance (chain_job n m)) (well_formed by_number (chain_job n m) (chain_accepted a b c d)) in_chain
      ∙ ap (λ (x : ℕ). 2 * x - 1) long
