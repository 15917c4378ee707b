-- The instance of an accepted job, its edges taken by their place in the list: what the laws on any instance ask for.
use Rattle.std.specs.Prelude.{◌≡◌, ℕ, ◌≤◌, ◌<◌, length}
use Rattle.std.proofs.Common.{ap, ◌∙◌, subst, arith, mul-le-mul}
use Rattle.base.specs.Lists.{◌∈◌, upto, greatest}
use Rattle.base.specs.Laws.Lists.{upto_in, upto_of, place}
use Rattle.job.specs.Limits.{most_duration, most_count}
use Rattle.job.specs.Job.{Edge, wire_cost, Job}
use Rattle.job.specs.Accepted.{Accepted, edge_at}
use Rattle.etf.specs.Instance.{WellFormed, tasks, duration, message_time}
use Rattle.etf.specs.Topology.{entry}
use Rattle.etf.specs.Dearest.{greatest_cost}
use Rattle.etf.specs.OfJob.{cost_in, costs_of, instance}
use Rattle.etf.specs.Bounds.{most_cost, most_message_time}
use Rattle.etf.proofs.Laws.Costs.{cost_most, cost_self, square_most, square_cost}

-- what holds of each edge of a job by its place holds of each edge
each_edge : (j : Job) (P : Edge → Type 0) → ((i : ℕ) → i < length j.edges → P (edge_at j i)) → (e : Edge) → e ∈ j.edges → P e
each_edge j P f e h = let z = place (record { from = 0; to = 0; count = 0 }) j.edges e h in subst P z.2 (f z.0 z.1)

pub of_job : (j : Job) → Accepted j → WellFormed (instance j)
unfolding instance duration
of_job j a = record {
  some_processor = a.some_processor;
  some_task = a.some_task;
  takes_time = a.long_enough;
  goes_up = each_edge j (λ e. (e.from < e.to) × (e.to < length j.tasks)) (λ i h. (a.forward i h, a.within i h));
  has_all = upto_in (length j.tasks);
  has_only = upto_of (length j.tasks);
}

pub few : (j : Job) → Accepted j → tasks (instance j) ≤ 256
unfolding instance
few j a = a.few_tasks

pub short_tasks : (j : Job) → Accepted j → (T : ℕ) → T < tasks (instance j) → duration (instance j) T ≤ most_duration
unfolding instance duration
short_tasks j a = a.short_enough

-- what a message takes is the cost, as it is laid out
pub laid_out : (j : Job) (p q : ℕ) → j.platform.processors ≤ 16 → p < (instance j).processors → q < (instance j).processors
    → (instance j).cost p q ≡ cost_in j p q
unfolding instance costs_of
laid_out j p q few h k = square_cost j.platform.processors (cost_in j) p q few h k

-- no entry of the costs passes the bound
pub entry_most : (j : Job) → Accepted j → (p q : ℕ) → entry (costs_of j) p q ≤ most_cost
unfolding costs_of
entry_most j a =
    square_most j.platform.processors (cost_in j) most_cost
    (λ p q. cost_most j.platform (wire_cost j.wires) p q a.few_processors a.small_unit (a.cheap_wires p q))

-- no edge's messages take longer than the bound
pub near_processors : (j : Job) → Accepted j → (e : Edge) → e ∈ (instance j).edges
    → (p q : ℕ) → p < (instance j).processors → q < (instance j).processors → message_time (instance j) e p q ≤ most_message_time
unfolding instance message_time
near_processors j a e h p q s t = mul-le-mul (each_edge j (λ d. d.count ≤ most_count) a.few_messages e h) (entry_most j a p q)

-- one processor reaches itself alone
alone : (c : ℕ → ℕ → ℕ) → c 0 0 ≡ 0 → greatest (λ p. greatest (λ q. c p q) (upto 1)) (upto 1) ≡ 0
unfolding greatest upto
alone c e = omega (arith, e)

pub one_processor : (j : Job) → j.platform.processors ≡ 1 → greatest_cost (instance j) ≡ 0
unfolding instance greatest_cost
one_processor j e =
    let c : ℕ → ℕ → ℕ = (instance j).cost in
    let free : c 0 0 ≡ 0 =
    laid_out j 0 0 (omega (arith, e)) (omega (arith, e)) (omega (arith, e)) ∙ cost_self j.platform (wire_cost j.wires) 0 in
    ap (λ (n : ℕ). greatest (λ p. greatest (λ q. c p q) (upto n)) (upto n)) e ∙ alone c free
