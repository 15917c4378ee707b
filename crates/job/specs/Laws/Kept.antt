-- What the reader keeps: after the rack, each turn leaves a job whose parts have passed their tests, so an accepted job has (`kept`).
-- By induction on the chain of turns.
use Rattle.std.specs.Prelude.{Bool, true, false, not, ◌&&◌, ◌≡◌, refl, List, [], ◌∷◌, ◌++◌, map, ℕ, ◌≤◌, ◌<◌, eqb, T as Holds, length}
use Rattle.std.proofs.Common.{ap, sym, ◌∙◌, append_assoc, arith, eqb→eq, leb→le, length-append}
use Rattle.std.proofs.lemmas.List.{map-append}
use Rattle.std.proofs.Math.Dec.{nleb→lt}
use Rattle.base.specs.Choice.{pick}
use Rattle.base.specs.Lists.{◌∈◌}
use Rattle.base.specs.Laws.Tests.{impossible}
use Rattle.base.specs.Laws.Lists.{in_nothing, for_cons, for_join}
use Rattle.job.specs.Job.{Edge, Wire, Result, RiseByTask, ends, wire_cost, Job, blank}
use Rattle.job.specs.Limits.{most_wire_cost, most_tasks, most_edges}
use Rattle.job.specs.Record.{Kind, rack, step, link, end, wire, result, duration_in, edge_in, wire_in, result_in, empty, no_rack}
use Rattle.job.specs.Record.{stands, full, platform_in_range, duration_in_range, count_in_range, cost_in_range, in_range, joins, wire_pairs}
use Rattle.job.specs.Record.{pairs_due, has_successor, misfit, added}
use Rattle.job.specs.Read.{Answer, accepted}
use Rattle.job.specs.Cause.{Untroubled}
use Rattle.job.specs.Laws.Turn.{Reads, no_more, halted, past, closed}
use Rattle.job.specs.Laws.Lists.{empty_nil, some_in, Each, each_more, Rising, rising_more}
use Rattle.job.specs.Laws.Judged.{link_fits, wire_fits, result_fits, in_time}
use Rattle.job.specs.Laws.Due.{step_placed, link_placed, wire_placed, due_ends, due_then}
use Rattle.job.specs.Laws.Results.{rise_more}
use Rattle.job.specs.Laws.Successors.{may_facts}
use Rattle.job.specs.Laws.Tests.{platform_facts}

-- what stands past the last edge
abbrev pub no_edge : Edge
no_edge = record { from = 0; to = 0; count = 0 }

-- a result of a task below m with no successor, with a count in its range
abbrev pub Deliverable : Job → Result → Type 0
Deliverable j r =
    (r.task < length j.tasks) × Holds (not (has_successor j.edges r.task)) × Holds (count_in_range r.count)

-- a job after its rack: its parts have passed their tests
pub record Kept (j : Job) : Type 0 where
  pub platform_right : Holds (platform_in_range j.platform)
  pub wires_stand : map ends j.wires ++ pairs_due j ≡ wire_pairs j.platform
  pub wires_cheap : (p q : ℕ) → wire_cost j.wires p q ≤ most_wire_cost
  pub tasks_wired : 1 ≤ length j.tasks → pairs_due j ≡ []
  pub few_tasks : length j.tasks ≤ most_tasks
  pub tasks_right : Each duration_in_range 0 j.tasks
  pub few_edges : length j.edges ≤ most_edges
  pub counts_right : Each (λ e. count_in_range e.count) no_edge j.edges
  pub edges_join : Each (joins (length j.tasks)) no_edge j.edges
  pub edges_rise : Rising no_edge j.edges
  pub results_rise : RiseByTask j.results
  pub results_right : (r : Result) → r ∈ j.results → Deliverable j r

-- the job so far: no rack yet, or kept
pub data SoFar : Job → Type 0 where
  nothing : SoFar blank
  begun : {j : Job} → Kept j → SoFar j

-- each record that fits keeps it so
with_rack_lem : (rest : List ℕ) → Untroubled rest blank rack → Kept (added blank rack rest)
unfolding added in_range blank pairs_due wire_cost
with_rack_lem rest f = record {
  platform_right = f.ranges;
  wires_stand = refl;
  wires_cheap = λ p q. omega arith;
  tasks_wired = λ h. absurd (omega arith);
  few_tasks = omega arith;
  tasks_right = λ i h. let n : ⊥ = omega arith in absurd n;
  few_edges = omega arith;
  counts_right = λ i h. let n : ⊥ = omega arith in absurd n;
  edges_join = λ i h. let n : ⊥ = omega arith in absurd n;
  edges_rise = λ i h. let n : ⊥ = omega arith in absurd n;
  results_rise = tt;
  results_right = λ r h. absurd (in_nothing h);
}

-- the wire of the pair that is due
cost_more : (ws : List Wire) (w : Wire) (p q : ℕ) → wire_cost ws p q ≤ most_wire_cost → w.cost ≤ most_wire_cost
    → wire_cost (ws ++ (w ∷ [])) p q ≤ most_wire_cost
unfolding wire_cost
cost_more [] w p q h k = go (eqb w.from p && eqb w.to q)
  where
    go : (t : Bool) → pick t w.cost 0 ≤ most_wire_cost
    go true = k
    go false = omega arith
cost_more (v ∷ ws) w p q h k = go (eqb v.from p && eqb v.to q) h (λ g. cost_more ws w p q g k)
  where
    go : (t : Bool) → pick t v.cost (wire_cost ws p q) ≤ most_wire_cost
        → (wire_cost ws p q ≤ most_wire_cost → wire_cost (ws ++ (w ∷ [])) p q ≤ most_wire_cost)
        → pick t v.cost (wire_cost (ws ++ (w ∷ [])) p q) ≤ most_wire_cost
    go true h more = h
    go false h more = more h

with_wire : (rest : List ℕ) (j : Job) → Kept j → Untroubled rest j wire → Kept (added j wire rest)
unfolding added stands in_range cost_in_range
with_wire rest j b f =
    let w : Wire = wire_in rest in
    let d = due_ends (pairs_due j) w (wire_fits j rest f.fits) in
    record {
      platform_right = b.platform_right;
      wires_stand = rw (due_then j (ends w) d.0 w d.1, map-append ends j.wires (w ∷ []))
          (append_assoc (map ends j.wires) (ends w ∷ []) d.0
          ∙ ap (λ (l : List (ℕ × ℕ)). map ends j.wires ++ l) (sym d.1) ∙ b.wires_stand);
      wires_cheap = λ p q. cost_more j.wires w p q (b.wires_cheap p q) (leb→le w.cost most_wire_cost f.ranges);
      tasks_wired = λ h. absurd (omega (arith, ap length (wire_placed j f.placed).2));
      few_tasks = b.few_tasks;
      tasks_right = b.tasks_right;
      few_edges = b.few_edges;
      counts_right = b.counts_right;
      edges_join = b.edges_join;
      edges_rise = b.edges_rise;
      results_rise = b.results_rise;
      results_right = b.results_right;
    }

with_step : (rest : List ℕ) (j : Job) → Kept j → Untroubled rest j step → Kept (added j step rest)
unfolding added stands full in_range misfit pairs_due
with_step rest j b f =
    let s = step_placed j f.placed in
    let z : length j.edges ≡ 0 = ap length s.1 in
    record {
      platform_right = b.platform_right;
      wires_stand = b.wires_stand;
      wires_cheap = b.wires_cheap;
      tasks_wired = λ h. empty_nil (pairs_due j) (in_time j f.fits);
      few_tasks = simp length-append (omega (arith, nleb→lt most_tasks (length j.tasks) f.room));
      tasks_right = each_more duration_in_range 0 j.tasks (duration_in rest) b.tasks_right f.ranges;
      few_edges = b.few_edges;
      counts_right = b.counts_right;
      edges_join = λ i h. let n : ⊥ = omega arith in absurd n;
      edges_rise = b.edges_rise;
      results_rise = b.results_rise;
      results_right = λ r h. absurd (in_nothing (rw s.2 at h));
    }

with_link : (rest : List ℕ) (j : Job) → Kept j → Untroubled rest j link → Kept (added j link rest)
unfolding added full in_range pairs_due
with_link rest j b f =
    let g = link_fits j rest f.fits in
    record {
      platform_right = b.platform_right;
      wires_stand = b.wires_stand;
      wires_cheap = b.wires_cheap;
      tasks_wired = b.tasks_wired;
      few_tasks = b.few_tasks;
      tasks_right = b.tasks_right;
      few_edges = simp length-append (omega (arith, nleb→lt most_edges (length j.edges) f.room));
      counts_right = each_more (λ e. count_in_range e.count) no_edge j.edges (edge_in rest) b.counts_right f.ranges;
      edges_join = each_more (joins (length j.tasks)) no_edge j.edges (edge_in rest) b.edges_join g.0;
      edges_rise = rising_more no_edge j.edges (edge_in rest) b.edges_rise g.1;
      results_rise = b.results_rise;
      results_right = λ r h. absurd (in_nothing (rw (link_placed j f.placed).1 at h));
    }

with_result : (rest : List ℕ) (j : Job) → Kept j → Untroubled rest j result → Kept (added j result rest)
unfolding added in_range pairs_due
with_result rest j b f =
    let g = may_facts j (result_in rest).task (result_fits j rest f.fits) in
    record {
      platform_right = b.platform_right;
      wires_stand = b.wires_stand;
      wires_cheap = b.wires_cheap;
      tasks_wired = b.tasks_wired;
      few_tasks = b.few_tasks;
      tasks_right = b.tasks_right;
      few_edges = b.few_edges;
      counts_right = b.counts_right;
      edges_join = b.edges_join;
      edges_rise = b.edges_rise;
      results_rise = rise_more j.results (result_in rest) b.results_rise g.2;
      results_right = for_join (Deliverable j) j.results (result_in rest ∷ []) b.results_right
          (for_cons (Deliverable j) (g.0, g.1, f.ranges) (λ r h. absurd (in_nothing h)));
    }

one_rack : (j : Job) → Kept j → Holds (stands j rack) → ⊥
unfolding stands no_rack
one_rack j b h = omega (arith, eqb→eq j.platform.processors 0 h, platform_facts j.platform b.platform_right)

pub grown : (k : Kind) (rest : List ℕ) {j : Job} → SoFar j → Untroubled rest j k → SoFar (added j k rest)
unfolding stands no_rack blank added
grown rack rest nothing f = begun (with_rack_lem rest f)
grown rack rest {j} (begun b) f = absurd (one_rack j b f.placed)
grown step rest nothing f = absurd f.placed
grown step rest {j} (begun b) f = begun (with_step rest j b f)
grown link rest nothing f = absurd f.placed
grown link rest {j} (begun b) f = begun (with_link rest j b f)
grown end rest s f = s
grown result rest nothing f = absurd f.placed
grown result rest {j} (begun b) f = begun (with_result rest j b f)
grown wire rest nothing f = absurd f.placed
grown wire rest {j} (begun b) f = begun (with_wire rest j b f)

-- where the end record or a result may stand
pub ready : {j : Job} → SoFar j → Holds (not (empty j.tasks)) → Kept j × (1 ≤ length j.tasks)
unfolding blank
ready nothing h = absurd h
ready {j} (begun b) h = (b, some_in j.tasks h)

pub kept : {xs : List ℕ} {j : Job} {a : Answer} → Reads xs j a → SoFar j → (i : Job) → a ≡ accepted i → Kept i × (1 ≤ length i.tasks)
unfolding stands
kept no_more s i e = let z : false ≡ true = cc in impossible z
kept (halted c) s i e = let z : false ≡ true = cc in impossible z
kept (past {rest = rest} k t h f r) s i e = kept r (grown k rest s f) i e
kept (closed {j = j} t f h) s i e = let q : i ≡ j = cc in rw q (ready s f.placed)
