-- What holds of every accepted job, and of the arrays that the reader returns for it. Whoever stands above the reader
-- cites these and never the definition's text.
use Rattle.std.specs.Prelude.{true, false, ◌⊎◌, ◌≡◌, refl, List, map, ℕ, suc, ◌+◌, ◌*◌, ◌≤◌, ◌<◌, eqb, length, get_or}
use Rattle.std.proofs.Common.{ap, sym, ◌∙◌, append-nil}
use Rattle.std.proofs.Math.ListN.{get_or-eq_default}
use Rattle.job.specs.declared.Reading.{Reading}
use Rattle.job.specs.declared.table.Refusal.{Refusal}
use Rattle.job.specs.declared.Verdict.{Verdict}
use Rattle.job.specs.declared.Verdict.TheVariants.{Counts, Refused}
use Rattle.base.specs.Lists.{◌∈◌}
use Rattle.base.specs.Laws.Tests.{impossible, neqb→ne}
use Rattle.base.specs.Laws.Lists.{any-not, at_in}
use Rattle.job.specs.declared.Arrays.{Arrays}
use Rattle.job.specs.Job.{Edge, Result, result_count, RiseByTask, ends, wire_cost, Job, blank}
use Rattle.job.specs.Counts.{count_most}
use Rattle.job.specs.Limits.{most_processors, most_unit, most_wire_cost, most_duration, most_count, most_tasks, most_edges}
use Rattle.job.specs.Record.{wire_pairs, has_successor}
use Rattle.job.specs.Read.{Answer, accepted, refused, read_job, verdict_number, arrays_of, reading_of}
use Rattle.job.specs.Table.{number_of, refusal, number_is}
use Rattle.job.specs.Refusal.{read_numbers, in_table}
use Rattle.job.specs.Laws.Turn.{reads}
use Rattle.job.specs.Laws.Lists.{padded_length, padded_at, column_length, column_at, column_spare}
use Rattle.job.specs.Laws.Tests.{platform_facts, duration_facts, count_facts, joins_facts, rises_facts}
use Rattle.job.specs.Laws.Kept.{no_edge, nothing, kept}
use Rattle.job.specs.Laws.Wires.{array_length, array_at}
use Rattle.job.specs.Laws.Results.{array_size, array_count}
use Rattle.job.specs.Laws.Successors.{results_few}

-- the duration of task t
abbrev pub duration : Job → ℕ → ℕ
duration j t = get_or j.tasks t 0

-- edge i of a job
abbrev pub edge_at : Job → ℕ → Edge
edge_at j i = get_or j.edges i (record { from = 0; to = 0; count = 0 })

-- 01: "Links rise strictly by from, then by to"
abbrev pub Before : Edge → Edge → Type 0
Before a b = (a.from < b.from) ⊎ ((a.from ≡ b.from) × (a.to < b.to))

pub record Accepted (j : Job) : Type 0 where
  pub some_processor : 1 ≤ j.platform.processors
  pub few_processors : j.platform.processors ≤ most_processors
  pub known_topology : j.platform.topology ≤ 3
  pub small_unit : j.platform.unit ≤ most_unit
  pub wires_stand : map ends j.wires ≡ wire_pairs j.platform
  pub cheap_wires : (p q : ℕ) → wire_cost j.wires p q ≤ most_wire_cost
  pub some_task : 1 ≤ length j.tasks
  pub few_tasks : length j.tasks ≤ most_tasks
  pub long_enough : (t : ℕ) → t < length j.tasks → 1 ≤ duration j t
  pub short_enough : (t : ℕ) → t < length j.tasks → duration j t ≤ most_duration
  pub few_edges : length j.edges ≤ most_edges
  pub forward : (i : ℕ) → i < length j.edges → (edge_at j i).from < (edge_at j i).to
  pub within : (i : ℕ) → i < length j.edges → (edge_at j i).to < length j.tasks
  pub some_message : (i : ℕ) → i < length j.edges → 1 ≤ (edge_at j i).count
  pub few_messages : (i : ℕ) → i < length j.edges → (edge_at j i).count ≤ most_count
  pub rising : (i : ℕ) → suc i < length j.edges → Before (edge_at j i) (edge_at j (suc i))
  pub results_rise : RiseByTask j.results
  pub results_within : (r : Result) → r ∈ j.results → r.task < length j.tasks
  pub results_last : (r : Result) → r ∈ j.results → (i : ℕ) → i < length j.edges → (edge_at j i).from ≡ r.task → ⊥
  pub some_delivery : (r : Result) → r ∈ j.results → 1 ≤ r.count
  pub few_deliveries : (T : ℕ) → result_count j.results T ≤ most_count
  -- at most 255 edges leave a task, and none leaves a task with a result
  pub few_results : length j.edges + 255 * length j.results ≤ 255 * length j.tasks

pub accepted_job : (file : List ℕ) (j : Job) → read_job file ≡ accepted j → Accepted j
unfolding read_job has_successor
accepted_job file j e =
    let k = kept (reads file 0 blank) nothing j e in
    let p = platform_facts j.platform k.0.platform_right in
    record {
      some_processor = p.0;
      few_processors = p.1;
      known_topology = p.2;
      small_unit = p.3;
      wires_stand = sym (append-nil (map ends j.wires)) ∙ rw (k.0.tasks_wired k.1) at k.0.wires_stand;
      cheap_wires = k.0.wires_cheap;
      some_task = k.1;
      few_tasks = k.0.few_tasks;
      long_enough = λ t h. (duration_facts (duration j t) (k.0.tasks_right t h)).0;
      short_enough = λ t h. (duration_facts (duration j t) (k.0.tasks_right t h)).1;
      few_edges = k.0.few_edges;
      forward = λ i h. (joins_facts (length j.tasks) (edge_at j i) (k.0.edges_join i h)).0;
      within = λ i h. (joins_facts (length j.tasks) (edge_at j i) (k.0.edges_join i h)).1;
      some_message = λ i h. (count_facts (edge_at j i).count (k.0.counts_right i h)).0;
      few_messages = λ i h. (count_facts (edge_at j i).count (k.0.counts_right i h)).1;
      rising = λ i h. rises_facts (edge_at j i) (edge_at j (suc i)) (k.0.edges_rise i h);
      results_rise = k.0.results_rise;
      results_within = λ r h. (k.0.results_right r h).0;
      results_last = λ r h i l.
          neqb→ne (edge_at j i).from r.task
          (any-not (λ (d : Edge). eqb d.from r.task) j.edges (k.0.results_right r h).1
          (edge_at j i) (at_in no_edge j.edges i l));
      some_delivery = λ r h. (count_facts r.count (k.0.results_right r h).2).0;
      few_deliveries = λ T. count_most j.results most_count T (λ r h. (count_facts r.count (k.0.results_right r h).2).1);
      few_results = results_few no_edge j k.0.edges_join k.0.edges_rise k.0.few_tasks k.0.results_rise
          (λ r h. ((k.0.results_right r h).0, (k.0.results_right r h).1));
    }

-- a verdict with counts comes with an accepted job that has those counts
pub counted : (a : Answer) (m l : ℕ) → (reading_of a).verdict ≡ Counts m l →
    (j : Job) × (a ≡ accepted j) × (length j.tasks ≡ m) × (length j.edges ≡ l)
unfolding reading_of
counted (accepted j) m l e = (j, refl, cc, cc)
counted (refused k) m l e = let z : false ≡ true = cc in impossible z

-- and one with a number with a file that is refused by it
pub refused_is : (a : Answer) {k : ℕ} → (reading_of a).verdict ≡ Refused k → a ≡ refused k
unfolding reading_of
refused_is (accepted j) e = let z : false ≡ true = cc in impossible z
refused_is (refused n) e = cc

-- .. and by that of the row of the refusal table that has it
pub refused_by : (file : List ℕ) {x : Reading} {k : ℕ} {r : Refusal} → x ≡ reading_of (read_job file) → x.verdict ≡ Refused k
    → r ≡ refusal (verdict_number x.verdict) → read_job file ≡ refused (number_of r)
refused_by file {x} {k} {r} e v q =
    let w : (reading_of (read_job file)).verdict ≡ Refused k = ap (λ (y : Reading). y.verdict) (sym e) ∙ v in
    let says = refused_is (read_job file) w in
    let t = in_table k (read_numbers file k says) in
    let row : r ≡ refusal k = q ∙ ap (λ (y : Verdict). refusal (verdict_number y)) v in
    says ∙ ap refused (sym (ap number_of row ∙ number_is k t.0 t.1))

-- a job j laid out in arrays
pub record LaidOut (r : Arrays) (j : Job) : Type 0 where
  pub durations_length : length r.durations ≡ 256
  pub from_length : length r.from ≡ 1024
  pub to_length : length r.to ≡ 1024
  pub counts_length : length r.counts ≡ 1024
  pub wires_length : length r.wires ≡ 256
  pub results_length : length r.results ≡ 256
  pub duration_at : (t : ℕ) → get_or r.durations t 0 ≡ duration j t
  pub from_at : (i : ℕ) → get_or r.from i 0 ≡ (edge_at j i).from
  pub to_at : (i : ℕ) → get_or r.to i 0 ≡ (edge_at j i).to
  pub count_at : (i : ℕ) → get_or r.counts i 0 ≡ (edge_at j i).count
  pub wire_at : (p q : ℕ) → p < 16 → q < 16 → get_or r.wires (16 * p + q) 0 ≡ wire_cost j.wires p q
  pub result_at : (T : ℕ) → T < 256 → get_or r.results T 0 ≡ result_count j.results T
  pub spare_durations : (t : ℕ) → length j.tasks ≤ t → get_or r.durations t 0 ≡ 0
  pub spare_from : (i : ℕ) → length j.edges ≤ i → get_or r.from i 0 ≡ 0
  pub spare_to : (i : ℕ) → length j.edges ≤ i → get_or r.to i 0 ≡ 0
  pub spare_counts : (i : ℕ) → length j.edges ≤ i → get_or r.counts i 0 ≡ 0

-- the reader lays out an accepted job
pub laid_out : (j : Job) → Accepted j → LaidOut (reading_of (accepted j)).arrays j
unfolding reading_of arrays_of
laid_out j a = record {
  durations_length = padded_length 256 j.tasks a.few_tasks;
  from_length = column_length (λ e. e.from) no_edge refl j.edges a.few_edges;
  to_length = column_length (λ e. e.to) no_edge refl j.edges a.few_edges;
  counts_length = column_length (λ e. e.count) no_edge refl j.edges a.few_edges;
  wires_length = array_length j.wires;
  results_length = array_size j.results;
  duration_at = padded_at 256 j.tasks;
  from_at = column_at (λ e. e.from) no_edge refl j.edges;
  to_at = column_at (λ e. e.to) no_edge refl j.edges;
  count_at = column_at (λ e. e.count) no_edge refl j.edges;
  wire_at = array_at j.wires;
  result_at = array_count j.results;
  spare_durations = λ t h. padded_at 256 j.tasks t ∙ get_or-eq_default j.tasks 0 h;
  spare_from = column_spare (λ e. e.from) no_edge refl j.edges;
  spare_to = column_spare (λ e. e.to) no_edge refl j.edges;
  spare_counts = column_spare (λ e. e.count) no_edge refl j.edges;
}
