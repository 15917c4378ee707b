-- The writer: the file of a job, and what `write` returns and leaves in the borrowed slice.
use Rattle.std.specs.Prelude.{Result as Outcome, Ok, Err}
use Rattle.std.specs.Prelude.{Bool, ◌||◌, ◌⊎◌, ◌≡◌, ℕ, ◌+◌, ◌*◌, ◌^◌, ◌≤◌, ◌<◌, ltb, length, get_or, drop}
use Rattle.std.proofs.Common.{sym, ap, ◌∙◌}
use mathlib.Core.List.{List, [], ◌∷◌, ◌++◌, map, flat_map}
use Rattle.base.specs.Lists.{values, upto, filter}
use Rattle.base.specs.Choice.{pick}
use Rattle.base.specs.Number.{bytes}
use Rattle.job.specs.declared.Arrays.{Arrays}
use Rattle.job.specs.declared.Platform.{Platform}
use Rattle.job.specs.declared.HeldJob.{HeldJob}
use Rattle.job.specs.declared.table.Refusal.{Refusal}
use Rattle.job.specs.Job.{Edge, Wire, Result, Job}
use Rattle.job.specs.Limits.{most_tasks, most_edges}
use Rattle.job.specs.Record.{wire_pairs}
use Rattle.job.specs.Table.{number_of, refusal, refusal_is}
use Rattle.job.specs.Read.{Answer, accepted, refused, read_job}

-- the record of kind 1, rack
unfoldable pub rack_bytes : Platform → List ℕ
rack_bytes p = 1 ∷ p.processors ∷ p.topology ∷ p.unit ∷ []

-- a record of kind 2, step
unfoldable pub step_bytes : ℕ → List ℕ
step_bytes d = 2 ∷ bytes 4 d

-- a record of kind 3, link
unfoldable pub link_bytes : Edge → List ℕ
link_bytes e = 3 ∷ e.from ∷ e.to ∷ bytes 2 e.count

-- a record of kind 5, wire
unfoldable pub wire_bytes : Wire → List ℕ
wire_bytes w = 5 ∷ w.from ∷ w.to ∷ w.cost ∷ []

-- a record of kind 6, result
unfoldable pub result_bytes : Result → List ℕ
result_bytes r = 6 ∷ r.task ∷ bytes 2 r.count

-- the file of a job: the rack, the wires, the steps, the links, the results, the end record
unfoldable pub file_of : Job → List ℕ
file_of j =
    rack_bytes j.platform
    ++ (flat_map wire_bytes j.wires
    ++ (flat_map step_bytes j.tasks ++ (flat_map link_bytes j.edges ++ (flat_map result_bytes j.results ++ (4 ∷ [])))))

-- 02 §2: "the greatest file has 8,369 bytes" (01: 6,405; 02 §1: it "grows by 960 bytes")
abbrev pub greatest_length : ℕ
greatest_length = 8369

-- so many bytes settle the answer to a file: a result past the last that could stand is judged by its four bytes, where the greatest file
-- has its end record
abbrev pub settling_length : ℕ
settling_length = 8372

-- the edge whose parts stand at place i of three arrays
unfoldable pub edge_held : List ℕ → List ℕ → List ℕ → ℕ → Edge
edge_held from to counts i = record { from = get_or from i 0; to = get_or to i 0; count = get_or counts i 0 }

-- the wire of a pair of processors, its cost at 16 p + q of an array
unfoldable pub wire_held : List ℕ → ℕ × ℕ → Wire
wire_held costs x = record { from = x.0; to = x.1; cost = get_or costs (16 * x.0 + x.1) 0 }

-- the result of a task, its count at the task's place of an array
unfoldable pub result_held : List ℕ → ℕ → Result
result_held counts T = record { task = T; count = get_or counts T 0 }

-- a result for each of the first m tasks that has a count
unfoldable pub results_held : List ℕ → ℕ → List Result
results_held counts m = map (result_held counts) (filter (λ T. ltb 0 (get_or counts T 0)) (upto m))

-- a job held as numbers: a wire for each pair that has one, the first m durations, the first l edges, the results of the first m tasks;
-- spare places are not read
unfoldable pub held_job : Platform → ℕ → ℕ → Arrays → Job
held_job p m l a = record {
  platform = p;
  wires = map (wire_held a.wires) (wire_pairs p);
  tasks = values (λ t. get_or a.durations t 0) 0 m;
  edges = values (edge_held a.from a.to a.counts) 0 l;
  results = results_held a.results m;
}

-- a job held as numbers, in its struct
abbrev pub job_held : HeldJob → Job
job_held x = held_job x.platform x.tasks x.edges x.arrays.now

-- the arrays in their struct
abbrev pub gathered : List ℕ → List ℕ → List ℕ → List ℕ → List ℕ → List ℕ → Arrays
gathered durations from to counts wires results = record {
  durations = durations;
  from = from;
  to = to;
  counts = counts;
  wires = wires;
  results = results;
}

-- arrays hold what their types can: durations of 32 bits, an edge's end of 8, message counts and results of 16
pub record Held (a : Arrays) : Type 0 where
  pub duration_fits : (t : ℕ) → get_or a.durations t 0 < 2 ^ 32
  pub to_fits : (i : ℕ) → get_or a.to i 0 < 2 ^ 8
  pub count_fits : (i : ℕ) → get_or a.counts i 0 < 2 ^ 16
  pub result_fits : (T : ℕ) → get_or a.results T 0 < 2 ^ 16

-- what writing a job gives: the length written, or the refusal's number
pub data Written : Type 0 where
  Length : ℕ → Written
  Refused : ℕ → Written

-- .. as `write` answers it
abbrev pub written : Outcome ℕ Refusal → Written
written (Ok n) = Length n
written (Err e) = Refused (number_of e)

-- results that read alike are alike
pub one_written : (r s : Outcome ℕ Refusal) → written r ≡ written s → r ≡ s
one_written (Ok m) (Ok n) h = cc
one_written (Ok m) (Err e) h = cc
one_written (Err d) (Ok n) h = cc
one_written (Err d) (Err e) h =
    let n : number_of d ≡ number_of e = cc in ap Err (sym (refusal_is d) ∙ (ap refusal n ∙ refusal_is e))

-- where the reader accepts it, a file is written; 9 if the output is too short for it
unfoldable pub room_for : List ℕ → List ℕ → Answer → Written
room_for file out (accepted j) = pick (ltb (length out) (length file)) (Refused 9) (Length (length file))
room_for file out (refused k) = Refused k

-- 01: "a count of any kind is above what a job can hold (256 steps, 1,024 links)"
unfoldable pub is_too_many : ℕ → ℕ → Bool
is_too_many m l = ltb most_tasks m || ltb most_edges l

-- 01: "5 first if a count of any kind is above what a job can hold .., then as the reader would meet its records, then 9";
-- as the reader would meet its records: as it answers to the file of the job
unfoldable pub write_answer : ℕ → ℕ → Job → List ℕ → Written
write_answer m l j out = pick (is_too_many m l) (Refused 5) (room_for (file_of j) out (read_job (file_of j)))

-- the writer's numbers (01: the refusal table; 02 §2): 3 to 7, 9 and 15
unfoldable pub WriterNumber : ℕ → Type 0
WriterNumber n = ((3 ≤ n) × (n ≤ 7)) ⊎ ((n ≡ 9) ⊎ (n ≡ 15))

-- the output afterwards: the file where the job was written, and what it held everywhere else
unfoldable pub write_out : Written → Job → List ℕ → List ℕ
write_out (Length n) j out = file_of j ++ drop n out
write_out (Refused k) j out = out

-- what a call of the writer returns and leaves: `r` and `after` for a job j of m tasks and l edges and the output `before`
pub record WrittenAs (r : Written) (after : List ℕ) (m l : ℕ) (j : Job) (before : List ℕ) : Type 0 where
  pub answer : r ≡ write_answer m l j before
  pub output : after ≡ write_out (write_answer m l j before) j before
