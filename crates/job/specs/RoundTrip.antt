-- The two round trips, and how much of a file settles its answer.
use Rattle.std.specs.Prelude.{◌≡◌, List, ◌++◌, ℕ, ◌+◌, ◌*◌, ◌≤◌, length, get_or, take, drop}
use Rattle.base.specs.Number.{Bytes}
use Rattle.base.specs.Laws.Values.{values_back}
use Rattle.job.specs.declared.Arrays.{Arrays}
use Rattle.job.specs.declared.Platform.{Platform}
use Rattle.job.specs.Job.{Job}
use Rattle.job.specs.Read.{accepted, read_job, padded, arrays_of, reading_of}
use Rattle.job.specs.Write.{Length}
use Rattle.job.specs.Write.{file_of, greatest_length, settling_length, held_job, Held, write_answer, write_out}
use Rattle.job.specs.Accepted.{Accepted, accepted_job}
use Rattle.job.specs.Laws.Written.{file_size, read_back}
use Rattle.job.specs.Laws.Halt.{few_counts}
use Rattle.job.specs.Laws.Met.{held_writable}
use Rattle.job.specs.Laws.Lists.{padded_at}
use Rattle.job.specs.Laws.Columns.{edges_held}
use Rattle.job.specs.Laws.Wires.{rack_held}
use Rattle.job.specs.Laws.Results.{held_back}
use Rattle.job.specs.Laws.Rewritten.{written_back, file_bound}
use Rattle.job.specs.Laws.Prefix.{first_bytes}

-- 01: "5 + 5 times (m + links) bytes"; 02 §1: "the writer's length by 4 a wire"; 02 §2: it "counts the new 4-byte records"
pub file_length : (j : Job)
    → length (file_of j) ≡ 5 + 5 * (length j.tasks + length j.edges) + 4 * (length j.wires + length j.results)
file_length j = file_size j

-- 00: "A job that the writer takes, written out and read, is the same job"
pub written_read : (p : Platform) (m l : ℕ) (a : Arrays) (out : List ℕ) (n : ℕ) → Held a →
    write_answer m l (held_job p m l a) out ≡ Length n →
    read_job (take n (write_out (Length n) (held_job p m l a) out)) ≡ accepted (held_job p m l a)
written_read p m l a out n h e = read_back (held_job p m l a) out m l n (λ few. held_writable p m l a (few_counts m l few) h) e

-- 00: "an accepted file written out is the same bytes": the arrays that the reader gives hold the job, ..
pub read_held : (j : Job) → Accepted j → held_job (reading_of (accepted j)).platform (length j.tasks) (length j.edges)
    (reading_of (accepted j)).arrays ≡ j
unfolding held_job reading_of arrays_of
read_held j a = rw (
  rack_held j.platform j.wires a.few_processors a.wires_stand,
  values_back 0 j.tasks (λ t. get_or (padded 256 j.tasks) t 0) (padded_at 256 j.tasks),
  edges_held j.edges,
  held_back j.results (length j.tasks) a.results_rise a.results_within a.some_delivery a.few_tasks,
)

-- .. the writer takes it where there is room, and what it writes is the file
pub read_written : (file : List ℕ) (j : Job) (out : List ℕ) → Bytes file → read_job file ≡ accepted j → length file ≤ length out →
    (write_answer (length j.tasks) (length j.edges) j out ≡ Length (length file))
    × (write_out (Length (length file)) j out ≡ file ++ drop (length file) out)
read_written file j out b e h =
    let a : Accepted j = accepted_job file j e in
    written_back file j out b e h a.few_tasks a.few_edges

-- no accepted file is longer than the greatest one
pub greatest_file : (file : List ℕ) (j : Job) → Bytes file → read_job file ≡ accepted j → length file ≤ greatest_length
greatest_file file j b e =
    let a : Accepted j = accepted_job file j e in
    file_bound file j b e a.few_tasks a.few_edges a.few_processors a.wires_stand a.few_results

-- so many bytes settle the answer to a file
pub settled : (file : List ℕ) (n : ℕ) → settling_length ≤ n → read_job (take n file) ≡ read_job file
settled file n h = first_bytes file n h
