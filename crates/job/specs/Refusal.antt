-- Each refusal number comes only with its condition.
use Rattle.std.specs.Prelude.{◌⊎◌, ◌≡◌, List, ℕ, suc, ◌≤◌, ◌<◌, length, get_or, drop}
use Rattle.std.proofs.Common.{inl, inr, ⊎_elim, arith}
use Rattle.job.specs.declared.Arrays.{Arrays}
use Rattle.job.specs.declared.Platform.{Platform}
use Rattle.job.specs.Job.{Job}
use Rattle.job.specs.Limits.{most_tasks, most_edges}
use Rattle.job.specs.Record.{kind_of}
use Rattle.job.specs.Read.{refused, read_job}
use Rattle.job.specs.Cause.{Cause, ReaderNumber, Reached}
use Rattle.job.specs.Write.{Refused}
use Rattle.job.specs.Write.{file_of, held_job, Held, write_answer, WriterNumber}
use Rattle.job.specs.Laws.Met.{writer_numbers}
use Rattle.job.specs.Laws.Halt.{halts_at, reader_number, cause_number, many_counts, count_refused, room_refused}

-- the reader refuses at a place that it comes to with the job so far: there the file ends (1), or the record has the number's cause
pub read_refused : (file : List ℕ) (n : ℕ) → read_job file ≡ refused n →
    (at : ℕ) × (j : Job) × Reached file at j
    × (((length file ≤ at) × (n ≡ 1)) ⊎ ((at < length file) × Cause (drop (suc at) file) j (kind_of (get_or file at 0)) n))
read_refused file n e = halts_at file n e

-- the reader refuses by its numbers, ..
pub read_numbers : (file : List ℕ) (n : ℕ) → read_job file ≡ refused n → ReaderNumber n
read_numbers file n e = ⊎_elim (λ h. reader_number (omega arith)) (λ h. cause_number h.1) (read_refused file n e).3

-- .. and 0 is none of them
pub reader_number_some : {n : ℕ} → ReaderNumber n → 1 ≤ n
unfolding ReaderNumber
reader_number_some (inl h) = h.0
reader_number_some (inr h) = omega (arith, h.0)

-- each is a number of the table
pub in_table : (n : ℕ) → ReaderNumber n → (1 ≤ n) × (n ≤ 15)
unfolding ReaderNumber
in_table n (inl h) = (h.0, omega (arith, h.1))
in_table n (inr h) = (omega (arith, h.0), h.1)

-- the writer refuses with 5 for a count too large, with the reader's number for the job's file, or with 9 for too little room
pub write_refused : (m l n : ℕ) (j : Job) (out : List ℕ) → write_answer m l j out ≡ Refused n →
    ((n ≡ 5) × ((most_tasks < m) ⊎ (most_edges < l))) ⊎ ((read_job (file_of j) ≡ refused n) ⊎ ((n ≡ 9) × (length out < length (file_of j))))
unfolding write_answer
write_refused m l n j out e = ⊎_elim (λ h. inl (h.0, many_counts m l h.1))
    (λ h. inr (room_refused n (file_of j) out (read_job (file_of j)) h)) (count_refused m l n _ e)

-- the writer refuses by its numbers
pub write_numbers : (p : Platform) (m l : ℕ) (a : Arrays) (out : List ℕ) (n : ℕ) → Held a →
    write_answer m l (held_job p m l a) out ≡ Refused n → WriterNumber n
write_numbers p m l a out n h e = writer_numbers p m l a out n h e
