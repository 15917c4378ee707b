-- The reader: what the answer to a file is (01: "The job file" and "Refusal table").
use Rattle.std.specs.Prelude.{not, List, [], ◌∷◌, ◌++◌, map, ℕ, zero, suc, ◌-◌, ◌/◌, ◌%◌, ltb, length, replicate}
use Rattle.std.proofs.Math.Option.{Option, none, some}
use Rattle.job.specs.declared.Verdict.{Verdict}
use Rattle.job.specs.declared.Verdict.TheVariants.{Counts, Refused}
use Rattle.base.specs.Choice.{pick}
use Rattle.base.specs.Lists.{values}
use Rattle.job.specs.declared.Arrays.{Arrays}
use Rattle.job.specs.declared.Found.{Found}
use Rattle.job.specs.declared.Reading.{Reading}
use Rattle.job.specs.Job.{Edge, Wire, wire_cost, Result, result_count, Job, blank}
use Rattle.job.specs.Record.{Kind, rack, step, link, end, wire, result, kind_of, body_length, empty, stands, full, in_range, misfit}
use Rattle.job.specs.Record.{added}

-- a file is accepted as a job, or refused with a number of the refusal table
pub data Answer : Type 0 where
  accepted : Job → Answer
  refused : ℕ → Answer

-- refused with a trouble's number; 0 is no trouble, and then the answer is `a`
abbrev pub refused_or : ℕ → Answer → Answer
refused_or zero a = a
refused_or (suc n) a = refused (suc n)

-- after a record without trouble: at the end record no byte may be left (8), else `more` goes on past the body
unfoldable pub after : Kind → List ℕ → Job → (ℕ → Job → Answer) → Answer
after rack rest j more = more (body_length rack) (added j rack rest)
after step rest j more = more (body_length step) (added j step rest)
after link rest j more = more (body_length link) (added j link rest)
after wire rest j more = more (body_length wire) (added j wire rest)
after result rest j more = more (body_length result) (added j result rest)
after end rest j more = pick (empty rest) (accepted j) (refused 8)

-- one record, of which `rest` follows the kind byte, after the job so far (01: "Within one: 2, 3, 5, 1, 4, 6, 7"; 02 §1 and §2:
-- 14 and 15 are "judged after 4")
unfoldable pub judged : Option Kind → List ℕ → Job → (ℕ → Job → Answer) → Answer
judged none rest j more = refused 2
judged (some k) rest j more =
    pick (not (stands j k)) (refused 3)
    (pick (full j k) (refused 5)
    (pick (ltb (length rest) (body_length k)) (refused 1)
    (pick (not (in_range k rest)) (refused 4)
    (refused_or (misfit j k rest)
    (after k rest j more)))))

-- 01: "Records are judged from the left, and the first trouble counts"; `skip` bytes of the body just judged are passed over
unfoldable pub records : List ℕ → ℕ → Job → Answer
records [] skip j = refused 1
records (b ∷ rest) (suc skip) j = records rest skip j
records (b ∷ rest) zero j = judged (kind_of b) rest j (records rest)

-- the answer to a file
unfoldable pub read_job : List ℕ → Answer
read_job file = records file 0 blank

-- the number of a refused file; 0 for an accepted one
abbrev pub verdict_number : Verdict → ℕ
verdict_number (Counts m l) = 0
verdict_number (Refused k) = k

-- an array of n places that begins with xs (01: "spare places of its arrays read as 0")
unfoldable pub padded : ℕ → List ℕ → List ℕ
padded n xs = xs ++ replicate (n - length xs) 0

-- wires as an array of sixteen rows of sixteen: the cost from p to q at 16 p + q, 0 where there is no wire
unfoldable pub wire_array : List Wire → List ℕ
wire_array ws = values (λ k. wire_cost ws (k / 16) (k % 16)) 0 256

-- results as an array: the count of task T's result at place T, 0 where it has none
unfoldable pub result_array : List Result → List ℕ
result_array rs = values (result_count rs) 0 256

-- the arrays of a job
unfoldable pub arrays_of : Job → Arrays
arrays_of j = record {
  durations = padded 256 j.tasks;
  from = padded 1024 (map (λ (e : Edge). e.from) j.edges);
  to = padded 1024 (map (λ (e : Edge). e.to) j.edges);
  counts = padded 1024 (map (λ (e : Edge). e.count) j.edges);
  wires = wire_array j.wires;
  results = result_array j.results;
}

-- the answer as `read` returns it: the verdict beside the platform and the arrays, all 0 on a refusal
unfoldable pub reading_of : Answer → Reading
reading_of (accepted j) = record { verdict = Counts (length j.tasks) (length j.edges); platform = j.platform; arrays = arrays_of j }
reading_of (refused k) = record { verdict = Refused k; platform = blank.platform; arrays = arrays_of blank }

-- a reading, of what was found and the arrays
abbrev pub reading_as : Found → Arrays → Reading
reading_as r a = record { arrays = a; verdict = r.verdict; platform = r.platform }
