-- Why a file is refused: what each number of the reader stands for, and the places that the reader comes to (01: the refusal table).
use Rattle.std.specs.Prelude.{not, ◌⊎◌, ◌≡◌, List, ℕ, suc, ◌+◌, ◌<◌, ◌≤◌, T as Holds, length, get_or, drop}
use Rattle.std.proofs.Math.Option.{Option, none, some}
use Rattle.job.specs.Job.{Job, blank}
use Rattle.job.specs.Record.{Kind, step, link, end, wire, result, kind_of, body_length, empty, stands, full, in_range, joins, above_last}
use Rattle.job.specs.Record.{misfit, pairs_due, is_due, may_deliver, added, edge_in, wire_in, result_in}

-- why a record of this kind, with `rest` after its kind byte, is refused after the job so far (01: the refusal table)
pub data Cause (rest : List ℕ) (j : Job) : Option Kind → ℕ → Type 0 where
  cut : {k : Kind} → length rest < body_length k → Cause rest j (some k) 1
  unknown : Cause rest j none 2
  misplaced : {k : Kind} → Holds (not (stands j k)) → Cause rest j (some k) 3
  out_of_range : {k : Kind} → Holds (not (in_range k rest)) → Cause rest j (some k) 4
  too_many : {k : Kind} → Holds (full j k) → Cause rest j (some k) 5
  bad_ends : Holds (not (joins (length j.tasks) (edge_in rest))) → Cause rest j (some link) 6
  not_above : Holds (not (above_last j.edges (edge_in rest))) → Cause rest j (some link) 7
  bytes_after : Holds (not (empty rest)) → Cause rest j (some end) 8
  not_due : Holds (not (is_due (pairs_due j) (wire_in rest))) → Cause rest j (some wire) 14
  too_early : Holds (not (empty (pairs_due j))) → Cause rest j (some step) 14
  not_deliverable : Holds (not (may_deliver j (result_in rest).task)) → Cause rest j (some result) 15

-- the reader's numbers (01: the refusal table; 02 §1 and §2): 1 to 8, 14 and 15
unfoldable pub ReaderNumber : ℕ → Type 0
ReaderNumber n = ((1 ≤ n) × (n ≤ 8)) ⊎ ((14 ≤ n) × (n ≤ 15))

-- a record of kind k without trouble, with `rest` after its kind byte, after the job so far
pub record Untroubled (rest : List ℕ) (j : Job) (k : Kind) : Type 0 where
  pub placed : Holds (stands j k)
  pub room : Holds (not (full j k))
  pub whole : body_length k ≤ length rest
  pub ranges : Holds (in_range k rest)
  pub fits : misfit j k rest ≡ 0

-- the reader comes to this place of the file with this job so far, past records without trouble
pub data Reached (file : List ℕ) : ℕ → Job → Type 0 where
  start : Reached file 0 blank
  next : {at : ℕ} {j : Job} (k : Kind) → Reached file at j → at < length file → kind_of (get_or file at 0) ≡ some k → 1 ≤ body_length k →
      Untroubled (drop (suc at) file) j k → Reached file (suc at + body_length k) (added j k (drop (suc at) file))
