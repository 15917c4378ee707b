-- What the functions for benchmark and differential return and leave, over what the job reader and writer, the planners, the cover
-- calls and the page return and leave.
use Rattle.std.specs.Prelude.{◌≡◌, List, ◌∷◌, ℕ, ◌+◌, ◌-◌, ◌*◌, ltb, length, get_or, drop}
use Rattle.base.specs.Choice.{pick}
use Rattle.job.specs.declared.Reading.{Reading}
use Rattle.job.specs.declared.Verdict.{Verdict}
use Rattle.job.specs.declared.Verdict.TheVariants.{Counts, Refused as NotRead}
use Rattle.job.specs.Limits.{most_processors, most_tasks, most_edges}
use Rattle.job.specs.Job.{Job}
use Rattle.job.specs.Read.{Answer, accepted, refused, read_job, verdict_number}
use Rattle.job.specs.Write.{Written, Length, Refused as NotWritten, held_job, write_answer, write_out}
use Rattle.etf.specs.Topology.{entry, cost, square}
use Rattle.costs.specs.Wires.{loaded}
use Rattle.schedule.specs.Answers.Covered.{Covered, Cover, Refused as NotCovered}
use Rattle.schedule.specs.Answers.Planned.{Planned, Plan, Refused as NotPlanned}
use Rattle.schedule.specs.Call.{Call, called}
use Rattle.gantt.specs.Answer.{Drawn, Length as PageLength, Refused as NotDrawn}
use Rattle.gantt.specs.Draw.{DrawCall, draw_call}

-- 0 for a job that was written, or the refusal's number
abbrev pub written_number : Written → ℕ
written_number (Length n) = 0
written_number (NotWritten k) = k

-- places counted through the durations, from, to, the counts, the wires and the results: the first that is past each of these arrays
abbrev pub past_durations : ℕ
past_durations = most_tasks

abbrev pub past_from : ℕ
past_from = past_durations + most_edges

abbrev pub past_to : ℕ
past_to = past_from + most_edges

abbrev pub past_counts : ℕ
past_counts = past_to + most_edges

abbrev pub past_wires : ℕ
past_wires = past_counts + most_processors * most_processors

abbrev pub past_results : ℕ
past_results = past_wires + most_tasks

-- the number at a place; past the arrays the verdict's number
unfoldable pub number_at : Reading → ℕ → ℕ
number_at r place =
    pick (ltb place past_durations) (get_or r.arrays.durations place 0)
    (pick (ltb place past_from) (get_or r.arrays.from (place - past_durations) 0)
    (pick (ltb place past_to) (get_or r.arrays.to (place - past_from) 0)
    (pick (ltb place past_counts) (get_or r.arrays.counts (place - past_to) 0)
    (pick (ltb place past_wires) (get_or r.arrays.wires (place - past_counts) 0)
    (pick (ltb place past_results) (get_or r.arrays.results (place - past_wires) 0)
    (verdict_number r.verdict))))))

-- the first m tasks and l edges of what was read
unfoldable pub job_held_in : Reading → ℕ → ℕ → Job
job_held_in r m l = held_job r.platform m l r.arrays

-- what the writer answers for what was read
unfoldable pub copy_answer : Verdict → Reading → List ℕ → Written
copy_answer (Counts m l) r out = write_answer m l (job_held_in r m l) out
copy_answer (NotRead k) r out = NotWritten k

-- the output afterwards
unfoldable pub copy_out : Verdict → Reading → List ℕ → List ℕ
copy_out (Counts m l) r out = write_out (write_answer m l (job_held_in r m l) out) (job_held_in r m l) out
copy_out (NotRead k) r out = out

-- what a copy of the file that reads as r returns and leaves
pub record Copied (number : ℕ) (after : List ℕ) (r : Reading) (before : List ℕ) : Type 0 where
  pub answer : number ≡ written_number (copy_answer r.verdict r before)
  pub output : after ≡ copy_out r.verdict r before

-- the entry at row p and column q of the square of a platform and its wires; 0 where there is none
unfoldable pub square_timed : ℕ → ℕ → ℕ → List ℕ → ℕ → ℕ → ℕ
square_timed processors topology unit wires p q =
    entry (square processors (cost (record { processors = processors; topology = topology; unit = unit }) (loaded wires))) p q

-- the number of a refused cover call; 0 for an accepted one
abbrev pub refusal_in : Covered → ℕ
refusal_in (Cover f) = 0
refusal_in (NotCovered k) = k

-- the three numbers of an accepted cover call at the front of the output, or what it held
abbrev pub numbers_in : Covered → List ℕ → List ℕ
numbers_in (Cover f) out = f.cover ∷ f.least ∷ f.dearest ∷ drop 3 out
numbers_in (NotCovered k) out = out

-- what a call returns, and the last content of the starts, the processors, the scratch and the output
pub record CoverReturned : Type 0 where
  pub number : ℕ
  pub starts : List ℕ
  pub processors : List ℕ
  pub scratch : List ℕ
  pub out : List ℕ

abbrev pub cover_returned : ℕ → List ℕ → List ℕ → List ℕ → List ℕ → CoverReturned
cover_returned k starts processors scratch out =
    record { number = k; starts = starts; processors = processors; scratch = scratch; out = out }

-- the cover call with its numbers in an output
abbrev pub with_output : Call Covered → List ℕ → CoverReturned
with_output c out = cover_returned (refusal_in c.answer) c.starts c.processors c.scratch (numbers_in c.answer out)

-- a refused file's number, or 9
unfoldable pub or_nine : Answer → ℕ
or_nine (accepted j) = 9
or_nine (refused k) = k

-- a cover call, with an output; 01: "Then 8, then 9 for any slice lent to the call": the output, too, may be too short
unfoldable pub cover_timed : (List ℕ → List ℕ → List ℕ → List ℕ → Call Covered) → List ℕ → List ℕ → List ℕ → List ℕ → List ℕ → CoverReturned
cover_timed call file starts processors scratch out =
    pick (ltb (length out) 3) (cover_returned (or_nine (read_job file)) starts processors scratch out)
    (with_output (call file starts processors scratch) out)

-- 0 for a page that was drawn, or the refusal's number
abbrev pub drawn_number : Drawn → ℕ
drawn_number (PageLength n) = 0
drawn_number (NotDrawn k) = k

-- what a call returns, and the last content of the output
pub record DrawReturned : Type 0 where
  pub number : ℕ
  pub out : List ℕ

abbrev pub draw_returned : ℕ → List ℕ → DrawReturned
draw_returned k out = record { number = k; out = out }

-- the page with a number for its answer
abbrev pub with_number : DrawCall → DrawReturned
with_number c = draw_returned (drawn_number c.answer) c.buffer

-- 02 §3: the page of a plan in the output, or the refusal's number and the output as it was
unfoldable pub draw_timed : List ℕ → List ℕ → List ℕ → List ℕ → DrawReturned
draw_timed file starts processors out = with_number (draw_call file starts processors out)

-- 0 for a plan, or the refusal's number
abbrev pub planned_number : Planned → ℕ
planned_number (Plan o) = 0
planned_number (NotPlanned k) = k

-- a call with a number for its answer
abbrev pub numbered : Call Planned → Call ℕ
numbered c = called (planned_number c.answer) c.starts c.processors c.scratch

-- a planner's call, or the refusal's number
unfoldable pub plan_timed : (List ℕ → List ℕ → List ℕ → List ℕ → Call Planned) → List ℕ → List ℕ → List ℕ → List ℕ → Call ℕ
plan_timed call file starts processors scratch = numbered (call file starts processors scratch)
