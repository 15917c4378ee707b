-- A call that draws the page of a plan: its answer, and what the lent buffer holds afterwards.
use Rattle.std.specs.Prelude.{List, ◌++◌, ℕ, ltb, length, drop}
use Rattle.base.specs.Choice.{pick}
use Rattle.job.specs.Job.{Job}
use Rattle.job.specs.Read.{Answer, accepted, refused, read_job}
use Rattle.etf.specs.OfJob.{instance}
use Rattle.schedule.specs.Answers.Checked.{Checked, Yes, Refused as NotChecked}
use Rattle.schedule.specs.Check.{check_for}
use Rattle.schedule.specs.Verdict.{plan_in}
use Rattle.gantt.specs.Answer.{Drawn, Length, Refused}
use Rattle.gantt.specs.Page.{page_length, page}

-- what a call returns, and the last content of the buffer that it was lent
pub record DrawCall : Type 0 where
  pub answer : Drawn
  pub buffer : List ℕ

-- a call that returns r and leaves these bytes in the buffer
abbrev pub drawn : Drawn → List ℕ → DrawCall
drawn r buffer = record { answer = r; buffer = buffer }

-- the page of the plan that a job's two slices hold
unfoldable pub page_of : Job → List ℕ → List ℕ → List ℕ
page_of j starts processors = page (instance j) (plan_in (instance j) starts processors)

-- 02 §3: "The plan is judged as the checker does": with a yes the page stands at the front of the buffer, and its length is given; else
-- the number is passed on. 01: "Every refusal returns its number alone and alters no lent slice"
unfoldable pub drawn_by : Checked → ℕ → List ℕ → List ℕ → DrawCall
drawn_by Yes n page buffer = drawn (Length (page_length n)) (page ++ drop (page_length n) buffer)
drawn_by (NotChecked k) n page buffer = drawn (Refused k) buffer

-- 02 §3: "a short buffer is refusal 9", judged with the plan's slices; a refused job "is passed on with the reader's own number"
unfoldable pub draw_for : Answer → List ℕ → List ℕ → List ℕ → DrawCall
draw_for (accepted j) starts processors buffer =
    pick (ltb (length buffer) (page_length j.platform.processors)) (drawn (Refused 9) buffer)
    (drawn_by (check_for (accepted j) starts processors) j.platform.processors (page_of j starts processors) buffer)
draw_for (refused k) starts processors buffer = drawn (Refused k) buffer

-- the call for a file, a plan's two slices and a buffer
unfoldable pub draw_call : List ℕ → List ℕ → List ℕ → List ℕ → DrawCall
draw_call file starts processors buffer = draw_for (read_job file) starts processors buffer
