-- The call from C that draws the page of a plan, on job bytes, plan bytes and a buffer (02 §3).
use Rattle.std.specs.Prelude.{List, map, ℕ, ◌*◌, ltb, length}
use Rattle.base.specs.Choice.{pick}
use Rattle.base.specs.Lists.{upto}
use Rattle.job.specs.Read.{Answer, accepted, refused, read_job}
use Rattle.etf.specs.Instance.{tasks}
use Rattle.etf.specs.OfJob.{instance}
use Rattle.gantt.specs.Answer.{Drawn, Length, Refused}
use Rattle.gantt.specs.Draw.{DrawCall, draw_for}
use Rattle.kelvrist.specs.PlanBytes.{processor_in, start_in}

-- what a call returns, 0 or the refusal's number, and the last content of the page
pub record PageCall : Type 0 where
  pub number : ℕ
  pub page : List ℕ

-- a call that returns k and leaves these bytes in the page
abbrev pub drew : ℕ → List ℕ → PageCall
drew k page = record { number = k; page = page }

-- 01: "Each returns 0 or the refusal's number"
abbrev pub page_number : Drawn → ℕ
page_number (Length n) = 0
page_number (Refused k) = k

-- the number of what the call on slices answers, and the bytes that it leaves
abbrev pub as_drawn_call : DrawCall → PageCall
as_drawn_call d = drew (page_number d.answer) d.buffer

-- the starts and the processors of the first m tasks in a plan's bytes
abbrev pub starts_in : ℕ → List ℕ → List ℕ
starts_in m plan = map (start_in plan) (upto m)

abbrev pub processors_in : ℕ → List ℕ → List ℕ
processors_in m plan = map (processor_in plan) (upto m)

-- 9 if the plan "is shorter than 5m", a refused job's own number, else what the call on slices does with the plan's numbers
unfoldable pub page_bytes_for : Answer → List ℕ → List ℕ → PageCall
page_bytes_for (accepted j) plan page =
    pick (ltb (length plan) (5 * tasks (instance j))) (drew 9 page)
    (as_drawn_call (draw_for (accepted j) (starts_in (tasks (instance j)) plan) (processors_in (tasks (instance j)) plan) page))
page_bytes_for (refused k) plan page = drew k page

-- the call for job bytes, plan bytes and a page
unfoldable pub page_bytes_call : List ℕ → List ℕ → List ℕ → PageCall
page_bytes_call file plan page = page_bytes_for (read_job file) plan page
