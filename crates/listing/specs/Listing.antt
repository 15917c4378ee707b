-- What program `plan` prints for a job file (01: "Ticks worked out").
use mathlib.Core.List.{List, [], ◌∷◌, ◌++◌, flat_map}
use Rattle.std.specs.Prelude.{ℕ, zero, suc, ◌+◌, ◌/◌, ◌%◌, ltb, length, drop}
use Rattle.base.specs.Choice.{pick}
use Rattle.base.specs.Lists.{upto}
use Rattle.base.specs.Text.{text, space, line_feed}
use Rattle.job.specs.Job.{Job}
use Rattle.job.specs.Read.{Answer, accepted, refused, read_job}
use Rattle.etf.specs.Instance.{tasks, duration}
use Rattle.etf.specs.Cover.{cover}
use Rattle.etf.specs.Dearest.{dearest}
use Rattle.etf.specs.Least.{least}
use Rattle.etf.specs.OfJob.{instance}
use Rattle.schedule.specs.Call.{start_of, processor_of}
use Rattle.schedule.specs.Plan.{end_of}

-- the decimal digits of a number of at most k places, the most significant first and no zeros in front
unfoldable pub digits : ℕ → ℕ → List ℕ
digits zero x = []
digits (suc k) x = pick (ltb x 10) ((48 + x) ∷ []) (digits k (x / 10) ++ ((48 + x % 10) ∷ []))

-- a number in decimal: ten places hold any of 32 bits
unfoldable pub decimal : ℕ → List ℕ
decimal x = digits 10 x

-- a number and the byte that follows it, a space or a line feed
unfoldable pub field : ℕ → ℕ → List ℕ
field x next = decimal x ++ (next ∷ [])

-- 01: "each after its word and a space"
unfoldable pub line : List ℕ → ℕ → List ℕ
line word x = word ++ field x line_feed

-- 01: "The header has boards, steps, links"
unfoldable pub header : ℕ → ℕ → ℕ → List ℕ
header n m l = text "plan " ++ (field n space ++ (field m space ++ field l line_feed))

-- 01: "Each step line has number, board, start, finish"
unfoldable pub task_line : ℕ → ℕ → ℕ → ℕ → List ℕ
task_line T P start finish = field T space ++ (field P space ++ (field start space ++ field finish line_feed))

-- the lines of the first m tasks
unfoldable pub task_lines : ℕ → (ℕ → ℕ) → (ℕ → ℕ) → (ℕ → ℕ) → List ℕ
task_lines m processor start time = flat_map (λ T. task_line T (processor T) (start T) (start T + time T)) (upto m)

-- 01: "Then come the plan's end, C and the dearest chain"; 02 §7: "the printed line `least` follows `cover`", the least C over all walks
unfoldable pub figures : ℕ → ℕ → ℕ → ℕ → List ℕ
figures E C L D = line (text "end ") E ++ (line (text "cover ") C ++ (line (text "least ") L ++ line (text "dearest ") D))

-- the listing of a job's plan
unfoldable pub plan_listing : Job → List ℕ
plan_listing j =
    header (instance j).processors (tasks (instance j)) (length (instance j).edges)
    ++ (task_lines (tasks (instance j)) (processor_of (instance j)) (start_of (instance j)) (duration (instance j))
    ++ figures (end_of j) (cover (instance j)) (least (instance j)) (dearest (instance j)))

-- 01: "A refusal prints one line, `refused`, a space and its number, nothing else"
unfoldable pub refusal_line : ℕ → List ℕ
refusal_line k = line (text "refused ") k

-- what is printed for the reader's answer
unfoldable pub listing_for : Answer → List ℕ
listing_for (accepted j) = plan_listing j
listing_for (refused k) = refusal_line k

-- what the program prints for a file
unfoldable pub listing : List ℕ → List ℕ
listing file = listing_for (read_job file)

-- what a call returns, the number of bytes written, and the last content of the buffer
pub record ListingCall : Type 0 where
  pub written : ℕ
  pub buffer : List ℕ

-- a call that returns n and leaves these bytes in the buffer
abbrev pub listed : ℕ → List ℕ → ListingCall
listed n buffer = record { written = n; buffer = buffer }

-- a call that puts these bytes at the front of the buffer: the rest of it keeps its content
unfoldable pub put_first : List ℕ → List ℕ → ListingCall
put_first bytes buffer = listed (length bytes) (bytes ++ drop (length bytes) buffer)

-- the call for a file
unfoldable pub listing_call : List ℕ → List ℕ → ListingCall
listing_call file buffer = put_first (listing file) buffer
