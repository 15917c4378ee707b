-- What program `page` prints for a job file: the page of its plan for the cabinet door (02 §3), or the line of a refusal.
use Rattle.std.specs.Prelude.{◌⊎◌, ◌≡◌, refl, List, ℕ, take}
use Rattle.std.proofs.Common.{inl, inr, ap, arith}
use Rattle.job.specs.Job.{Job}
use Rattle.job.specs.Read.{Answer, accepted, refused, read_job}
use Rattle.job.specs.Cause.{ReaderNumber}
use Rattle.job.specs.Refusal.{read_numbers}
use Rattle.job.specs.RoundTrip.{settled}
use Rattle.etf.specs.Schedule.{by_task}
use Rattle.etf.specs.Rule.{planned}
use Rattle.etf.specs.OfJob.{instance}
use Rattle.gantt.specs.Page.{page}
use Rattle.listing.specs.Listing.{refusal_line, ListingCall, put_first}

-- the page of a job's plan. 02 §3: "Fitters tape the plan inside the door": the planner's, its steps by number
unfoldable pub plan_page : Job → List ℕ
plan_page j = page (instance j) (by_task (instance j) (planned (instance j)))

-- what is printed for the reader's answer. 01: "A refusal prints one line, `refused`, a space and its number, nothing else"
unfoldable pub printed_for : Answer → List ℕ
printed_for (accepted j) = plan_page j
printed_for (refused k) = refusal_line k

-- what the program prints for a file
unfoldable pub printed : List ℕ → List ℕ
printed file = printed_for (read_job file)

-- the call for a file: it puts that at the front of the buffer, the rest of which keeps its content
unfoldable pub print_call : List ℕ → List ℕ → ListingCall
print_call file buffer = put_first (printed file) buffer

-- ---- what holds of it for every input

-- it is a page, or the line of one of the reader's numbers
pub page_or_refusal : (file : List ℕ) → ((j : Job) × (read_job file ≡ accepted j) × (printed file ≡ plan_page j))
    ⊎ ((k : ℕ) × (read_job file ≡ refused k) × ReaderNumber k × (printed file ≡ refusal_line k))
unfolding printed printed_for
page_or_refusal file = go (read_job file) refl
  where
    go : (a : Answer) → read_job file ≡ a → ((j : Job) × (read_job file ≡ accepted j) × (printed_for a ≡ plan_page j))
        ⊎ ((k : ℕ) × (read_job file ≡ refused k) × ReaderNumber k × (printed_for a ≡ refusal_line k))
    go (accepted j) e = inl (j, e, refl)
    go (refused k) e = inr (k, e, read_numbers file k e, refl)

-- it is what is printed for the first 16,384 bytes
pub enough : (file : List ℕ) → printed (take 16384 file) ≡ printed file
unfolding printed
enough file = ap printed_for (settled file 16384 (omega arith))
