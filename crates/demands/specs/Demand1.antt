-- Demand 1 of the notice: every input is answered, by an acceptance or a number of document 01.
-- Each entry is proved to end and to answer what its definition says; these are theorems about the definitions.
use Rattle.std.specs.Prelude.{◌⊎◌, ◌↔◌, ◌≡◌, List, ℕ, suc, ◌*◌, ◌≤◌, ◌<◌, length, get_or, drop}
use Rattle.job.specs.declared.Arrays.{Arrays}
use Rattle.job.specs.declared.Platform.{Platform}
use Rattle.job.specs.declared.Verdict.TheVariants.{Counts, Refused as NotRead}
use Rattle.job.specs.Write.{Length, Refused as NotWritten}
use Rattle.job.specs.Job.{Job}
use Rattle.job.specs.Record.{kind_of}
use Rattle.job.specs.Read.{accepted, refused, read_job, reading_of}
use Rattle.job.specs.Cause.{Cause, ReaderNumber, Reached}
use Rattle.job.specs.Write.{file_of, held_job, Held, write_answer, WriterNumber, write_out}
use Rattle.job.specs.Refusal.{read_refused, write_refused}
use Rattle.etf.specs.Instance.{tasks}
use Rattle.etf.specs.Schedule.{schedule_of}
use Rattle.etf.specs.Checker.{Because}
use Rattle.etf.specs.OfJob.{instance, instance_by_weight}
use Rattle.schedule.specs.Answers.Planned.{Plan, Refused as NotPlanned}
use Rattle.schedule.specs.Answers.Covered.{Cover, Refused as NotCovered}
use Rattle.schedule.specs.Answers.Checked.{Yes, Refused as NotChecked}
use Rattle.schedule.specs.declared.Outcome.{Outcome}
use Rattle.schedule.specs.declared.Figures.{Figures}
use Rattle.schedule.specs.Call.{called, CallNumber}
use Rattle.schedule.specs.Plan.{plan_call, weight_call}
use Rattle.schedule.specs.Small.{small_call}
use Rattle.schedule.specs.Cover.{cover_call, weight_cover_call}
use Rattle.schedule.specs.SmallPlan.{small_answered, small_number, small_cause, small_refused}
use Rattle.schedule.specs.Check.{CheckerNumber, check_for, check_call}
use Rattle.job.specs.Accepted.{refused_is}
use Rattle.kelvrist.specs.PlanBytes.{returned, processor_in, start_in, plan_bytes_call, weight_bytes_call, check_bytes_call}
use Rattle.kelvrist.specs.Numbers.{check_passes_on}
use Rattle.listing.specs.Listing.{refusal_line, plan_listing, listing}
use Rattle.demands.specs.Laws.Printed.{prints}
use Rattle.demands.specs.Laws.Judged.{read_answers, check_refuses, check_answers, check_returns, check_returns_number}
use Rattle.demands.specs.Laws.Judged.{write_answers, write_leaves}
use Rattle.demands.specs.Laws.Answers.{plan_answered, plan_number_lem, plan_cause, plan_refused}
use Rattle.demands.specs.Laws.Answers.{cover_answered, cover_cause, cover_refused, plan_as_cover, cover_as_plan, one_as_other}
use Rattle.demands.specs.Laws.Refused.{bytes_answered, bytes_number, bytes_cause, bytes_refused, one_number}

-- ---- 00: "The answer to every job file .. is an acceptance or one of the refusal numbers of document 01, whatever the bytes."

module _ (file : List ℕ) where
  -- the reader accepts, or refuses by one of its numbers
  pub reader_answers : ((m l : ℕ) × ((reading_of (read_job file)).verdict ≡ Counts m l))
      ⊎ ((k : ℕ) × ((reading_of (read_job file)).verdict ≡ NotRead k) × ReaderNumber k)
  reader_answers = read_answers file

  -- by a number only with its condition: at a place that it comes to past records without trouble the file ends (1), or a record has the
  -- number's cause
  pub reader_refuses : (k : ℕ) → (reading_of (read_job file)).verdict ≡ NotRead k →
      (at : ℕ) × (j : Job) × Reached file at j
      × (((length file ≤ at) × (k ≡ 1)) ⊎ ((at < length file) × Cause (drop (suc at) file) j (kind_of (get_or file at 0)) k))
  reader_refuses k e = read_refused file k (refused_is (read_job file) e)

  -- the program prints a plan, or the reader's number, and nothing else
  pub program_answers : ((j : Job) × (read_job file ≡ accepted j) × (listing file ≡ plan_listing j))
      ⊎ ((k : ℕ) × (read_job file ≡ refused k) × ReaderNumber k × (listing file ≡ refusal_line k))
  program_answers = prints file

  module _ (starts processors scratch : List ℕ) where
    -- the planner accepts, or refuses by one of the reader's numbers or 9
    pub planner_answers : ((o : Outcome) × ((plan_call file starts processors scratch).answer ≡ Plan o))
        ⊎ ((k : ℕ) × ((plan_call file starts processors scratch).answer ≡ NotPlanned k) × CallNumber k)
    planner_answers = plan_answered instance file starts processors scratch

    -- by the reader's number for the file, or by 9 for a slice that is too short for an accepted job, and then only
    pub planner_refuses : (k : ℕ) → (plan_call file starts processors scratch).answer ≡ NotPlanned k
        ↔ ((read_job file ≡ refused k)
        ⊎ ((k ≡ 9) × (j : Job) × (read_job file ≡ accepted j)
        × ((length starts < tasks (instance j)) ⊎ ((length processors < tasks (instance j)) ⊎ (length scratch < 4096)))))
    planner_refuses k = (plan_cause instance file starts processors scratch k, plan_number_lem instance file starts processors scratch k)

    -- the planner for small controllers (02 §4) does as the planner does, "only 9 has the new length"
    pub small_answers : ((o : Outcome) × ((small_call file starts processors scratch).answer ≡ Plan o))
        ⊎ ((k : ℕ) × ((small_call file starts processors scratch).answer ≡ NotPlanned k) × CallNumber k)
    small_answers = small_answered file starts processors scratch

    pub small_refuses : (k : ℕ) → (small_call file starts processors scratch).answer ≡ NotPlanned k
        ↔ ((read_job file ≡ refused k)
        ⊎ ((k ≡ 9) × (j : Job) × (read_job file ≡ accepted j)
        × ((length starts < tasks (instance j)) ⊎ ((length processors < tasks (instance j)) ⊎ (length scratch < 512)))))
    small_refuses k = (small_cause file starts processors scratch k, small_number file starts processors scratch k)

    -- the cover call accepts, or refuses by one of them
    pub cover_answers : ((f : Figures) × ((cover_call file starts processors scratch).answer ≡ Cover f))
        ⊎ ((k : ℕ) × ((cover_call file starts processors scratch).answer ≡ NotCovered k) × CallNumber k)
    cover_answers = cover_answered instance file starts processors scratch

    -- where the planner does, and then only (01: "it refuses as the planner does")
    pub cover_refuses : (k : ℕ)
        → (cover_call file starts processors scratch).answer ≡ NotCovered k
        ↔ (plan_call file starts processors scratch).answer ≡ NotPlanned k
    cover_refuses k = (plan_as_cover instance file starts processors scratch k, cover_as_plan instance file starts processors scratch k)

    -- 02 §6: "A new entry, with the larger entry's slices and refusals": it accepts, or refuses by one of the planner's numbers, ..
    pub weight_answers : ((o : Outcome) × ((weight_call file starts processors scratch).answer ≡ Plan o))
        ⊎ ((k : ℕ) × ((weight_call file starts processors scratch).answer ≡ NotPlanned k) × CallNumber k)
    weight_answers = plan_answered instance_by_weight file starts processors scratch

    -- .. each with the planner's condition, by the same lengths, ..
    pub weight_refuses : (k : ℕ) → (weight_call file starts processors scratch).answer ≡ NotPlanned k
        ↔ ((read_job file ≡ refused k)
        ⊎ ((k ≡ 9) × (j : Job) × (read_job file ≡ accepted j)
        × ((length starts < tasks (instance j)) ⊎ ((length processors < tasks (instance j)) ⊎ (length scratch < 4096)))))
    weight_refuses k = (
      plan_cause instance_by_weight file starts processors scratch k,
      plan_number_lem instance_by_weight file starts processors scratch k,
    )

    -- .. so where the planner does, and then only
    pub weight_refuses_as_planner : (k : ℕ)
        → (weight_call file starts processors scratch).answer ≡ NotPlanned k
        ↔ (plan_call file starts processors scratch).answer ≡ NotPlanned k
    weight_refuses_as_planner k = (
      one_as_other instance_by_weight instance file starts processors scratch k,
      one_as_other instance instance_by_weight file starts processors scratch k,
    )

    -- 02 §6: ".. and a cover call of its own": it accepts, or refuses where its planner does, and then only
    pub weight_cover_answers : ((f : Figures) × ((weight_cover_call file starts processors scratch).answer ≡ Cover f))
        ⊎ ((k : ℕ) × ((weight_cover_call file starts processors scratch).answer ≡ NotCovered k) × CallNumber k)
    weight_cover_answers = cover_answered instance_by_weight file starts processors scratch

    pub weight_cover_refuses : (k : ℕ) → (weight_cover_call file starts processors scratch).answer ≡ NotCovered k
        ↔ (weight_call file starts processors scratch).answer ≡ NotPlanned k
    weight_cover_refuses k = (
      plan_as_cover instance_by_weight file starts processors scratch k,
      cover_as_plan instance_by_weight file starts processors scratch k,
    )

  -- the planner from C returns 0, or one of the planner's numbers
  pub planner_returns : (plan : List ℕ) → ((plan_bytes_call file plan).number ≡ 0) ⊎ CallNumber (plan_bytes_call file plan).number
  planner_returns plan = bytes_answered instance file plan

  -- the reader's number for the file, or 9 for a plan too short for an accepted job, and then only
  pub planner_returns_number : (plan : List ℕ) (k : ℕ) → 1 ≤ k → (plan_bytes_call file plan).number ≡ k
      ↔ ((read_job file ≡ refused k) ⊎ ((k ≡ 9) × (j : Job) × (read_job file ≡ accepted j) × (length plan < 5 * tasks (instance j))))
  planner_returns_number plan k h = (bytes_cause instance file plan k h, bytes_number instance file plan k)

  -- 02 §6: "with the larger entry's slices and refusals": the new entry from C returns 0, or one of the planner's numbers, ..
  pub weight_returns : (plan : List ℕ) → ((weight_bytes_call file plan).number ≡ 0) ⊎ CallNumber (weight_bytes_call file plan).number
  weight_returns plan = bytes_answered instance_by_weight file plan

  -- .. each with the planner's condition, ..
  pub weight_returns_number : (plan : List ℕ) (k : ℕ) → 1 ≤ k → (weight_bytes_call file plan).number ≡ k
      ↔ ((read_job file ≡ refused k) ⊎ ((k ≡ 9) × (j : Job) × (read_job file ≡ accepted j) × (length plan < 5 * tasks (instance j))))
  weight_returns_number plan k h = (bytes_cause instance_by_weight file plan k h, bytes_number instance_by_weight file plan k)

  -- .. so the number that the planner from C returns
  pub weight_returns_as_planner : (plan : List ℕ) → (weight_bytes_call file plan).number ≡ (plan_bytes_call file plan).number
  weight_returns_as_planner = one_number instance_by_weight instance file

  -- ---- 00: ".. and to every plan handed in for checking ..": the checker accepts, or refuses by its numbers, each only with its condition

  module _ (starts processors : List ℕ) where
    pub checker_answers : (check_call file starts processors ≡ Yes)
        ⊎ ((k : ℕ) × (check_call file starts processors ≡ NotChecked k) × CheckerNumber k)
    checker_answers = check_answers file starts processors

    -- the reader's number for the file, 9 for a slice too short for an accepted job, or 10 to 13 for a plan that breaks that number's rule
    pub checker_refuses : (k : ℕ) → check_call file starts processors ≡ NotChecked k →
        (read_job file ≡ refused k)
        ⊎ ((j : Job) × (read_job file ≡ accepted j)
        × (((k ≡ 9) × ((length starts < tasks (instance j)) ⊎ (length processors < tasks (instance j))))
        ⊎ Because (instance j) (schedule_of (instance j) (λ T. get_or processors T 0) (λ T. get_or starts T 0)) k))
    checker_refuses = check_refuses file starts processors

    -- 01: "A refused job is passed on with the reader's own number"
    pub checker_passes_on : (k : ℕ) → read_job file ≡ refused k → check_call file starts processors ≡ NotChecked k
    unfolding check_call check_for
    checker_passes_on k e = rw e

  -- the checker from C returns 0, or one of the checker's numbers
  pub checker_returns : (plan : List ℕ) → (check_bytes_call file plan ≡ 0) ⊎ CheckerNumber (check_bytes_call file plan)
  checker_returns = check_returns file

  -- each number but 0 only with its condition, and a refused file's own is returned
  pub checker_returns_number : (plan : List ℕ) (k : ℕ) → 1 ≤ k → check_bytes_call file plan ≡ k →
      (read_job file ≡ refused k)
      ⊎ ((j : Job) × (read_job file ≡ accepted j)
      × (((k ≡ 9) × (length plan < 5 * tasks (instance j)))
      ⊎ Because (instance j) (schedule_of (instance j) (processor_in plan) (start_in plan)) k))
  checker_returns_number = check_returns_number file

  pub checker_returns_passed : (plan : List ℕ) (k : ℕ) → read_job file ≡ refused k → check_bytes_call file plan ≡ k
  checker_returns_passed plan k e = check_passes_on file plan k e

-- ---- the writer, for a job held as numbers: it writes, or refuses by its numbers

module _ (p : Platform) (m l : ℕ) (a : Arrays) (out : List ℕ) (h : Held a) where
  abbrev held : Job
  held = held_job p m l a

  pub writer_answers : (write_answer m l held out ≡ Length (length (file_of held)))
      ⊎ ((k : ℕ) × (write_answer m l held out ≡ NotWritten k) × WriterNumber k)
  writer_answers = write_answers p m l a out h

  -- 5 for a count too large, the reader's number for the job's file, or 9 for too little room, each only with its condition
  pub writer_refuses : (k : ℕ) → write_answer m l held out ≡ NotWritten k →
      ((k ≡ 5) × ((256 < m) ⊎ (1024 < l))) ⊎ ((read_job (file_of held) ≡ refused k) ⊎ ((k ≡ 9) × (length out < length (file_of held))))
  writer_refuses k e = write_refused m l k held out e

  -- ---- 00: "It comes for each input, and a refused call leaves each lent buffer unaltered."

  -- the writer's output
  pub writer_leaves : (k : ℕ) → write_answer m l held out ≡ NotWritten k → write_out (write_answer m l held out) held out ≡ out
  writer_leaves = write_leaves (write_answer m l held out) held out

module _ (file starts processors scratch : List ℕ) (k : ℕ) where
  -- the planner's three slices, those of the planner for small controllers, and the cover call's
  pub planner_leaves : (plan_call file starts processors scratch).answer ≡ NotPlanned k
      → plan_call file starts processors scratch ≡ called (NotPlanned k) starts processors scratch
  planner_leaves h = plan_refused instance file starts processors scratch k (plan_cause instance file starts processors scratch k h)

  pub small_leaves : (small_call file starts processors scratch).answer ≡ NotPlanned k
      → small_call file starts processors scratch ≡ called (NotPlanned k) starts processors scratch
  small_leaves h = small_refused file starts processors scratch k (small_cause file starts processors scratch k h)

  pub cover_leaves : (cover_call file starts processors scratch).answer ≡ NotCovered k
      → cover_call file starts processors scratch ≡ called (NotCovered k) starts processors scratch
  cover_leaves h = cover_refused instance file starts processors scratch k (cover_cause instance file starts processors scratch k h)

  -- 02 §6: those of the new entry and of its cover call
  pub weight_leaves : (weight_call file starts processors scratch).answer ≡ NotPlanned k
      → weight_call file starts processors scratch ≡ called (NotPlanned k) starts processors scratch
  weight_leaves h =
      plan_refused instance_by_weight file starts processors scratch k (plan_cause instance_by_weight file starts processors scratch k h)

  pub weight_cover_leaves : (weight_cover_call file starts processors scratch).answer ≡ NotCovered k
      → weight_cover_call file starts processors scratch ≡ called (NotCovered k) starts processors scratch
  weight_cover_leaves h =
      cover_refused instance_by_weight file starts processors scratch k (cover_cause instance_by_weight file starts processors scratch k h)

-- the plan that C lends to the planner; the checker is lent nothing that it could alter
pub planner_leaves_bytes : (file plan : List ℕ) (k : ℕ) → 1 ≤ k → (plan_bytes_call file plan).number ≡ k
    → plan_bytes_call file plan ≡ returned k plan
planner_leaves_bytes file plan k h e = bytes_refused instance file plan k (bytes_cause instance file plan k h e)

-- 02 §6: and to the new entry
pub weight_leaves_bytes : (file plan : List ℕ) (k : ℕ) → 1 ≤ k → (weight_bytes_call file plan).number ≡ k
    → weight_bytes_call file plan ≡ returned k plan
weight_leaves_bytes file plan k h e = bytes_refused instance_by_weight file plan k (bytes_cause instance_by_weight file plan k h e)
