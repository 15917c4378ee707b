-- What the reader, the checker and the writer can answer: each answer is taken apart by its definition, and a refusal brings its condition.
use Rattle.std.specs.Prelude.{Bool, ◌||◌, ◌⊎◌, ◌≡◌, List, ℕ, ◌*◌, ◌≤◌, ◌<◌, length, get_or}
use Rattle.std.proofs.Math.Bool.{true, false}
use Rattle.std.proofs.Math.Logic.{inl, inr}
use Rattle.std.proofs.Common.{⊎_elim, arith}
use Rattle.std.proofs.Math.Option.{Option, none, some}
use Rattle.std.proofs.Math.Path.{refl}
use borrow.Author.Tests.{ltb-true}
use Rattle.std.proofs.Math.Dec.{ltb}
use Rattle.base.specs.Choice.{pick}
use Rattle.base.specs.Laws.Tests.{impossible, le_or_lt}
use Rattle.job.specs.declared.Arrays.{Arrays}
use Rattle.job.specs.declared.Platform.{Platform}
use Rattle.job.specs.declared.Verdict.TheVariants.{Counts, Refused as NotRead}
use Rattle.job.specs.Write.{Written}
use Rattle.job.specs.Write.{Length, Refused as NotWritten}
use Rattle.job.specs.Job.{Job}
use Rattle.job.specs.Read.{Answer, accepted, refused, read_job, reading_of}
use Rattle.job.specs.Write.{file_of, held_job, Held, room_for, is_too_many, write_answer, WriterNumber, write_out}
use Rattle.job.specs.Cause.{ReaderNumber}
use Rattle.job.specs.Refusal.{read_numbers, write_numbers}
use Rattle.etf.specs.Instance.{Instance, tasks}
use Rattle.etf.specs.Schedule.{Placement, schedule_of}
use Rattle.etf.specs.Checker.{Because, no_processor, too_late, overlaps, too_early}
use Rattle.etf.specs.OfJob.{instance}
use Rattle.etf.proofs.Verdict.{number_only}
use Rattle.schedule.specs.Answers.Checked.{Checked, Yes, Refused as NotChecked}
use Rattle.schedule.specs.Check.{check_of, checked_as, number_of, CheckerNumber, check_for, check_call}
use Rattle.kelvrist.specs.PlanBytes.{processor_in, start_in, check_bytes_for, check_bytes_call}

-- ---- the reader

-- it accepts, or refuses by a number of its own
abbrev pub Read : Answer → Type 0
Read a = ((m l : ℕ) × ((reading_of a).verdict ≡ Counts m l)) ⊎ ((k : ℕ) × ((reading_of a).verdict ≡ NotRead k) × ReaderNumber k)

pub read_answers : (file : List ℕ) → Read (read_job file)
unfolding reading_of
read_answers file = go (read_job file) refl
  where
    go : (a : Answer) → read_job file ≡ a → Read a
    go (accepted j) e = inl (length j.tasks, length j.edges, refl)
    go (refused k) e = inr (k, refl, read_numbers file k e)

-- ---- the checker

-- why the checker refuses by k: the reader's number, a plan without room for an accepted job's tasks, or the rule of that number
abbrev pub Refusal : List ℕ → (ℕ → Type 0) → (ℕ → ℕ) → (ℕ → ℕ) → ℕ → Type 0
Refusal file Short processor start k =
    (read_job file ≡ refused k)
    ⊎ ((j : Job) × (read_job file ≡ accepted j)
    × (((k ≡ 9) × Short (tasks (instance j))) ⊎ Because (instance j) (schedule_of (instance j) processor start) k))

-- the rules' numbers are 10 to 13
because_number : {I : Instance} {ps : List Placement} {k : ℕ} → Because I ps k → (10 ≤ k) × (k ≤ 13)
because_number (no_processor u h b) = omega arith
because_number (too_late u h b) = omega arith
because_number (overlaps u v h g n e b c) = omega arith
because_number (too_early e h u v g i a b c) = omega arith

-- so a refusal's are the checker's
refusal_number : (file : List ℕ) (Short : ℕ → Type 0) (processor start : ℕ → ℕ) (k : ℕ) → Refusal file Short processor start k
    → CheckerNumber k
refusal_number file Short processor start k (inl e) = inl (inl (read_numbers file k e))
refusal_number file Short processor start k (inr (j, e, inl (n, s))) = inl (inr n)
refusal_number file Short processor start k (inr (j, e, inr b)) = inr (because_number b)

-- a number that the checker says comes with its rule
said : (I : Instance) (processor start : ℕ → ℕ) (k : ℕ) → check_of I processor start ≡ some k → Because I (schedule_of I processor start) k
unfolding check_of
said I processor start k e = number_only I (schedule_of I processor start) k e

-- and it is said where the call answers by it, on slices or from C
is_some : (o : Option ℕ) (k : ℕ) → checked_as o ≡ NotChecked k → o ≡ some k
unfolding checked_as
is_some none k e = let z : false ≡ true = cc in impossible z
is_some (some n) k e = cc

number_some : (o : Option ℕ) (k : ℕ) → 1 ≤ k → number_of o ≡ k → o ≡ some k
unfolding number_of
number_some none k h e = absurd (omega (arith, e))
number_some (some n) k h e = cc

module _ (file starts processors : List ℕ) where
  -- a slice is too short for m tasks
  abbrev ShortSlices : ℕ → Type 0
  ShortSlices m = (length starts < m) ⊎ (length processors < m)

  abbrev processor : ℕ → ℕ
  processor T = get_or processors T 0

  abbrev start : ℕ → ℕ
  start T = get_or starts T 0

  pub check_refuses : (k : ℕ) → check_call file starts processors ≡ NotChecked k → Refusal file ShortSlices processor start k
  unfolding check_call check_for
  check_refuses k h = go (read_job file) refl h
    where
      held : (j : Job) → read_job file ≡ accepted j → (b c : Bool)
          → ltb (length starts) (tasks (instance j)) ≡ b → ltb (length processors) (tasks (instance j)) ≡ c
          → pick (b || c) (NotChecked 9) (checked_as (check_of (instance j) processor start)) ≡ NotChecked k
          → Refusal file ShortSlices processor start k
      held j e true c p q w = inr (j, e, inl (cc, inl (ltb-true _ _ p)))
      held j e false true p q w = inr (j, e, inl (cc, inr (ltb-true _ _ q)))
      held j e false false p q w =
          inr (j, e, inr (said (instance j) processor start k (is_some (check_of (instance j) processor start) k w)))

      go : (a : Answer) → read_job file ≡ a → check_for a starts processors ≡ NotChecked k → Refusal file ShortSlices processor start k
      go (refused n) e w = inl cc
      go (accepted j) e w = held j e (ltb (length starts) (tasks (instance j))) (ltb (length processors) (tasks (instance j))) refl refl w

  pub check_answers : (check_call file starts processors ≡ Yes)
      ⊎ ((k : ℕ) × (check_call file starts processors ≡ NotChecked k) × CheckerNumber k)
  check_answers = go (check_call file starts processors) refl
    where
      go : (c : Checked) → check_call file starts processors ≡ c → (c ≡ Yes) ⊎ ((k : ℕ) × (c ≡ NotChecked k) × CheckerNumber k)
      go Yes e = inl refl
      go (NotChecked k) e = inr (k, refl, refusal_number file ShortSlices processor start k (check_refuses k e))

-- from C
module _ (file plan : List ℕ) where
  -- the plan is too short for m tasks
  abbrev ShortPlan : ℕ → Type 0
  ShortPlan m = length plan < 5 * m

  pub check_returns_number : (k : ℕ) → 1 ≤ k → check_bytes_call file plan ≡ k → Refusal file ShortPlan (processor_in plan) (start_in plan) k
  unfolding check_bytes_call check_bytes_for
  check_returns_number k l h = go (read_job file) refl h
    where
      held : (j : Job) → read_job file ≡ accepted j → (b : Bool) → ltb (length plan) (5 * tasks (instance j)) ≡ b
          → pick b 9 (number_of (check_of (instance j) (processor_in plan) (start_in plan))) ≡ k
          → Refusal file ShortPlan (processor_in plan) (start_in plan) k
      held j e true p w = inr (j, e, inl (cc, ltb-true _ _ p))
      held j e false p w =
          let answered = number_some (check_of (instance j) (processor_in plan) (start_in plan)) k l w in
          inr (j, e, inr (said (instance j) (processor_in plan) (start_in plan) k answered))

      go : (a : Answer) → read_job file ≡ a → check_bytes_for a plan ≡ k → Refusal file ShortPlan (processor_in plan) (start_in plan) k
      go (refused n) e w = inl cc
      go (accepted j) e w = held j e (ltb (length plan) (5 * tasks (instance j))) refl w

  pub check_returns : (check_bytes_call file plan ≡ 0) ⊎ CheckerNumber (check_bytes_call file plan)
  check_returns = go (le_or_lt 1 (check_bytes_call file plan))
    where
      k : ℕ
      k = check_bytes_call file plan

      go : (1 ≤ k) ⊎ (k < 1) → (k ≡ 0) ⊎ CheckerNumber k
      go (inl h) = inr (refusal_number file ShortPlan (processor_in plan) (start_in plan) k (check_returns_number k h refl))
      go (inr h) = inl (omega arith)

-- ---- the writer

-- it writes as many bytes as the file has, or refuses
abbrev Writes : ℕ → Written → Type 0
Writes n r = (r ≡ Length n) ⊎ ((k : ℕ) × (r ≡ NotWritten k))

writes : (m l : ℕ) (j : Job) (out : List ℕ) → Writes (length (file_of j)) (write_answer m l j out)
unfolding write_answer room_for
writes m l j out = go (is_too_many m l) (read_job (file_of j))
  where
    room : (n : ℕ) (b : Bool) → Writes n (pick b (NotWritten 9) (Length n))
    room n true = inr (9, refl)
    room n false = inl refl

    go : (b : Bool) (a : Answer) → Writes (length (file_of j)) (pick b (NotWritten 5) (room_for (file_of j) out a))
    go true a = inr (5, refl)
    go false (accepted i) = room (length (file_of j)) (ltb (length out) (length (file_of j)))
    go false (refused k) = inr (k, refl)

-- of a job held as numbers, with the numbers of its refusals
module _ (p : Platform) (m l : ℕ) (a : Arrays) (out : List ℕ) (h : Held a) where
  abbrev answer : Written
  answer = write_answer m l (held_job p m l a) out

  pub write_answers : (answer ≡ Length (length (file_of (held_job p m l a))))
      ⊎ ((k : ℕ) × (answer ≡ NotWritten k) × WriterNumber k)
  write_answers =
      ⊎_elim inl (λ r. inr (r.0, r.1, write_numbers p m l a out r.0 h r.1))
      (writes m l (held_job p m l a) out)

-- a refusal leaves the output as it was
pub write_leaves : (r : Written) (j : Job) (out : List ℕ) (k : ℕ) → r ≡ NotWritten k → write_out r j out ≡ out
unfolding write_out
write_leaves r j out k e = rw e
