-- The page from C: the call returns the number of the call on slices and leaves its bytes, and it draws the plans that the checker accepts.
use Rattle.std.specs.Prelude.{Bool, ◌≡◌, Result, Ok, Err, List, ltb, length, get_or}
use Rattle.std.proofs.Math.Bool.{true, false}
use Rattle.std.proofs.Math.Logic.{⊎_elim}
use Rattle.std.proofs.Math.Path.{refl, sym}
use Rattle.std.proofs.Common.{ap, ◌∙◌, arith, lt-ltb, le-ltb}
use Prim.Native.Nat.{ℕ, ◌*◌, ◌≤◌, ◌<◌}
use Rattle.base.specs.Choice.{pick}
use Rattle.base.specs.Laws.Lists.{map-upto_at, map-upto-length}
use Rattle.base.specs.Laws.Tests.{lt_or_ge}
use Rattle.job.specs.declared.table.Refusal.{Refusal}
use Rattle.job.specs.Job.{Job}
use Rattle.job.specs.Read.{Answer, accepted, refused, read_job}
use Rattle.etf.specs.Instance.{tasks}
use Rattle.etf.specs.OfJob.{instance}
use Rattle.schedule.specs.Answers.Checked.{Checked, Yes, Refused as NotChecked}
use Rattle.schedule.specs.Check.{check_call}
use Rattle.gantt.specs.Answer.{as_drawn as as_drawn_answer}
use Rattle.gantt.specs.Page.{page_length}
use Rattle.gantt.specs.Draw.{drawn_by, draw_for, draw_call}
use Rattle.gantt.specs.Places.{SamePlan, drawn_same}
use Rattle.schedule.specs.Answers.Number.{answer_number}
use Rattle.kelvrist.specs.PlanBytes.{processor_in, start_in, check_bytes_call}
use Rattle.kelvrist.specs.PageBytes.{drew, page_number, as_drawn_call, starts_in, processors_in, page_bytes_for, page_bytes_call}
use Rattle.kelvrist.specs.Numbers.{check_number, check_passes_on, check_short, check_number_lem}

-- the page from C: a refused file's own number, ..
pub page_passes_on : (file plan page : List ℕ) (k : ℕ) → read_job file ≡ refused k → page_bytes_call file plan page ≡ drew k page
unfolding page_bytes_call page_bytes_for
page_passes_on file plan page k e = rw e

-- the numbers of m tasks in a plan's bytes, by place
module _ (m : ℕ) (plan : List ℕ) where
  for_starts_in : m ≤ length (starts_in m plan)
  for_starts_in = omega (arith, map-upto-length (start_in plan) m)

  for_processors_in : m ≤ length (processors_in m plan)
  for_processors_in = omega (arith, map-upto-length (processor_in plan) m)

  task_in : (T : ℕ) → T < m → (get_or (starts_in m plan) T 0 ≡ start_in plan T) × (get_or (processors_in m plan) T 0 ≡ processor_in plan T)
  task_in T i = (map-upto_at (start_in plan) m T 0 i, map-upto_at (processor_in plan) m T 0 i)

-- a result has the number of the answer that it is read as
pub drawn_number : (r : Result ℕ Refusal) → answer_number r ≡ page_number (as_drawn_answer r)
drawn_number (Ok n) = refl
drawn_number (Err e) = refl

-- the number of a drawing is that of the judgement that it goes by
same_number : (c : Checked) (n : ℕ) (drawing page : List ℕ) → page_number (drawn_by c n drawing page).answer ≡ check_number c
unfolding drawn_by
same_number Yes n drawing page = refl
same_number (NotChecked k) n drawing page = refl

module _ (file plan page : List ℕ) (j : Job) (e : read_job file ≡ accepted j) where
  -- .. 9 for a plan too short for the job, ..
  pub page_short : length plan < 5 * tasks (instance j) → page_bytes_call file plan page ≡ drew 9 page
  unfolding page_bytes_call page_bytes_for
  page_short h = rw e (simp (lt-ltb (length plan) (5 * tasks (instance j)) h))

  -- .. 9 for a buffer too short for the page, whatever the plan is, ..
  pub no_room : length page < page_length j.platform.processors → page_bytes_call file plan page ≡ drew 9 page
  unfolding page_bytes_call page_bytes_for draw_for
  no_room r = rw e (simp (lt-ltb (length page) (page_length j.platform.processors) r) (go (ltb (length plan) (5 * tasks (instance j)))))
    where
      go : (b : Bool) → pick b (drew 9 page) (drew 9 page) ≡ drew 9 page
      go true = refl
      go false = refl

  -- .. and always, over slices that hold the plan's tasks, the number of the call on slices, and the bytes that it leaves
  pub as_drawn : (starts processors : List ℕ) → 5 * tasks (instance j) ≤ length plan → tasks (instance j) ≤ length starts
      → tasks (instance j) ≤ length processors
      → ((T : ℕ) → T < tasks (instance j) → (get_or starts T 0 ≡ start_in plan T) × (get_or processors T 0 ≡ processor_in plan T))
      → page_bytes_call file plan page ≡ as_drawn_call (draw_call file starts processors page)
  unfolding page_bytes_call page_bytes_for draw_call
  as_drawn starts processors h s p same =
      let m = tasks (instance j) in
      let S : SamePlan m (starts_in m plan) (processors_in m plan) starts processors = record {
        for_starts = for_starts_in m plan;
        for_processors = for_processors_in m plan;
        for_starts' = s;
        for_processors' = p;
        same_start = λ T i. (task_in m plan T i).0 ∙ sym (same T i).0;
        same_processor = λ T i. (task_in m plan T i).1 ∙ sym (same T i).1;
      } in
      rw e (simp (le-ltb (length plan) (5 * m) h) (ap as_drawn_call (drawn_same j S page)))

  -- with room for the page the number is the checker's ..
  pub as_checked : page_length j.platform.processors ≤ length page → (page_bytes_call file plan page).number ≡ check_bytes_call file plan
  unfolding draw_call draw_for check_call
  as_checked r = ⊎_elim (λ s. rw (page_short s) (sym (check_short file plan j e s))) long (lt_or_ge (length plan) (5 * m))
    where
      m : ℕ
      m = tasks (instance j)

      s : List ℕ
      s = starts_in m plan

      p : List ℕ
      p = processors_in m plan

      judged : (as_drawn_call (draw_call file s p page)).number ≡ check_number (check_call file s p)
      judged = rw (e, le-ltb (length page) (page_length j.platform.processors) r) (same_number _ _ _ _)

      long : 5 * m ≤ length plan → (page_bytes_call file plan page).number ≡ check_bytes_call file plan
      long h =
          rw (as_drawn s p h (for_starts_in m plan) (for_processors_in m plan) (task_in m plan))
          (judged ∙ sym (check_number_lem file plan j e s p h (for_starts_in m plan) (for_processors_in m plan) (task_in m plan)))

  -- .. so a plan that the checker accepts is drawn
  pub accepted_drawn : page_length j.platform.processors ≤ length page → check_bytes_call file plan ≡ 0
      → (page_bytes_call file plan page).number ≡ 0
  accepted_drawn r h = as_checked r ∙ h

-- and the checker accepts a plan that is drawn
pub drawn_accepted : (file plan page : List ℕ) → (page_bytes_call file plan page).number ≡ 0 → check_bytes_call file plan ≡ 0
drawn_accepted file plan page h = go (read_job file) refl
  where
    go : (a : Answer) → read_job file ≡ a → check_bytes_call file plan ≡ 0
    go (accepted j) e =
        ⊎_elim (λ r. absurd (omega (arith, rw (no_room file plan page j e r) at h))) (λ r. sym (as_checked file plan page j e r) ∙ h)
        (lt_or_ge (length page) (page_length j.platform.processors))
    go (refused k) e = check_passes_on file plan k e ∙ (rw (page_passes_on file plan page k e) at h)
