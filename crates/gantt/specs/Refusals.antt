-- What the call answers, whatever the input: a page in the buffer, or a number with its cause and the buffer as it was.
use Rattle.std.specs.Prelude.{◌⊎◌, ◌≡◌, List, ◌++◌, ℕ, ◌≤◌, ◌<◌, length}
use Rattle.std.proofs.Common.{inl, inr, lt-ltb, le-ltb}
use Rattle.std.proofs.Math.Path.{refl}
use Rattle.std.proofs.Math.ListN.{drop}
use Rattle.base.specs.Laws.Tests.{le_or_lt}
use Rattle.job.specs.Job.{Job}
use Rattle.job.specs.Read.{Answer, accepted, refused, read_job}
use Rattle.schedule.specs.Answers.Checked.{Checked, Yes, Refused as NotChecked}
use Rattle.schedule.specs.Check.{check_for, check_call}
use Rattle.gantt.specs.Answer.{Length, Refused}
use Rattle.gantt.specs.Page.{page_length}
use Rattle.gantt.specs.Draw.{drawn, page_of, drawn_by, draw_for, draw_call}

module _ (file starts processors buffer : List ℕ) where
  -- the length of an accepted job's page
  abbrev length_of : Job → ℕ
  length_of j = page_length j.platform.processors

  -- why it draws: the job is accepted, the buffer has room, and the checker says yes to the plan
  pub record Draws (j : Job) : Type 0 where
    pub says : read_job file ≡ accepted j
    pub has_room : length_of j ≤ length buffer
    pub checked : check_call file starts processors ≡ Yes

  -- why it refuses by k: the reader does; or the job is accepted, and the buffer is short (9) or the checker refuses the plan by k
  abbrev pub Refuses : ℕ → Type 0
  Refuses k =
      (read_job file ≡ refused k)
      ⊎ ((j : Job) × (read_job file ≡ accepted j)
      × (((k ≡ 9) × (length buffer < length_of j)) ⊎ (check_call file starts processors ≡ NotChecked k)))

  -- it does one or the other
  pub draw_answers :
      ((j : Job) × Draws j
      × (draw_call file starts processors buffer
      ≡ drawn (Length (length_of j)) (page_of j starts processors ++ drop (length_of j) buffer)))
      ⊎ ((k : ℕ) × Refuses k × (draw_call file starts processors buffer ≡ drawn (Refused k) buffer))
  unfolding draw_call draw_for drawn_by check_call
  draw_answers = go (read_job file) refl
    where
      Answered : Type 0
      Answered =
          ((j : Job) × Draws j
          × (draw_for (read_job file) starts processors buffer
          ≡ drawn (Length (length_of j)) (page_of j starts processors ++ drop (length_of j) buffer)))
          ⊎ ((k : ℕ) × Refuses k × (draw_for (read_job file) starts processors buffer ≡ drawn (Refused k) buffer))

      by_verdict : (j : Job) → read_job file ≡ accepted j → length_of j ≤ length buffer → (c : Checked)
          → check_for (accepted j) starts processors ≡ c → Answered
      by_verdict j e h Yes v =
          inl (j, record { says = e; has_room = h; checked = rw e v }, rw (e, le-ltb (length buffer) (length_of j) h, v))
      by_verdict j e h (NotChecked k) v = inr (k, inr (j, e, inr (rw e v)), rw (e, le-ltb (length buffer) (length_of j) h, v))

      held : (j : Job) → read_job file ≡ accepted j → (length_of j ≤ length buffer) ⊎ (length buffer < length_of j) → Answered
      held j e (inl h) = by_verdict j e h (check_for (accepted j) starts processors) refl
      held j e (inr h) = inr (9, inr (j, e, inl (refl, h)), rw (e, lt-ltb (length buffer) (length_of j) h))

      go : (a : Answer) → read_job file ≡ a → Answered
      go (accepted j) e = held j e (le_or_lt (length_of j) (length buffer))
      go (refused k) e = inr (k, inl e, rw e)
