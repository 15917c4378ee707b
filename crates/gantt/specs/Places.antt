-- Of a plan's slices only the tasks' places count (01: "places past m are not read"): plans that are the same there are drawn the same.
use Rattle.std.specs.Prelude.{◌≡◌, List, ℕ, ◌≤◌, ◌<◌, length, get_or}
use borrow.Author.Tests.{le-ltb}
use Rattle.base.specs.Lists.{upto}
use Rattle.base.specs.Laws.Lists.{upto_of, map_same}
use Rattle.job.specs.Job.{Job}
use Rattle.job.specs.Read.{accepted}
use Rattle.etf.specs.Instance.{Instance, tasks}
use Rattle.etf.specs.Schedule.{schedule_of}
use Rattle.etf.specs.Checker.{check}
use Rattle.etf.specs.OfJob.{instance}
use Rattle.schedule.specs.Check.{check_of, checked_as, check_for}
use Rattle.schedule.specs.Verdict.{plan_in}
use Rattle.gantt.specs.Draw.{page_of, draw_for}

-- two plans in slices that have room for a job's tasks, with the same start and processor for each
pub record SamePlan (m : ℕ) (starts processors starts' processors' : List ℕ) : Type 0 where
  pub for_starts : m ≤ length starts
  pub for_processors : m ≤ length processors
  pub for_starts' : m ≤ length starts'
  pub for_processors' : m ≤ length processors'
  pub same_start : (T : ℕ) → T < m → get_or starts T 0 ≡ get_or starts' T 0
  pub same_processor : (T : ℕ) → T < m → get_or processors T 0 ≡ get_or processors' T 0

module _ (j : Job) {starts processors starts' processors' : List ℕ}
    (S : SamePlan (tasks (instance j)) starts processors starts' processors') where
  abbrev I : Instance
  I = instance j

  plan_same : plan_in I starts processors ≡ plan_in I starts' processors'
  unfolding schedule_of
  plan_same =
      map_same _ _ (upto (tasks I)) (λ T h. rw (S.same_start T (upto_of (tasks I) T h), S.same_processor T (upto_of (tasks I) T h)))

  -- what the checker says of either, which has room
  said : (s p : List ℕ) → tasks I ≤ length s → tasks I ≤ length p
      → check_for (accepted j) s p ≡ checked_as (check I (plan_in I s p))
  unfolding check_for check_of
  said s p a b = rw (le-ltb (length s) (tasks I) a, le-ltb (length p) (tasks I) b)

  pub drawn_same : (buffer : List ℕ)
      → draw_for (accepted j) starts processors buffer ≡ draw_for (accepted j) starts' processors' buffer
  unfolding draw_for page_of
  drawn_same buffer =
      rw (
        said starts processors S.for_starts S.for_processors,
        said starts' processors' S.for_starts' S.for_processors',
        plan_same,
      )
