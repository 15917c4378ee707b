-- What a yes of the checker says: the plan's slices have room for the tasks, and the plan keeps the rules.
use Rattle.std.specs.Prelude.{Bool, true, false, ◌||◌, ◌⊎◌, ◌≡◌, refl, List, ℕ, ◌≤◌, ◌<◌, ltb, length, get_or}
use Rattle.std.proofs.Common.{inl, inr, lt-ltb, le-ltb}
use Rattle.std.proofs.Math.Option.{Option, none, some}
use Rattle.base.specs.Choice.{pick}
use Rattle.base.specs.Laws.Tests.{impossible, le_or_lt}
use Rattle.job.specs.Job.{Job}
use Rattle.job.specs.Read.{accepted}
use Rattle.etf.specs.Instance.{Instance, tasks}
use Rattle.etf.specs.Schedule.{Placement, schedule_of}
use Rattle.etf.specs.Checker.{Keeps}
use Rattle.etf.proofs.Verdict.{yes_exactly}
use Rattle.etf.specs.OfJob.{instance}
use Rattle.schedule.specs.Answers.Checked.{Checked, Yes, Refused}
use Rattle.schedule.specs.Check.{check_of, checked_as, check_for}

-- the plan that two slices hold
abbrev pub plan_in : Instance → List ℕ → List ℕ → List Placement
plan_in I starts processors = schedule_of I (λ T. get_or processors T 0) (λ T. get_or starts T 0)

-- such a plan: each slice has room, and the rules hold
pub record KeptIn (I : Instance) (starts processors : List ℕ) : Type 0 where
  pub for_starts : tasks I ≤ length starts
  pub for_processors : tasks I ≤ length processors
  pub keeps : Keeps I (plan_in I starts processors)

is_none : (o : Option ℕ) → checked_as o ≡ Yes → o ≡ none
unfolding checked_as
is_none none e = refl
is_none (some k) e = let z : false ≡ true = cc in impossible z

pub yes_says : (j : Job) (starts processors : List ℕ) → check_for (accepted j) starts processors ≡ Yes
    → KeptIn (instance j) starts processors
unfolding check_for check_of
yes_says j starts processors h = go (le_or_lt m (length starts)) (le_or_lt m (length processors)) h
  where
    I : Instance
    I = instance j

    m : ℕ
    m = tasks I

    verdict : Option ℕ
    verdict = check_of I (λ T. get_or processors T 0) (λ T. get_or starts T 0)

    answer : Bool → Checked
    answer b = pick b (Refused 9) (checked_as verdict)

    nine : (b : Bool) → b ≡ true → answer b ≡ Yes → KeptIn I starts processors
    nine b e w = let z : false ≡ true = cc in impossible z

    go : (m ≤ length starts) ⊎ (length starts < m) → (m ≤ length processors) ⊎ (length processors < m)
        → answer (ltb (length starts) m || ltb (length processors) m) ≡ Yes → KeptIn I starts processors
    go (inr a) b w = nine (ltb (length starts) m || ltb (length processors) m) (rw (lt-ltb (length starts) m a)) w
    go (inl a) (inr b) w =
        nine (ltb (length starts) m || ltb (length processors) m) (rw (le-ltb (length starts) m a, lt-ltb (length processors) m b)) w
    go (inl a) (inl b) w = record {
      for_starts = a;
      for_processors = b;
      keeps =
          (yes_exactly I (plan_in I starts processors)).0
          (is_none verdict (rw (le-ltb (length starts) m a, le-ltb (length processors) m b) at w));
    }
