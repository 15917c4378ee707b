-- Ideal schedules (01: "The rival"): messages take no time in them.
use Rattle.std.specs.Prelude.{◌⊎◌, ◌≡◌, ℕ, ◌+◌, ◌≤◌, ◌<◌}
use Rattle.base.specs.Lists.{◌∈◌, upto, greatest}
use Rattle.job.specs.Job.{Edge}
use Rattle.etf.specs.Instance.{Instance, tasks, duration}

module _ (I : Instance) where
  -- an ideal schedule (01: a rival plan): a processor and a start, any natural number, for each task
  pub record Ideal : Type 0 where
    pub processor : ℕ → ℕ
    pub start : ℕ → ℕ
    -- 01: "gives each of its m steps a board below n"
    pub on_processor : (T : ℕ) → T < tasks I → processor T < I.processors
    -- 01: "Of two steps on one board, one finishes at or before the other's start"
    pub apart : (S T : ℕ) → S < tasks I → T < tasks I → ¬ (S ≡ T) → processor S ≡ processor T
        → (start S + duration I S ≤ start T) ⊎ (start T + duration I T ≤ start S)
    -- 01: "Across each link, the start of "to" is at least the finish of "from", its predecessor; messages add nothing"
    pub in_turn : (e : Edge) → e ∈ I.edges → start e.from + duration I e.from ≤ start e.to

  -- its makespan (01: "F is the greatest of his finishes")
  unfoldable pub makespan : Ideal → ℕ
  makespan R = greatest (λ T. R.start T + duration I T) (upto (tasks I))
