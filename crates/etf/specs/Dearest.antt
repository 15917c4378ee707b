-- The dearest chain (01: "The cover C", last sentence).
use Rattle.std.specs.Prelude.{◌≡◌, List, [], ◌∷◌, ℕ, zero, suc, ◌+◌, ◌*◌}
use Rattle.base.specs.Lists.{◌∈◌, upto, greatest}
use Rattle.job.specs.Job.{Edge}
use Rattle.etf.specs.Instance.{Instance, tasks, into}

-- a chain of edges, the last first, ends at task T
abbrev pub EndsAt : ℕ → List Edge → Type 0
EndsAt T [] = Unit {0}
EndsAt T (e ∷ es) = e.to ≡ T

module _ (I : Instance) where
  -- 01: "the greatest cost between two boards of the rack"; p to p is among the pairs, and costs 0 in a job
  unfoldable pub greatest_cost : ℕ
  greatest_cost = greatest (λ p. greatest (λ q. I.cost p q) (upto I.processors)) (upto I.processors)

  -- a chain of edges, the last first (01: "each begins at the step where the one before it ended")
  abbrev pub Chain : List Edge → Type 0
  Chain [] = Unit {0}
  Chain (e ∷ es) = (e ∈ I.edges) × EndsAt e.from es × Chain es

  -- the sum over a chain "of counts times the greatest cost"
  unfoldable pub price : List Edge → ℕ
  price [] = 0
  price (e ∷ es) = e.count * greatest_cost + price es

  -- the greatest sum over the chains of at most k edges that end at task T
  unfoldable pub dearest_to : ℕ → ℕ → ℕ
  dearest_to zero T = 0
  dearest_to (suc k) T = greatest (λ e. e.count * greatest_cost + dearest_to k e.from) (into I T)

  -- the dearest chain: "the greatest sum, over chains of links" (`Chains.antt`: none is dearer, one is as dear)
  unfoldable pub dearest : ℕ
  dearest = greatest (dearest_to (tasks I)) (upto (tasks I))
