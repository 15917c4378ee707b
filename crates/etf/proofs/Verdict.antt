-- The checker's answer and the rules.
use Rattle.std.specs.Prelude.{◌≡◌, ◌↔◌, List, ℕ}
use Rattle.std.proofs.Math.Option.{none, some}
use Rattle.etf.specs.Instance.{Instance}
use Rattle.etf.specs.Schedule.{Placement}
use Rattle.etf.specs.Checker.{Keeps, check, Because}
use Rattle.etf.proofs.Laws.Checker.{yes_keeps, keeps_yes, refused_because}

module _ (I : Instance) (ps : List Placement) where
  -- the answer is a yes exactly if the rules hold
  pub yes_exactly : check I ps ≡ none ↔ Keeps I ps
  yes_exactly = (yes_keeps I ps, keeps_yes I ps)

  -- and a number only with its condition
  pub number_only : (k : ℕ) → check I ps ≡ some k → Because I ps k
  number_only = refused_because I ps
