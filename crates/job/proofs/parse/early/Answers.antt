-- `parse::early`: pairs are due, and no wire stands at this place, so that it is refused: nothing or a misplaced record is there, or a step
-- with trouble of its own, or one that comes too early.
use mathlib.Core.Logic.{⊎_elim}
use mathlib.Core.Path.{◌≡◌, ap, ◌∙◌}
use mathlib.Core.List.{List}
use mathlib.Core.Option.{some}
use Prim.Native.Nat.{ℕ, ◌<◌}
use lib.ListN.{length, get_or}
use Rattle.job.specs.declared.kind.RecordKind.TheVariants.{Step}
use Rattle.job.specs.declared.table.Refusal.TheVariants.{MisplacedKind}
use Rattle.job.specs.Record.{Kind, step, wire, kind_of}
use Rattle.job.specs.Pass.{NoneThere, EarlyPassed}
use Rattle.job.specs.Laws.Kinds.{misplaced_kind, other_kind}
use Rattle.job.specs.Laws.Due.{bare}
use Rattle.job.proofs.parse.early.Goals as goal

module _ (file : List ℕ) (at : ℕ) where
  other : (k : Kind) → at < length file → kind_of (get_or file at 0) ≡ some k → NoneThere file at wire → (k ≡ step → ⊥)
      → EarlyPassed file at MisplacedKind
  other k h is no-wire no_step j s =
      misplaced_kind file at j k h is
      (⊎_elim (λ e. absurd (no_step e)) (λ n. n) (bare j s.due k (λ e t. no-wire h (is ∙ ap some e))))

pub returns-in_default : goal.returns-in_default
returns-in_default c =
    let k = c.in-Ok.ensures in
    other _ _ _ k.0 k.1 c.requires (other_kind _ Step c.in_default.not-Step)
