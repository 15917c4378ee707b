-- What a round does.
use Rattle.std.specs.Prelude.{◌≡◌, ◌∷◌, ℕ, ◌<◌}
use Rattle.std.proofs.Math.Option.{some}
use Rattle.etf.specs.Instance.{Instance}
use Rattle.etf.specs.Schedule.{Placement}
use Rattle.etf.specs.Rule.{State, next_moment}

-- what a round does (02 §14: "A round is a placing, or a move of the clock while steps remain unplaced"): the move is to NM, which is ahead
pub data Round (I : Instance) (st : State) : State → Type 0 where
  places : (u : Placement) → Round I st (record { clock = st.clock; placements = u ∷ st.placements })
  moves : (x : ℕ) → next_moment I st.clock st.placements ≡ some x → st.clock < x
      → Round I st (record { clock = x; placements = st.placements })
