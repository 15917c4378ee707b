-- The dearest chain is what it is called.
use Rattle.std.specs.Prelude.{◌≡◌, List, [], ◌≤◌}
use Rattle.job.specs.Job.{Edge}
use Rattle.etf.specs.Instance.{Instance, WellFormed}
use Rattle.etf.specs.Dearest.{Chain, price, dearest}
use Rattle.etf.proofs.Laws.Dearest.{chain_below, chain_at, dearest_none}

module _ (I : Instance) where
  -- no chain is dearer
  pub none_dearer : WellFormed I → (es : List Edge) → Chain I es → price I es ≤ dearest I
  none_dearer = chain_below I

  -- and one is as dear
  pub one_as_dear : (es : List Edge) × Chain I es × (price I es ≡ dearest I)
  one_as_dear = chain_at I

  -- 01: "0 without links"
  pub none_without_edges : I.edges ≡ [] → dearest I ≡ 0
  none_without_edges = dearest_none I
