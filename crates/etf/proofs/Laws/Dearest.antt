-- The dearest chain against all chains, by induction on how many edges a chain has.
use Rattle.std.specs.Prelude.{◌≡◌, ◌⊎◌}
use Rattle.std.proofs.Math.Path.{refl, sym, ap}
use Rattle.std.proofs.Common.{◌∙◌, subst, inl, inr}
use mathlib.Core.List.{List, [], ◌∷◌}
use Prim.Native.Nat.{ℕ, zero, suc, ◌+◌, ◌*◌, ◌-◌, ◌≤◌, ◌<◌}
use native.Mathlib.Omega.{arith}
use Rattle.base.specs.Lists.{◌∈◌, upto, greatest}
use Rattle.base.specs.Laws.Tests.{le_or_lt}
use Rattle.base.specs.Laws.Lists.{in_nothing, greatest_ge, greatest_at, upto_in}
use Rattle.job.specs.Job.{Edge}
use Rattle.etf.specs.Instance.{Instance, WellFormed, tasks, into}
use Rattle.etf.specs.Dearest.{EndsAt, greatest_cost, Chain, price, dearest_to, dearest}
use Rattle.etf.proofs.Laws.Placements.{into_of, into_in}

module _ (I : Instance) where
  price_most : WellFormed I → (es : List Edge) (k T : ℕ) → Chain I es → EndsAt T es → T < k → price I es ≤ dearest_to I k T
  unfolding price dearest_to
  price_most W [] k T c e h = omega arith
  price_most W (d ∷ es) zero T c e h = absurd (omega arith)
  price_most W (d ∷ es) (suc k) T c e h =
      let up = W.goes_up d c.0 in
      omega (
        arith,
        price_most W es k d.from c.2 c.1 (omega arith),
        greatest_ge (λ x. x.count * greatest_cost I + dearest_to I k x.from) (into I T) d (into_in I T d c.0 e),
      )

  -- no chain is dearer
  pub chain_below : WellFormed I → (es : List Edge) → Chain I es → price I es ≤ dearest I
  unfolding dearest price
  chain_below W [] c = omega arith
  chain_below W (d ∷ es) c =
      let up = W.goes_up d c.0 in
      omega (
        arith,
        price_most W (d ∷ es) (tasks I) d.to c refl up.1,
        greatest_ge (dearest_to I (tasks I)) (upto (tasks I)) d.to (upto_in (tasks I) d.to up.1),
      )

  chain_to_lem : (k T : ℕ) → (es : List Edge) × Chain I es × EndsAt T es × (price I es ≡ dearest_to I k T)
  unfolding price dearest_to
  chain_to_lem zero T = ([], tt, tt, refl)
  chain_to_lem (suc k) T = go (le_or_lt 1 (greatest f (into I T))) (λ S. chain_to_lem k S)
    where
      f : Edge → ℕ
      f e = e.count * greatest_cost I + dearest_to I k e.from

      go : (1 ≤ greatest f (into I T)) ⊎ (greatest f (into I T) < 1)
          → ((S : ℕ) → (es : List Edge) × Chain I es × EndsAt S es × (price I es ≡ dearest_to I k S))
          → (es : List Edge) × Chain I es × EndsAt T es × (price I es ≡ greatest f (into I T))
      go (inl h) r =
          let z = greatest_at f (into I T) (greatest f (into I T) - 1) (omega arith) in
          let e = z.0 in
          let i = into_of I T e z.1 in
          let s = r e.from in
          (e ∷ s.0, (i.0, s.2, s.1), i.1, omega (arith, z.2, greatest_ge f (into I T) e z.1, s.3))
      go (inr h) r = ([], tt, tt, omega arith)

  -- and one is as dear
  pub chain_at : (es : List Edge) × Chain I es × (price I es ≡ dearest I)
  unfolding dearest price
  chain_at = go (le_or_lt 1 (greatest (dearest_to I (tasks I)) (upto (tasks I))))
    where
      top : ℕ
      top = greatest (dearest_to I (tasks I)) (upto (tasks I))

      go : (1 ≤ top) ⊎ (top < 1) → (es : List Edge) × Chain I es × (price I es ≡ top)
      go (inl h) =
          let z = greatest_at (dearest_to I (tasks I)) (upto (tasks I)) (top - 1) (omega arith) in
          let s = chain_to_lem (tasks I) z.0 in
          (s.0, s.1, omega (arith, s.3, z.2, greatest_ge (dearest_to I (tasks I)) (upto (tasks I)) z.0 z.1))
      go (inr h) = ([], tt, omega arith)

  -- where no message costs anything no chain does
  price_free : greatest_cost I ≡ 0 → (es : List Edge) → price I es ≡ 0
  unfolding price
  price_free z [] = refl
  price_free z (e ∷ es) = omega (arith, price_free z es, ap (λ x. e.count * x) z)

  pub dearest_free : greatest_cost I ≡ 0 → dearest I ≡ 0
  dearest_free z = let c = chain_at in sym c.2 ∙ price_free z c.0

  pub dearest_none : I.edges ≡ [] → dearest I ≡ 0
  unfolding price
  dearest_none z = let c = chain_at in sym c.2 ∙ empty c.0 c.1
    where
      empty : (es : List Edge) → Chain I es → price I es ≡ 0
      empty [] c = refl
      empty (e ∷ es) c = absurd (in_nothing (subst (λ l. e ∈ l) z c.0))
