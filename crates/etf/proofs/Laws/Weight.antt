-- The weight of a task: how many tasks it is reckoned along does not matter, as edges go up; so it satisfies the equation of the request,
-- and nothing else does.
use Rattle.std.specs.Prelude.{◌≡◌, List}
use Rattle.std.proofs.Math.Path.{refl, ap}
use Rattle.std.proofs.Common.{sym, ◌∙◌}
use Prim.Native.Nat.{ℕ, zero, suc, ◌+◌, ◌*◌, ◌-◌, ◌≤◌, ◌<◌}
use native.Mathlib.Omega.{arith}
use Rattle.std.proofs.Math.Nat.{mul-le-mul_left}
use Rattle.std.proofs.Math.Dec.{eqb, eqb→eq}
use Rattle.job.specs.Job.{Edge}
use Rattle.base.specs.Lists.{◌∈◌, greatest}
use Rattle.etf.specs.Instance.{Instance, ordered, WellFormed, tasks, duration, out_of}
use Rattle.base.specs.Laws.Tests.{eq→eqb}
use Rattle.base.specs.Laws.Lists.{filter_in, filter_of, greatest_most, greatest_same}
use Rattle.etf.specs.Weight.{weight_in, weight}

module _ (I : Instance) where
  pub out_of_lem : (T : ℕ) (e : Edge) → e ∈ out_of I T → (e ∈ I.edges) × (e.from ≡ T)
  unfolding out_of
  out_of_lem T e h = let r = filter_of (λ d. eqb d.from T) I.edges e h in (r.0, eqb→eq e.from T r.1)

  pub out_in : (T : ℕ) (e : Edge) → e ∈ I.edges → e.from ≡ T → e ∈ out_of I T
  unfolding out_of
  out_in T e h d = filter_in (λ d. eqb d.from T) I.edges e h (eq→eqb e.from T d)

  -- the order and the costs have no part in it
  pub weight_ordered : (order : List ℕ) (k T : ℕ) → weight_in (ordered order I) k T ≡ weight_in I k T
  unfolding weight_in ordered duration out_of
  weight_ordered order zero T = refl
  weight_ordered order (suc k) T =
      ap (λ x. duration I T + x)
      (greatest_same (λ e. weight_in (ordered order I) k e.to) (λ e. weight_in I k e.to) (out_of I T)
      (λ e h. weight_ordered order k e.to))

module _ (I : Instance) (W : WellFormed I) where
  -- an edge leads to a higher task below m
  pub goes_on : (T : ℕ) (e : Edge) → e ∈ out_of I T → (T < e.to) × (e.to < tasks I)
  goes_on T e h = let r = out_of_lem I T e h in let u = W.goes_up e r.0 in (omega (arith, r.1), u.1)

  pub weight_enough : (k j T : ℕ) → T < tasks I → tasks I ≤ k + T → tasks I ≤ j + T → weight_in I k T ≡ weight_in I j T
  unfolding weight_in
  weight_enough zero j T b h i = absurd (omega arith)
  weight_enough (suc k) zero T b h i = absurd (omega arith)
  weight_enough (suc k) (suc j) T b h i =
      ap (λ x. duration I T + x)
      (greatest_same (λ e. weight_in I k e.to) (λ e. weight_in I j e.to) (out_of I T)
      (λ e q. let u = goes_on T e q in weight_enough k j e.to u.1 (omega arith) (omega arith)))

  pub weight_is : (T : ℕ) → T < tasks I → weight I T ≡ duration I T + greatest (λ e. weight I e.to) (out_of I T)
  unfolding weight weight_in
  weight_is T b = weight_enough (tasks I) (suc (tasks I)) T b (omega arith) (omega arith)

  pub weight_only : (w : ℕ → ℕ) → ((T : ℕ) → T < tasks I → w T ≡ duration I T + greatest (λ e. w e.to) (out_of I T))
      → (k T : ℕ) → T < tasks I → tasks I ≤ k + T → w T ≡ weight I T
  weight_only w r zero T b h = absurd (omega arith)
  weight_only w r (suc k) T b h =
      r T b
      ∙ ap (λ x. duration I T + x)
      (greatest_same (λ e. w e.to) (λ e. weight I e.to) (out_of I T)
      (λ e q. let u = goes_on T e q in weight_only w r k e.to u.1 (omega arith)))
      ∙ sym (weight_is T b)

  -- where no duration passes d, no weight passes d for each task from T on
  weight_in_most : (d : ℕ) → ((T : ℕ) → T < tasks I → duration I T ≤ d) → (k T : ℕ) → T < tasks I → weight_in I k T ≤ (tasks I - T) * d
  unfolding weight_in
  weight_in_most d s zero T b = omega arith
  weight_in_most d s (suc k) T b =
      let r = tasks I - T - 1 in
      let e : tasks I - T ≡ suc r = omega arith in
      let g = greatest_most (λ e. weight_in I k e.to) (out_of I T) (r * d)
      (λ e q. let u = goes_on T e q in omega (arith, weight_in_most d s k e.to u.1, less (tasks I - e.to) r (omega arith))) in
      omega (arith, ap (λ x. x * d) e, s T b)
    where
      less : (a b : ℕ) → a ≤ b → a * d ≤ b * d
      less a b h = omega (arith, mul-le-mul_left d h)

  pub weight_most : (d : ℕ) → ((T : ℕ) → T < tasks I → duration I T ≤ d) → (T : ℕ) → T < tasks I → weight I T ≤ (tasks I - T) * d
  unfolding weight
  weight_most d s T b = weight_in_most d s (tasks I) T b
