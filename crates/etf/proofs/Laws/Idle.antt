-- Short ticks: where the latest one before a tick is, and how many processors are idle in the ticks before.
use Rattle.std.specs.Prelude.{◌≡◌, ◌⊎◌, Bool, true, List}
use Rattle.std.proofs.Math.Path.{refl}
use Rattle.std.proofs.Common.{sym, ap, subst, inl, inr}
use Rattle.std.proofs.Math.Bool.{false, not}
use Rattle.std.proofs.Math.Option.{Option, none, some}
use Prim.Native.Nat.{ℕ, zero, suc, ◌+◌, ◌-◌, ◌≤◌, ◌<◌}
use native.Mathlib.Omega.{arith}
use Rattle.std.proofs.Math.Dec.{T as Holds}
use Rattle.base.specs.Choice.{pick}
use Rattle.base.specs.Lists.{◌∈◌, upto}
use Rattle.base.specs.Rows.{one_if, sum}
use Rattle.base.specs.Laws.Tests.{either, not_both, not-not, le_or_lt}
use Rattle.base.specs.Laws.Lists.{any_of, any_one, filter_in, filter_of, upto_in, upto_of}
use Rattle.base.specs.Laws.Sums.{one_if_most, one_if_no, sum_le, sum_same, sum_less, sum_each, sum_stretch}
use Rattle.etf.specs.Instance.{Instance}
use Rattle.etf.specs.Schedule.{Placement, finish}
use Rattle.etf.specs.Cover.{busy, idle, some_idle, latest_idle_tick}
use Rattle.etf.proofs.Laws.Placements.{busy_in}
use Rattle.etf.proofs.Laws.Ticks.{idlers, idlers_sum}

module _ (I : Instance) (ps : List Placement) where
  pub idle_of : (t P : ℕ) → P ∈ idle I ps t → (P < I.processors) × Holds (not (busy I ps P t))
  unfolding idle
  idle_of t P h =
      let r = filter_of (λ Q. not (busy I ps Q t)) (upto I.processors) P h in
      (upto_of I.processors P r.0, r.1)

  -- a short tick has an idle processor
  pub idle_in : (t : ℕ) → Holds (some_idle I ps t) → (P : ℕ) × (P ∈ idle I ps t)
  unfolding some_idle idle
  idle_in t h =
      let z = any_one (λ P. not (busy I ps P t)) (upto I.processors) h in
      (z.0, filter_in (λ P. not (busy I ps P t)) (upto I.processors) z.0 z.1 z.2)

  -- in a tick that is not short each processor is busy
  pub none_idle_in : (t : ℕ) → Holds (not (some_idle I ps t)) → (P : ℕ) → P < I.processors → Holds (busy I ps P t)
  unfolding some_idle
  none_idle_in t h P p = go (either (busy I ps P t))
    where
      go : Holds (busy I ps P t) ⊎ Holds (not (busy I ps P t)) → Holds (busy I ps P t)
      go (inl b) = b
      go (inr b) =
          absurd (not_both (some_idle I ps t) h (any_of (λ Q. not (busy I ps Q t)) (upto I.processors) P (upto_in I.processors P p) b))

  -- what `latest_idle_tick` gives
  pub data LatestIdleTick (s : ℕ) : Option ℕ → Type 0 where
    no_tick : ((t : ℕ) → t < s → Holds (not (some_idle I ps t))) → LatestIdleTick s none
    at : (t : ℕ) → t < s → Holds (some_idle I ps t) → ((r : ℕ) → t < r → r < s → Holds (not (some_idle I ps r))) → LatestIdleTick s (some t)

  pub latest_idle_tick_lem : (s : ℕ) → LatestIdleTick s (latest_idle_tick I ps s)
  unfolding latest_idle_tick
  latest_idle_tick_lem zero = no_tick (λ t h. absurd (omega arith))
  latest_idle_tick_lem (suc s) = go (some_idle I ps s) refl (latest_idle_tick I ps s) (latest_idle_tick_lem s)
    where
      -- tick s is not short, nor is t where that is before s
      up : (t : ℕ) → some_idle I ps s ≡ false → (t < s → Holds (not (some_idle I ps t))) → (suc t ≤ s) ⊎ (s < suc t) → t < suc s
          → Holds (not (some_idle I ps t))
      up t e r (inl k) h = r k
      up t e r (inr k) h = let d : t ≡ s = omega arith in rw (d, e) tt

      go : (b : Bool) → some_idle I ps s ≡ b → (o : Option ℕ) → LatestIdleTick s o → LatestIdleTick (suc s) (pick b (some s) o)
      go true e o L = at s (omega arith) (subst Holds (sym e) tt) (λ r a b. absurd (omega arith))
      go false e o (no_tick z) = no_tick (λ t h. up t e (z t) (le_or_lt (suc t) s) h)
      go false e o (at t a b z) = at t (omega arith) b (λ r c d. up r e (z r c) (le_or_lt (suc r) s) d)

  -- ---- idle ticks

  -- the idle ticks of all processors before tick x
  abbrev pub idle_before : ℕ → ℕ
  idle_before x = sum x (idlers I ps)

  -- at most all processors are idle in a tick
  pub idlers_most : (t : ℕ) → idlers I ps t ≤ I.processors
  idlers_most t =
      omega (
        arith,
        idlers_sum I ps t,
        sum_each I.processors 1,
        sum_le I.processors (λ P. one_if (not (busy I ps P t))) (λ P. 1) (λ P h. one_if_most (not (busy I ps P t))),
      )

  -- while a placed task runs, not all are
  pub idlers_less : (u : Placement) → u ∈ ps → u.processor < I.processors → (t : ℕ) → u.start ≤ t → t < finish I u
      → idlers I ps t < I.processors
  idlers_less u h p t a b =
      omega (
        arith,
        idlers_sum I ps t,
        sum_each I.processors 1,
        sum_less I.processors u.processor (λ P. one_if (not (busy I ps P t))) (λ P. 1) (λ P k. one_if_most (not (busy I ps P t))) p
            (omega (
              arith,
              one_if_no (not (busy I ps u.processor t))
                  (not-not (busy I ps u.processor t) (busy_in I ps u.processor t u h refl a b)),
            )),
      )

  -- in a tick that is not short none is
  idlers_none : (t : ℕ) → Holds (not (some_idle I ps t)) → idlers I ps t ≤ 0
  idlers_none t h =
      omega (
        arith,
        idlers_sum I ps t,
        sum_each I.processors 0,
        sum_same I.processors (λ P. one_if (not (busy I ps P t))) (λ P. 0)
            (λ P p. one_if_no (not (busy I ps P t)) (not-not (busy I ps P t) (none_idle_in t h P p))),
      )

  -- so idle ticks before s are idle ticks before the end of the latest short tick
  pub idle_until : (s t : ℕ) → latest_idle_tick I ps s ≡ some t → idle_before s ≤ idle_before (suc t)
  idle_until s t e = go (rw e at (latest_idle_tick_lem s))
    where
      go : LatestIdleTick s (some t) → idle_before s ≤ idle_before (suc t)
      go (at t h b z) =
          let k : suc t + (s - suc t) ≡ s = omega arith in
          omega (
            arith,
            ap idle_before k,
            sum_stretch (idlers I ps) (suc t) (s - suc t) 0 (λ r a b. idlers_none r (z r (omega arith) (omega arith))),
          )

  -- and there are none where no tick before s is short
  pub none_idle : (s : ℕ) → latest_idle_tick I ps s ≡ none → idle_before s ≤ 0
  none_idle s e = go (rw e at (latest_idle_tick_lem s))
    where
      go : LatestIdleTick s none → idle_before s ≤ 0
      go (no_tick z) = omega (arith, sum_each s 0, sum_le s (idlers I ps) (λ t. 0) (λ t h. idlers_none t (z t h)))
