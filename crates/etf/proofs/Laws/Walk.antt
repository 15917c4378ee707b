-- Any walk over the planner's schedule: the idle ticks before a task's finish against its finish in an ideal schedule and the walk's sum.
-- A chain of edges bounds the sum.
use Rattle.std.specs.Prelude.{◌≡◌, List}
use Rattle.std.proofs.Common.{ap}
use Prim.Native.Nat.{ℕ, zero, suc, ◌+◌, ◌*◌, ◌≤◌, ◌<◌}
use native.Mathlib.Omega.{arith}
use Rattle.std.proofs.Math.Nat.{mul-le-mul_left}
use Rattle.base.specs.Lists.{◌∈◌, upto, greatest}
use Rattle.base.specs.Laws.Lists.{greatest_ge, upto_in}
use Rattle.base.specs.Laws.Sums.{sum_stretch, sum_grows}
use Rattle.job.specs.Job.{Edge}
use Rattle.etf.specs.Instance.{Instance, WellFormed, tasks, duration, into, message_time}
use Rattle.etf.specs.Schedule.{Placement, placement_of, finish, message_time_to, reach}
use Rattle.etf.specs.Rule.{planned}
use Rattle.etf.specs.Cover.{Walk, stops, goes}
use Rattle.etf.specs.Dearest.{greatest_cost, dearest_to, dearest}
use Rattle.etf.specs.Ideal.{Ideal}
use Rattle.etf.proofs.Laws.Placements.{into_of}
use Rattle.etf.proofs.Laws.Ticks.{idlers}
use Rattle.etf.proofs.Laws.Idle.{idle_of, idle_before, idlers_most, idlers_less, idle_until, none_idle}
use Rattle.etf.proofs.Laws.Planned.{home, on_processor}

module _ (I : Instance) (W : WellFormed I) where
  -- the planner's schedule
  abbrev ps : List Placement
  ps = planned I

  -- a predecessor
  pub source : (T : ℕ) (e : Edge) → e ∈ into I T → (e.from < T) × (e.from < tasks I)
  source T e h = let i = into_of I T e h in omega (arith, W.goes_up e i.0, i.1)

  -- ---- any walk

  -- while T itself runs, at most the others are idle
  own : (q : ℕ) → I.processors ≡ suc q → (T : ℕ) → T < tasks I
      → idle_before I ps (finish I (placement_of ps T)) ≤ idle_before I ps (placement_of ps T).start + q * duration I T
  own q e T b =
      let h = home I W T b in
      omega (
        arith,
        ap (λ x. q * duration I x) h.1,
        sum_stretch (idlers I ps) (placement_of ps T).start (duration I (placement_of ps T).task) q
            (λ t x y. omega (arith, e, idlers_less I ps (placement_of ps T) h.0 (on_processor I W T b) t x y)),
      )

  -- the idle ticks before a task's start, by a walk from it
  pub walk_bound : (R : Ideal I) (q : ℕ) → I.processors ≡ suc q → (T C : ℕ) → T < tasks I → Walk I ps T C
      → idle_before I ps (finish I (placement_of ps T)) ≤ q * (R.start T + duration I T) + I.processors * C
  walk_bound R q e T C h (stops _ z) = omega (arith, own q e T h, none_idle I ps (placement_of ps T).start z)
  walk_bound R q e T C h (goes _ b D s w) =
      let l = b.edge in
      let f = source T l s.is_into in
      let i = into_of I T l s.is_into in
      omega (
        arith,
        own q e T h,
        idle_until I ps (placement_of ps T).start s.tick s.is_latest,
        sum_grows (idlers I ps) (suc s.tick) (reach I ps b.through l) s.reaches_after,
        sum_stretch (idlers I ps) (finish I (placement_of ps l.from)) (message_time_to I ps b.through l) I.processors
            (λ t x y. idlers_most I ps t),
        walk_bound R q e l.from D f.1 w,
        mul-le-mul_left q (R.in_turn l i.0),
        ap (λ x. q * R.start x) i.1,
      )

  message_most : (P : ℕ) (l : Edge) → P < I.processors → l.from < tasks I → message_time_to I ps P l ≤ l.count * greatest_cost I
  unfolding message_time_to message_time greatest_cost
  message_most P l p b =
      let Q = (placement_of ps l.from).processor in
      mul-le-mul_left l.count
      (omega (
        arith,
        greatest_ge (λ q. I.cost Q q) (upto I.processors) P (upto_in I.processors P p),
        greatest_ge (λ x. greatest (λ q. I.cost x q) (upto I.processors)) (upto I.processors) Q
            (upto_in I.processors Q (on_processor I W l.from b)),
      ))

  walk_chain : (k T C : ℕ) → T < k → T < tasks I → Walk I ps T C → C ≤ dearest_to I k T
  unfolding dearest_to
  walk_chain zero T C h c w = absurd (omega arith)
  walk_chain (suc k) T C h c (stops _ z) = omega arith
  walk_chain (suc k) T C h c (goes _ b D s w) =
      let l = b.edge in
      let f = source T l s.is_into in
      omega (
        arith,
        message_most b.through l (idle_of I ps s.tick b.through s.is_idle).0 f.1,
        walk_chain k l.from D (omega arith) f.1 w,
        greatest_ge (λ e. e.count * greatest_cost I + dearest_to I k e.from) (into I T) l s.is_into,
      )

  pub walk_dearest : (T C : ℕ) → T < tasks I → Walk I ps T C → C ≤ dearest I
  unfolding dearest
  walk_dearest T C b w =
      omega (arith, walk_chain (tasks I) T C b b w, greatest_ge (dearest_to I (tasks I)) (upto (tasks I)) T (upto_in (tasks I) T b))
