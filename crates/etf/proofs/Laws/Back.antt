-- The walk of document 01 is a walk: where it goes back, it may, and it stops only where no tick before the start is short.
-- For a processor idle before a task's start, some predecessor's messages reach it later.
use Rattle.std.proofs.Math.Path.{◌≡◌, refl}
use Rattle.std.proofs.Common.{ap, inl, inr, arith, lt→ltb}
use Rattle.std.specs.Prelude.{◌⊎◌, not, List, ltb, T as Holds}
use Rattle.std.proofs.Math.Option.{Option, none, some, bind}
use Prim.Native.Nat.{ℕ, zero, suc, ◌+◌, ◌≤◌, ◌<◌}
use Rattle.base.specs.Lists.{◌∈◌, best}
use Rattle.base.specs.Laws.Tests.{not_both, or_left, le_or_lt}
use Rattle.base.specs.Laws.Lists.{Order, Best, nothing, found, best_is, by_least, by_greatest_then_least}
use Rattle.job.specs.Job.{Edge}
use Rattle.etf.specs.Instance.{Instance, WellFormed, tasks, into}
use Rattle.etf.specs.Schedule.{Placement, placement_of, message_time_to, reach, arrival}
use Rattle.etf.specs.Rule.{planned}
use Rattle.etf.specs.Cover.{Back, busy, idle, some_idle, latest_idle_tick, MayGoBack, Walk, stops, goes}
use Rattle.etf.specs.Cover.{lowest_idle, later, latest_into, back, walk}
use Rattle.etf.proofs.Laws.Placements.{arrival_at}
use Rattle.etf.proofs.Laws.Idle.{idle_of, idle_in, LatestIdleTick, no_tick, at, latest_idle_tick_lem}
use Rattle.etf.proofs.Laws.Walk.{source}
use Rattle.etf.proofs.Laws.Planned.{sound_plan, home}

module _ (I : Instance) (W : WellFormed I) where
  -- the planner's schedule
  abbrev ps : List Placement
  ps = planned I

  -- a processor idle before a task's start: the task has a predecessor whose messages reach it later
  held_up : (T P t : ℕ) → T < tasks I → P < I.processors → Holds (not (busy I ps P t)) → t < (placement_of ps T).start
      → t < arrival I ps T P
  held_up T P t b p i ts = go (le_or_lt (arrival I ps T P) t)
    where
      go : (arrival I ps T P ≤ t) ⊎ (t < arrival I ps T P) → t < arrival I ps T P
      go (inl k) =
          let s = home I W T b in
          absurd (not_both (busy I ps P t) i
          ((sound_plan I W).full (placement_of ps T) s.0 P t p (omega (arith, ap (λ x. arrival I ps x P) s.1)) ts))
      go (inr k) = k

  later_order : (P : ℕ) → Order (later I ps P)
  unfolding later
  later_order P = by_greatest_then_least (reach I ps P) (λ e. e.from)

  -- what is not later does not reach P later
  reach_most : (P : ℕ) (d e : Edge) → Holds (not (later I ps P d e)) → reach I ps P d ≤ reach I ps P e
  unfolding later
  reach_most P d e h = go (le_or_lt (reach I ps P d) (reach I ps P e))
    where
      go : (reach I ps P d ≤ reach I ps P e) ⊎ (reach I ps P e < reach I ps P d) → reach I ps P d ≤ reach I ps P e
      go (inl k) = k
      go (inr k) =
          absurd (not_both (later I ps P d e) h
          (or_left (ltb (reach I ps P e) (reach I ps P d)) _ (lt→ltb (reach I ps P e) (reach I ps P d) k)))

  -- how the walk goes on from task T
  pub data BackIs (T : ℕ) : Option Back → Type 0 where
    nowhere : latest_idle_tick I ps (placement_of ps T).start ≡ none → BackIs T none
    along : (b : Back) → MayGoBack I ps T b → BackIs T (some b)

  pub back_is : (T : ℕ) → T < tasks I → BackIs T (back I ps T)
  unfolding back lowest_idle latest_into bind
  back_is T b = tick (latest_idle_tick I ps (placement_of ps T).start) refl (latest_idle_tick_lem I ps (placement_of ps T).start)
    where
      edge_of : (t P : ℕ) → latest_idle_tick I ps (placement_of ps T).start ≡ some t → t < (placement_of ps T).start → P ∈ idle I ps t
          → (o : Option Edge) → Best (later I ps P) (into I T) o → BackIs T (bind o (λ e. some (record { edge = e; through = P })))
      edge_of t P e ts i o L = last o L
        where
          late : (l : Edge) × (l ∈ into I T) × (t < reach I ps P l)
          late = let p = idle_of I ps t P i in arrival_at I ps T P t (held_up T P t b p.0 p.1 ts)

          last : (o : Option Edge) → Best (later I ps P) (into I T) o → BackIs T (bind o (λ d. some (record { edge = d; through = P })))
          last o (nothing z) = absurd (z late.0 late.1)
          last o (found d h low) =
              along (record { edge = d; through = P })
              (record {
                tick = t;
                is_latest = e;
                is_idle = i;
                is_into = h;
                reaches_after = omega (arith, late.2, reach_most P late.0 d (low late.0 late.1));
              })

      idler : (t : ℕ) → latest_idle_tick I ps (placement_of ps T).start ≡ some t → t < (placement_of ps T).start → Holds (some_idle I ps t)
          → (o : Option ℕ) → Best ltb (idle I ps t) o
          → BackIs T (bind o (λ P. bind (best (later I ps P) (into I T)) (λ e. some (record { edge = e; through = P }))))
      idler t e ts sh o (nothing z) = let q = idle_in I ps t sh in absurd (z q.0 q.1)
      idler t e ts sh o (found P i low) =
          edge_of t P e ts i (best (later I ps P) (into I T)) (best_is (later I ps P) (later_order P) (into I T))

      tick : (o : Option ℕ) → latest_idle_tick I ps (placement_of ps T).start ≡ o → LatestIdleTick I ps (placement_of ps T).start o
          → BackIs T (bind o (λ t. bind (best ltb (idle I ps t))
          (λ P. bind (best (later I ps P) (into I T)) (λ e. some (record { edge = e; through = P })))))
      tick o e (no_tick z) = nowhere e
      tick o e (at t ts sh z) = idler t e ts sh (best ltb (idle I ps t)) (best_is ltb (by_least (λ x. x)) (idle I ps t))

  -- it stops only where no tick before the start is short
  pub stopped : (T : ℕ) → T < tasks I → back I ps T ≡ none → latest_idle_tick I ps (placement_of ps T).start ≡ none
  stopped T b e = go (rw e at (back_is T b))
    where
      go : BackIs T none → latest_idle_tick I ps (placement_of ps T).start ≡ none
      go (nowhere z) = z

  -- the walk of document 01, with moves enough, is a walk
  pub walk_is : (k T : ℕ) → T < k → T < tasks I → Walk I ps T (walk I ps k T)
  unfolding walk
  walk_is zero T h b = absurd (omega arith)
  walk_is (suc k) T h b = go (back I ps T) (back_is T b) (λ x y z. walk_is k x y z)
    where
      go : (o : Option Back) → BackIs T o → ((x : ℕ) → x < k → x < tasks I → Walk I ps x (walk I ps k x))
          → Walk I ps T (elim o [ none ↦ 0 | some v ↦ message_time_to I ps v.through v.edge + walk I ps k v.edge.from ])
      go o (nowhere z) r = stops T z
      go o (along v s) r =
          let f = source I W T v.edge s.is_into in
          goes T v (walk I ps k v.edge.from) s (r v.edge.from (omega arith) f.1)

  -- and any number of moves above T gives the same
  pub walk_enough : (k j T : ℕ) → T < k → T < j → T < tasks I → walk I ps k T ≡ walk I ps j T
  unfolding walk
  walk_enough zero j T h i b = absurd (omega arith)
  walk_enough (suc k) zero T h i b = absurd (omega arith)
  walk_enough (suc k) (suc j) T h i b = go (back I ps T) (back_is T b) (λ x y z w. walk_enough k j x y z w)
    where
      go : (o : Option Back) → BackIs T o → ((x : ℕ) → x < k → x < j → x < tasks I → walk I ps k x ≡ walk I ps j x)
          → ◌≡◌ {A = ℕ} (elim o [ none ↦ 0 | some v ↦ message_time_to I ps v.through v.edge + walk I ps k v.edge.from ])
          (elim o [ none ↦ 0 | some v ↦ message_time_to I ps v.through v.edge + walk I ps j v.edge.from ])
      go o (nowhere z) r = refl
      go o (along v s) r =
          let f = source I W T v.edge s.is_into in
          omega (arith, r v.edge.from (omega arith) (omega arith) f.1)
