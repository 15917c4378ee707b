-- The list of moves has just the moves that `MayGoBack` allows. In the planner's schedule it is empty only where no tick before the start
-- is short.
use Rattle.std.specs.Prelude.{◌≡◌, ℕ, ◌<◌}
use Rattle.std.proofs.Math.Path.{refl, ap, subst}
use Rattle.std.proofs.Common.{sym, lt→ltb}
use Rattle.std.proofs.Math.Option.{Option, none, some}
use mathlib.Core.List.{List, [], map, flat_map}
use Rattle.std.proofs.Math.Dec.{ltb, eqb, ltb→lt, eqb→eq}
use Rattle.job.specs.Job.{Edge}
use Rattle.base.specs.Lists.{◌∈◌, upto}
use Rattle.etf.specs.Instance.{Instance, WellFormed, tasks, into}
use Rattle.etf.specs.Schedule.{Placement, placement_of, finish, reach, last_finish}
use Rattle.etf.specs.Rule.{planned}
use Rattle.etf.specs.Cover.{Back, idle, latest_idle_tick, MayGoBack, FinishesLast, back}
use Rattle.base.specs.Laws.Tests.{eq→eqb}
use Rattle.base.specs.Laws.Lists.{in_nothing, filter_in, filter_of, flat_map_in, flat_map_of, map_in, map_of, upto_in, upto_of}
use Rattle.etf.proofs.Laws.Back.{BackIs, nowhere, along, back_is}
use Rattle.etf.specs.Least.{serving, moves, last_tasks}

module _ (I : Instance) (ps : List Placement) where
  -- one move
  abbrev move : Edge → ℕ → Back
  move e P = record { edge = e; through = P }

  -- the moves at task T, where `o` is the latest short tick
  abbrev at_tick : ℕ → Option ℕ → List Back
  at_tick T o = elim o [ none ↦ [] | some t ↦ flat_map (λ e. map (move e) (serving I ps t e)) (into I T) ]

  pub moves_in : (T : ℕ) (b : Back) → MayGoBack I ps T b → b ∈ moves I ps T
  unfolding moves serving
  moves_in T b s =
      subst (λ o. b ∈ at_tick T o) (sym s.is_latest)
      (flat_map_in (λ e. map (move e) (serving I ps s.tick e)) (into I T) b.edge b s.is_into
      (map_in (move b.edge) (serving I ps s.tick b.edge) b.through
      (filter_in (λ P. ltb s.tick (reach I ps P b.edge)) (idle I ps s.tick) b.through s.is_idle
      (lt→ltb s.tick (reach I ps b.through b.edge) s.reaches_after))))

  pub moves_of : (T : ℕ) (b : Back) → b ∈ moves I ps T → MayGoBack I ps T b
  unfolding moves serving
  moves_of T b h = go (latest_idle_tick I ps (placement_of ps T).start) refl h
    where
      go : (o : Option ℕ) → latest_idle_tick I ps (placement_of ps T).start ≡ o → b ∈ at_tick T o → MayGoBack I ps T b
      go none e k = absurd (in_nothing k)
      go (some t) e k =
          let x = flat_map_of (λ d. map (move d) (serving I ps t d)) (into I T) b k in
          let y = map_of (move x.0) (serving I ps t x.0) b x.2 in
          let z = filter_of (λ P. ltb t (reach I ps P x.0)) (idle I ps t) y.0 y.1 in
          subst (MayGoBack I ps T) (sym y.2)
          (record { tick = t; is_latest = e; is_idle = z.0; is_into = x.1; reaches_after = ltb→lt t (reach I ps y.0 x.0) z.1 })

  -- no move where no tick is short
  pub moves_none : (T : ℕ) → latest_idle_tick I ps (placement_of ps T).start ≡ none → moves I ps T ≡ []
  unfolding moves
  moves_none T e = ap (at_tick T) e

  -- the tasks that finish last
  pub last_in : (T : ℕ) → FinishesLast I ps T → T ∈ last_tasks I ps
  unfolding last_tasks
  last_in T f =
      filter_in (λ S. eqb (finish I (placement_of ps S)) (last_finish I ps)) (upto (tasks I)) T (upto_in (tasks I) T f.below)
      (eq→eqb (finish I (placement_of ps T)) (last_finish I ps) f.at_last)

  pub last_of : (T : ℕ) → T ∈ last_tasks I ps → FinishesLast I ps T
  unfolding last_tasks
  last_of T h =
      let z = filter_of (λ S. eqb (finish I (placement_of ps S)) (last_finish I ps)) (upto (tasks I)) T h in
      record { below = upto_of (tasks I) T z.0; at_last = eqb→eq (finish I (placement_of ps T)) (last_finish I ps) z.1 }

-- some move serves where a tick before the start is short: document 01's own
pub stops_only : (I : Instance) → WellFormed I → (T : ℕ) → T < tasks I → moves I (planned I) T ≡ []
    → latest_idle_tick I (planned I) (placement_of (planned I) T).start ≡ none
stops_only I W T b z = go (back I (planned I) T) (back_is I W T b)
  where
    go : (o : Option Back) → BackIs I W T o → latest_idle_tick I (planned I) (placement_of (planned I) T).start ≡ none
    go o (nowhere e) = e
    go o (along v s) = absurd (in_nothing (subst (λ l. v ∈ l) z (moves_in I (planned I) T v s)))
