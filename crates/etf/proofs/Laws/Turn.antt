-- What a round does: a view of the ways in which it goes, in terms of ready tasks, free processors and finishes ahead.
use Rattle.std.specs.Prelude.{◌≡◌, ◌⊎◌, Bool, not, ◌||◌, ℕ, ◌≤◌, ◌<◌, max, eqb}
use Rattle.std.proofs.Math.Path.{refl, sym, ap, subst}
use Rattle.std.proofs.Common.{inl, inr, le→leb, ltb→lt, lt→ltb}
use Rattle.std.proofs.Math.Bool.{true, false}
use Rattle.std.proofs.Math.Option.{Option, none, some}
use mathlib.Core.List.{List, ◌∷◌, map}
use native.Mathlib.Omega.{arith}
use Rattle.std.proofs.Math.Dec.{leb, ltb, leb→le, nleb→lt, nltb→le, eqb→eq, T as Holds}
use Rattle.base.specs.Choice.{pick}
use Rattle.base.specs.Lists.{◌∈◌, upto, all, filter, best}
use Rattle.base.specs.Laws.Tests.{both, first, second, or_cases, neqb→ne}
use Rattle.base.specs.Laws.Lists.{all_of, all_at, all_not, filter_in, filter_of, upto_in, upto_of, Best, nothing, found, best_is, by_least}
use Rattle.base.specs.Laws.Lists.{flat_map_in, flat_map_of, map_in, map_of}
use Rattle.job.specs.Job.{Edge}
use Rattle.etf.specs.Instance.{Instance, WellFormed, tasks, into}
use Rattle.etf.specs.Schedule.{Placement, placed, placement_of, finish, arrival}
use Rattle.etf.specs.Rule.{State, at_most, move, settle, next_moment, free, finished, ready, pair, pairs, choice, complete, round}

-- one pair starts sooner than another
abbrev sooner : Placement → Placement → Bool
sooner u v = ltb u.start v.start

module _ (I : Instance) where
  -- ---- free processors and ready tasks

  pub free_of : (cm : ℕ) (ps : List Placement) (P : ℕ) → Holds (free I cm ps P)
      → (u : Placement) → u ∈ ps → u.processor ≡ P → finish I u ≤ cm
  unfolding free
  free_of cm ps P h u k e = go (or_cases (not (eqb u.processor P)) (leb (finish I u) cm) (all_at _ ps h u k))
    where
      go : Holds (not (eqb u.processor P)) ⊎ Holds (leb (finish I u) cm) → finish I u ≤ cm
      go (inl q) = absurd (neqb→ne u.processor P q e)
      go (inr q) = leb→le (finish I u) cm q

  pub taken_by : (cm : ℕ) (ps : List Placement) (P : ℕ) → Holds (not (free I cm ps P))
      → (u : Placement) × (u ∈ ps) × (u.processor ≡ P) × (cm < finish I u)
  unfolding free
  taken_by cm ps P h = go (all_not _ ps h)
    where
      one : (u : Placement) → Holds (not (not (eqb u.processor P) || leb (finish I u) cm)) → (u.processor ≡ P) × (cm < finish I u)
      one u q = (
        eqb→eq u.processor P (out (eqb u.processor P) (leb (finish I u) cm) q).0,
        nleb→lt (finish I u) cm (out (eqb u.processor P) (leb (finish I u) cm) q).1,
      )
        where
          out : (a b : Bool) → Holds (not (not a || b)) → Holds a × Holds (not b)
          out true true k = absurd k
          out true false k = (tt, tt)
          out false b k = absurd k

      go : (u : Placement) × (u ∈ ps) × Holds (not (not (eqb u.processor P) || leb (finish I u) cm))
          → (u : Placement) × (u ∈ ps) × (u.processor ≡ P) × (cm < finish I u)
      go z = let r = one z.0 z.2 in (z.0, z.1, r.0, r.1)

  -- what a ready task is
  pub record Ready (cm : ℕ) (ps : List Placement) (T : ℕ) : Type 0 where
    pub below : T < tasks I
    pub fresh : Holds (not (placed ps T))
    pub waits : (l : Edge) → l ∈ into I T → Holds (placed ps l.from) × (finish I (placement_of ps l.from) ≤ cm)

  pub ready_of : (cm : ℕ) (ps : List Placement) (T : ℕ) → T < tasks I → Holds (ready I cm ps T) → Ready cm ps T
  unfolding ready finished
  ready_of cm ps T below h =
      let c = second (not (placed ps T)) (all (finished I cm ps) (into I T)) h in
      record {
        below = below;
        fresh = first (not (placed ps T)) (all (finished I cm ps) (into I T)) h;
        waits = λ l k.
            let d = all_at (finished I cm ps) (into I T) c l k in (
              first (placed ps l.from) (leb (finish I (placement_of ps l.from)) cm) d,
              leb→le (finish I (placement_of ps l.from)) cm
                  (second (placed ps l.from) (leb (finish I (placement_of ps l.from)) cm) d),
            );
      }

  pub ready_in : (cm : ℕ) (ps : List Placement) (T : ℕ) → Ready cm ps T → Holds (ready I cm ps T)
  unfolding ready finished
  ready_in cm ps T r =
      both (not (placed ps T)) (all (finished I cm ps) (into I T)) r.fresh
      (all_of (finished I cm ps) (into I T)
      (λ l k. both (placed ps l.from) (leb (finish I (placement_of ps l.from)) cm) (r.waits l k).0
      (le→leb (finish I (placement_of ps l.from)) cm (r.waits l k).1)))

  -- ---- a round

  -- what is known when the round places u
  pub record NewPlacement (cm : ℕ) (ps : List Placement) (u : Placement) : Type 0 where
    pub task_ready : Ready cm ps u.task
    pub processor_below : u.processor < I.processors
    pub processor_free : Holds (free I cm ps u.processor)
    pub when : u.start ≡ max cm (arrival I ps u.task u.processor)
    pub least : (T P : ℕ) → Ready cm ps T → P < I.processors → Holds (free I cm ps P) → u.start ≤ max cm (arrival I ps T P)
    pub in_time : (v : Placement) → v ∈ ps → cm < finish I v → u.start ≤ finish I v

  -- what is known when the round moves the clock to x
  pub record Tick (cm : ℕ) (ps : List Placement) (x : ℕ) : Type 0 where
    pub whose : (v : Placement) × (v ∈ ps) × (finish I v ≡ x)
    pub moment : next_moment I cm ps ≡ some x
    pub ahead : cm < x
    pub least : (v : Placement) → v ∈ ps → cm < finish I v → x ≤ finish I v
    pub too_late : (T P : ℕ) → Ready cm ps T → P < I.processors → Holds (free I cm ps P) → x < max cm (arrival I ps T P)

  -- the ways in which a round goes
  pub data Turn (cm : ℕ) (ps : List Placement) : State → Type 0 where
    rest : Holds (complete I ps) → Turn cm ps (record { clock = cm; placements = ps })
    put : (u : Placement) → NewPlacement cm ps u → Turn cm ps (record { clock = cm; placements = u ∷ ps })
    tick : (x : ℕ) → Tick cm ps x → Turn cm ps (record { clock = x; placements = ps })
    stuck : ((v : Placement) → v ∈ ps → cm < finish I v → ⊥)
        → ((T P : ℕ) → Ready cm ps T → P < I.processors → Holds (free I cm ps P) → ⊥)
        → Turn cm ps (record { clock = cm; placements = ps })

  -- NM, read: none of the placed finishes after cm, or the least finish after cm
  pub data Next (cm : ℕ) (ps : List Placement) : Option ℕ → Type 0 where
    endless : ((v : Placement) → v ∈ ps → cm < finish I v → ⊥) → Next cm ps none
    at : (x : ℕ) → (v : Placement) × (v ∈ ps) × (finish I v ≡ x) → cm < x
        → ((v : Placement) → v ∈ ps → cm < finish I v → x ≤ finish I v) → Next cm ps (some x)

  later_in : (cm : ℕ) (ps : List Placement) (v : Placement) → v ∈ ps → cm < finish I v → finish I v ∈ filter (ltb cm) (map (finish I) ps)
  later_in cm ps v h k = filter_in (ltb cm) (map (finish I) ps) (finish I v) (map_in (finish I) ps v h) (lt→ltb cm (finish I v) k)

  pub next_is : (cm : ℕ) (ps : List Placement) → Next cm ps (next_moment I cm ps)
  unfolding next_moment
  next_is cm ps =
      go (best ltb (filter (ltb cm) (map (finish I) ps))) (best_is ltb (by_least (λ x. x)) (filter (ltb cm) (map (finish I) ps)))
    where
      go : (o : Option ℕ) → Best ltb (filter (ltb cm) (map (finish I) ps)) o → Next cm ps o
      go o (nothing z) = endless (λ v h k. z (finish I v) (later_in cm ps v h k))
      go o (found b h le) =
          let f = filter_of (ltb cm) (map (finish I) ps) b h in
          let w = map_of (finish I) ps b f.0 in
          at b (w.0, w.1, sym w.2) (ltb→lt cm b f.1) (λ v k q. nltb→le (finish I v) b (le (finish I v) (later_in cm ps v k q)))

  module _ (W : WellFormed I) where
    pair_in : (cm : ℕ) (ps : List Placement) (T P : ℕ) → Ready cm ps T → P < I.processors → Holds (free I cm ps P)
        → pair I cm ps T P ∈ pairs I cm ps
    unfolding pairs
    pair_in cm ps T P r b f =
        flat_map_in (λ S. map (pair I cm ps S) (filter (free I cm ps) (upto I.processors))) (filter (ready I cm ps) I.order) T
        (pair I cm ps T P)
        (filter_in (ready I cm ps) I.order T (W.has_all T r.below) (ready_in cm ps T r))
        (map_in (pair I cm ps T) (filter (free I cm ps) (upto I.processors)) P
        (filter_in (free I cm ps) (upto I.processors) P (upto_in I.processors P b) f))

    pair_of : (cm : ℕ) (ps : List Placement) (u : Placement) → u ∈ pairs I cm ps
        → (T : ℕ) × (P : ℕ) × Ready cm ps T × (P < I.processors) × Holds (free I cm ps P) × (u ≡ pair I cm ps T P)
    unfolding pairs
    pair_of cm ps u h =
        let g =
        flat_map_of (λ S. map (pair I cm ps S) (filter (free I cm ps) (upto I.processors))) (filter (ready I cm ps) I.order) u h in
        let r = filter_of (ready I cm ps) I.order g.0 g.1 in
        let p = map_of (pair I cm ps g.0) (filter (free I cm ps) (upto I.processors)) u g.2 in
        let f = filter_of (free I cm ps) (upto I.processors) p.0 p.1 in
        (g.0, p.0, ready_of cm ps g.0 (W.has_only g.0 r.0) r.1, upto_of I.processors p.0 f.0, f.1, p.2)

    -- the chosen pair, if its start is at most NM, makes a placing
    put_of : (cm : ℕ) (ps : List Placement) (u : Placement) → u ∈ pairs I cm ps
        → ((v : Placement) → v ∈ pairs I cm ps → u.start ≤ v.start)
        → ((v : Placement) → v ∈ ps → cm < finish I v → u.start ≤ finish I v) → NewPlacement cm ps u
    unfolding pair
    put_of cm ps u h le k =
        let z = pair_of cm ps u h in
        subst (NewPlacement cm ps) (sym z.5) record {
          task_ready = z.2;
          processor_below = z.3;
          processor_free = z.4;
          when = refl;
          least = λ T P r b f. omega (arith, ap (λ (p : Placement). p.start) z.5, le (pair I cm ps T P) (pair_in cm ps T P r b f));
          in_time = λ v q a. omega (arith, ap (λ (p : Placement). p.start) z.5, k v q a);
        }

    -- how a round goes
    pub turn : (cm : ℕ) (ps : List Placement) → Turn cm ps (round I (record { clock = cm; placements = ps }))
    unfolding round settle move at_most choice pair
    turn cm ps =
        go (complete I ps) refl (next_moment I cm ps) refl (next_is cm ps) (choice I cm ps)
        (best_is sooner (by_least (λ u. u.start)) (pairs I cm ps))
      where
        placing : (nm : Option ℕ) → next_moment I cm ps ≡ nm → Next cm ps nm
            → (u : Placement) → u ∈ pairs I cm ps → ((v : Placement) → v ∈ pairs I cm ps → u.start ≤ v.start)
            → (b : Bool) → at_most u.start nm ≡ b
            → Turn cm ps (pick b (record { clock = cm; placements = u ∷ ps }) (move (record { clock = cm; placements = ps }) nm))
        placing nm i (endless z) u h le true e = put u (put_of cm ps u h le (λ v q a. absurd (z v q a)))
        placing nm i (endless z) u h le false e = absurd (subst Holds e tt)
        placing nm i (at x w a l) u h le true e =
            put u (put_of cm ps u h le (λ v q k. omega (arith, l v q k, leb→le u.start x (subst Holds (sym e) tt))))
        placing nm i (at x w a l) u h le false e =
            tick x record {
              whose = w;
              moment = i;
              ahead = a;
              least = l;
              too_late = λ T P r b f.
                  omega (
                    arith,
                    nleb→lt u.start x (subst (λ c. Holds (not c)) (sym e) tt),
                    le (pair I cm ps T P) (pair_in cm ps T P r b f),
                  );
            }

        go : (b : Bool) → complete I ps ≡ b → (nm : Option ℕ) → next_moment I cm ps ≡ nm → Next cm ps nm
            → (o : Option Placement) → Best sooner (pairs I cm ps) o
            → Turn cm ps (pick b (record { clock = cm; placements = ps }) (settle (record { clock = cm; placements = ps }) nm o))
        go true e nm i N o L = rest (subst Holds (sym e) tt)
        go false e nm i (endless y) o (nothing z) = stuck y (λ T P r b f. z (pair I cm ps T P) (pair_in cm ps T P r b f))
        go false e nm i (at x w a l) o (nothing z) =
            tick x record {
              whose = w;
              moment = i;
              ahead = a;
              least = l;
              too_late = λ T P r b f. absurd (z (pair I cm ps T P) (pair_in cm ps T P r b f));
            }
        go false e nm i N o (found u h le) = placing nm i N u h (λ v k. nltb→le v.start u.start (le v k)) (at_most u.start nm) refl
