-- What holds of the clock and the placements after each round: no task twice, no overlap, messages in time.
-- And, what the bound rests on: a processor is busy from a task's arrival there up to the task's start.
use Rattle.std.specs.Prelude.{◌≡◌, ◌⊎◌, not, ◌||◌, List, [], ◌∷◌, eqb, T as Holds}
use Rattle.std.proofs.Common.{ap, subst, inl, inr, arith, eqb→eq}
use Prim.Native.Nat.{ℕ, zero, suc, ◌≤◌, ◌<◌, max}
use Rattle.std.proofs.Math.Dec.{leb}
use Rattle.base.specs.Lists.{◌∈◌, all}
use Rattle.base.specs.Laws.Tests.{either, not_both, fails, second, neqb→ne, le_or_lt}
use Rattle.base.specs.Laws.Lists.{for_cons, in_nothing}
use Rattle.job.specs.Job.{Edge}
use Rattle.etf.specs.Instance.{Instance, WellFormed, tasks, into}
use Rattle.etf.specs.Schedule.{Placement, placed, placement_of, finish, arrival}
use Rattle.etf.specs.Rule.{State, free, round, run}
use Rattle.etf.specs.Cover.{busy}
use Rattle.etf.proofs.Laws.Placements.{placement_head, placement_tail, placed_more, placed_less, placement_of_lem}
use Rattle.etf.proofs.Laws.Placements.{arrival_ge, arrival_same, busy_in, busy_more}
use Rattle.etf.proofs.Laws.Turn.{taken_by, free_of, Ready, NewPlacement, Tick, Turn, rest, put, tick, stuck, turn}

-- each task stands in the list at most once
abbrev pub Once : List Placement → Type 0
Once [] = Unit {0}
Once (u ∷ ps) = Holds (not (placed ps u.task)) × Once ps

module _ (I : Instance) where
  -- of two placements on one processor, the older finishes by the newer one's start
  abbrev pub NewerLater : List Placement → Type 0
  NewerLater [] = Unit {0}
  NewerLater (u ∷ ps) = ((v : Placement) → v ∈ ps → v.processor ≡ u.processor → finish I v ≤ u.start) × NewerLater ps

  -- all predecessors of task T are placed
  abbrev pub Opened : List Placement → ℕ → Type 0
  Opened ps T = (l : Edge) → l ∈ into I T → Holds (placed ps l.from)

  -- what holds after each round, of the clock and the placements so far
  pub record Sound (cm : ℕ) (ps : List Placement) : Type 0 where
    pub once : Once ps
    pub apart : NewerLater ps
    pub in_range_lem : (u : Placement) → u ∈ ps → (u.task < tasks I) × (u.processor < I.processors)
    -- a placed task's predecessors are placed, and their messages arrive by its start
    pub opened : (u : Placement) → u ∈ ps → Opened ps u.task
    pub arrived : (u : Placement) → u ∈ ps → arrival I ps u.task u.processor ≤ u.start
    -- no start lies after a finish that is still ahead
    pub by_finish : (u v : Placement) → u ∈ ps → v ∈ ps → cm < finish I v → u.start ≤ finish I v
    -- no start lies after what a ready task could have on a free processor
    pub by_pair : (u : Placement) → u ∈ ps → (T P : ℕ) → Ready I cm ps T → P < I.processors → Holds (free I cm ps P)
        → u.start ≤ max cm (arrival I ps T P)
    -- where a start is still ahead, a ready task would arrive no earlier on its processor
    pub by_arrival : (u : Placement) → u ∈ ps → (T : ℕ) → cm < u.start → Ready I cm ps T → u.start ≤ arrival I ps T u.processor
    -- from the arrival of a task that is not placed, up to the clock, a processor is busy
    pub full_open : (T P t : ℕ) → Holds (not (placed ps T)) → T < tasks I → Opened ps T → P < I.processors → t < cm → arrival I ps T P ≤ t
        → Holds (busy I ps P t)
    -- from the arrival of a placed task, up to its start, a processor is busy
    pub full : (u : Placement) → u ∈ ps → (P t : ℕ) → P < I.processors → arrival I ps u.task P ≤ t → t < u.start
        → Holds (busy I ps P t)

  -- from the arrival of a ready task up to x a processor is busy, if nothing placed finishes between the clock and x and the task, where
  -- the processor is free, could not start before x
  covered : (cm : ℕ) (ps : List Placement) → Sound cm ps → (T P t x : ℕ) → Ready I cm ps T → P < I.processors
      → ((v : Placement) → v ∈ ps → cm < finish I v → x ≤ finish I v) → (Holds (free I cm ps P) → x ≤ max cm (arrival I ps T P))
      → cm ≤ t → t < x → arrival I ps T P ≤ t → Holds (busy I ps P t)
  covered cm ps S T P t x r b low opt ct tx at = go (either (free I cm ps P))
    where
      by : (v : Placement) → v ∈ ps → v.processor ≡ P → cm < finish I v → (v.start ≤ t) ⊎ (t < v.start) → Holds (busy I ps P t)
      by v h e f (inl k) = busy_in I ps P t v h e k (omega (arith, low v h f))
      by v h e f (inr k) = absurd (omega (arith, S.by_arrival v h T (omega arith) r, ap (λ p. arrival I ps T p) e))

      go : Holds (free I cm ps P) ⊎ Holds (not (free I cm ps P)) → Holds (busy I ps P t)
      go (inl f) = absurd (omega (arith, opt f))
      go (inr f) = let z = taken_by I cm ps P f in by z.0 z.1 z.2 z.3 (le_or_lt z.0.start t)

  -- ---- a move of the clock

  tick_ready : (cm : ℕ) (ps : List Placement) (x : ℕ) → Tick I cm ps x → (T P t : ℕ) → Holds (not (placed ps T)) → T < tasks I → Opened ps T
      → arrival I ps T P ≤ t → t < x → Ready I cm ps T
  tick_ready cm ps x K T P t f b o at tx = record {
    below = b;
    fresh = f;
    waits = λ l h. (o l h, by l h (le_or_lt (finish I (placement_of ps l.from)) cm));
  }
    where
      by : (l : Edge) (h : l ∈ into I T) → (finish I (placement_of ps l.from) ≤ cm) ⊎ (cm < finish I (placement_of ps l.from))
          → finish I (placement_of ps l.from) ≤ cm
      by l h (inl k) = k
      by l h (inr k) =
          absurd (omega (arith, K.least (placement_of ps l.from) (placement_of_lem ps l.from (o l h)).0 k, arrival_ge I ps T P l h))

  pub after_tick : (cm : ℕ) (ps : List Placement) (x : ℕ) → Sound cm ps → Tick I cm ps x → Sound x ps
  after_tick cm ps x S K = record {
    once = S.once;
    apart = S.apart;
    in_range_lem = S.in_range_lem;
    opened = S.opened;
    arrived = S.arrived;
    by_finish = λ u v h k f. S.by_finish u v h k (omega (arith, K.ahead));
    by_pair = λ u h T P r b f. omega (arith, started u h);
    by_arrival = λ u h T f r. absurd (omega (arith, started u h));
    full_open = λ T P t f b o p tx at. open_full T P t f b o p tx at (le_or_lt cm t);
    full = S.full;
  }
    where
      started : (u : Placement) → u ∈ ps → u.start ≤ x
      started u h = let w = K.whose in omega (arith, K.ahead, w.2, S.by_finish u w.0 h w.1 (omega (arith, K.ahead, w.2)))

      open_full : (T P t : ℕ) → Holds (not (placed ps T)) → T < tasks I → Opened ps T → P < I.processors → t < x → arrival I ps T P ≤ t
          → (cm ≤ t) ⊎ (t < cm) → Holds (busy I ps P t)
      open_full T P t f b o p tx at (inl k) =
          let r = tick_ready cm ps x K T P t f b o at tx in
          covered cm ps S T P t x r p K.least (λ y. omega (arith, K.too_late T P r p y)) k tx at
      open_full T P t f b o p tx at (inr k) = S.full_open T P t f b o p k at

  -- ---- a placing

  module _ (W : WellFormed I) (cm : ℕ) (ps : List Placement) (u : Placement) (S : Sound cm ps) (K : NewPlacement I cm ps u) where
    -- u's task is none of those placed before
    other : (T : ℕ) → Holds (placed ps T) → ¬ (u.task ≡ T)
    other T h e = not_both (placed ps T) (subst (λ t. Holds (not (placed ps t))) e K.task_ready.fresh) h

    same_placement : (T : ℕ) → Holds (placed ps T) → placement_of (u ∷ ps) T ≡ placement_of ps T
    same_placement T h = placement_tail u ps T (other T h)

    pub same_arrival : (T P : ℕ) → Opened ps T → arrival I (u ∷ ps) T P ≡ arrival I ps T P
    same_arrival T P o = arrival_same I (u ∷ ps) ps T P (λ l h. same_placement l.from (o l h))

    ends_later : cm < finish I u
    ends_later = omega (arith, K.when, W.takes_time u.task K.task_ready.below)

    -- an unplaced task whose predecessors finish by the clock does not have u among them
    ready_back : (T : ℕ) → Ready I cm (u ∷ ps) T → Ready I cm ps T
    ready_back T r = record {
      below = r.below;
      fresh = fails (placed ps T) (λ h. not_both (placed (u ∷ ps) T) r.fresh (placed_more u ps T h));
      waits = waits;
    }
      where
        by : (l : Edge) → l ∈ into I T → Holds (eqb u.task l.from) ⊎ Holds (not (eqb u.task l.from))
            → Holds (placed ps l.from) × (finish I (placement_of ps l.from) ≤ cm)
        by l h (inl e) =
            absurd (omega (
              arith,
              ends_later,
              (r.waits l h).1,
              ap (λ v. finish I v) (placement_head u ps l.from (eqb→eq u.task l.from e)),
            ))
        by l h (inr e) =
            let ne = neqb→ne u.task l.from e in (
              placed_less u ps l.from ne (r.waits l h).0,
              omega (arith, (r.waits l h).1, ap (λ v. finish I v) (placement_tail u ps l.from ne)),
            )

        waits : (l : Edge) → l ∈ into I T → Holds (placed ps l.from) × (finish I (placement_of ps l.from) ≤ cm)
        waits l h = by l h (either (eqb u.task l.from))

    free_back : (P : ℕ) → Holds (free I cm (u ∷ ps) P) → Holds (free I cm ps P)
    unfolding free all
    free_back P h = second (not (eqb u.processor P) || leb (finish I u) cm) (free I cm ps P) h

    -- a task that arrives by the clock does not have u among its predecessors
    open_back : (T P : ℕ) → Opened (u ∷ ps) T → arrival I (u ∷ ps) T P ≤ cm → Opened ps T
    open_back T P o at l h = by (either (eqb u.task l.from))
      where
        by : Holds (eqb u.task l.from) ⊎ Holds (not (eqb u.task l.from)) → Holds (placed ps l.from)
        by (inl e) =
            absurd (omega (
              arith,
              ends_later,
              arrival_ge I (u ∷ ps) T P l h,
              ap (λ v. finish I v) (placement_head u ps l.from (eqb→eq u.task l.from e)),
            ))
        by (inr e) = placed_less u ps l.from (neqb→ne u.task l.from e) (o l h)

    ready_open : (T : ℕ) → Ready I cm ps T → Opened ps T
    ready_open T r l h = (r.waits l h).0

    -- from the arrival of u's task up to its start a processor is busy
    full_new : (P t : ℕ) → P < I.processors → arrival I ps u.task P ≤ t → t < u.start → Holds (busy I ps P t)
    full_new P t p at ts = by (le_or_lt cm t)
      where
        by : (cm ≤ t) ⊎ (t < cm) → Holds (busy I ps P t)
        by (inl k) =
            covered cm ps S u.task P t u.start K.task_ready p K.in_time (K.least u.task P K.task_ready p) k ts at
        by (inr k) =
            S.full_open u.task P t K.task_ready.fresh K.task_ready.below (ready_open u.task K.task_ready) p k at

    finish_new : (v : Placement) → v ∈ (u ∷ ps) → (w : Placement) → w ∈ (u ∷ ps) → cm < finish I w → v.start ≤ finish I w
    finish_new =
        for_cons (λ v. (w : Placement) → w ∈ (u ∷ ps) → cm < finish I w → v.start ≤ finish I w)
        (for_cons (λ w. cm < finish I w → u.start ≤ finish I w) (λ f. omega arith) K.in_time)
        (λ v h. for_cons (λ w. cm < finish I w → v.start ≤ finish I w)
        (λ f. omega (arith, K.when, S.by_pair v h u.task u.processor K.task_ready K.processor_below K.processor_free))
        (λ w k f. S.by_finish v w h k f))

    pub after_put : Sound cm (u ∷ ps)
    after_put = record {
      once = (K.task_ready.fresh, S.once);
      apart = (λ v h e. omega (arith, K.when, free_of I cm ps u.processor K.processor_free v h e), S.apart);
      in_range_lem = for_cons (λ v. (v.task < tasks I) × (v.processor < I.processors)) (K.task_ready.below, K.processor_below)
          S.in_range_lem;
      opened = for_cons (λ v. Opened (u ∷ ps) v.task) (λ l h. placed_more u ps l.from (ready_open u.task K.task_ready l h))
          (λ v k l h. placed_more u ps l.from (S.opened v k l h));
      arrived = for_cons (λ v. arrival I (u ∷ ps) v.task v.processor ≤ v.start)
          (omega (arith, K.when, same_arrival u.task u.processor (ready_open u.task K.task_ready)))
          (λ v k. omega (arith, same_arrival v.task v.processor (S.opened v k), S.arrived v k));
      by_finish = λ v w h k f. finish_new v h w k f;
      by_pair = for_cons (λ v. (T P : ℕ) → Ready I cm (u ∷ ps) T → P < I.processors → Holds (free I cm (u ∷ ps) P)
          → v.start ≤ max cm (arrival I (u ∷ ps) T P))
          (λ T P r p f. let q = ready_back T r in omega (arith, same_arrival T P (ready_open T q), K.least T P q p (free_back P f)))
          (λ v h T P r p f. let q = ready_back T r in omega (
            arith,
            same_arrival T P (ready_open T q),
            S.by_pair v h T P q p (free_back P f),
          ));
      by_arrival = for_cons (λ v. (T : ℕ) → cm < v.start → Ready I cm (u ∷ ps) T → v.start ≤ arrival I (u ∷ ps) T v.processor)
          (λ T c r. let q = ready_back T r in omega (
            arith,
            same_arrival T u.processor (ready_open T q),
            K.least T u.processor q K.processor_below K.processor_free,
          ))
          (λ v h T c r. let q = ready_back T r in omega (arith, same_arrival T v.processor (ready_open T q), S.by_arrival v h T c q));
      full_open = λ T P t f b o p tc at.
          let q = open_back T P o (omega arith) in
          busy_more I u ps P t
          (S.full_open T P t (fails (placed ps T) (λ h. not_both (placed (u ∷ ps) T) f (placed_more u ps T h))) b q p tc
          (omega (arith, same_arrival T P q)));
      full = for_cons (λ v. (P t : ℕ) → P < I.processors → arrival I (u ∷ ps) v.task P ≤ t → t < v.start → Holds (busy I (u ∷ ps) P t))
          (λ P t p at ts. busy_more I u ps P t
          (full_new P t p (omega (arith, same_arrival u.task P (ready_open u.task K.task_ready))) ts))
          (λ v h P t p at ts. busy_more I u ps P t (S.full v h P t p (omega (arith, same_arrival v.task P (S.opened v h))) ts));
    }

  -- ---- all rounds

  pub sound_start : Sound 0 []
  sound_start = record {
    once = tt;
    apart = tt;
    in_range_lem = λ u h. absurd (in_nothing h);
    opened = λ u h. absurd (in_nothing h);
    arrived = λ u h. absurd (in_nothing h);
    by_finish = λ u v h. absurd (in_nothing h);
    by_pair = λ u h. absurd (in_nothing h);
    by_arrival = λ u h. absurd (in_nothing h);
    full_open = λ T P t f b o p tc. absurd (omega arith);
    full = λ u h. absurd (in_nothing h);
  }

  pub sound_round : WellFormed I → (st : State) → Sound st.clock st.placements → Sound (round I st).clock (round I st).placements
  sound_round W st S = go (round I st) (turn I W st.clock st.placements)
    where
      go : (nx : State) → Turn I st.clock st.placements nx → Sound nx.clock nx.placements
      go nx (rest h) = S
      go nx (put u K) = after_put W st.clock st.placements u S K
      go nx (tick x K) = after_tick st.clock st.placements x S K
      go nx (stuck y z) = S

  pub sound_run : WellFormed I → (k : ℕ) (st : State) → Sound st.clock st.placements
      → Sound (run I k st).clock (run I k st).placements
  unfolding run
  sound_run W zero st S = S
  sound_run W (suc k) st S = sound_run W k (round I st) (sound_round W st S)
