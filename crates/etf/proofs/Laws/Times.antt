-- How late a planned task can finish: each task placed adds at most its duration and one message time.
use Rattle.std.proofs.Math.Path.{ap}
use Rattle.std.specs.Prelude.{◌⊎◌, List, [], ◌∷◌}
use Rattle.std.proofs.Common.{inl, inr, mul-le-mul_right}
use Prim.Native.Nat.{ℕ, zero, suc, ◌+◌, ◌*◌, ◌≤◌, ◌<◌}
use native.Mathlib.Omega.{arith}
use Rattle.base.specs.Lists.{◌∈◌}
use Rattle.base.specs.Laws.Tests.{le_or_lt}
use Rattle.base.specs.Laws.Lists.{for_cons, in_nothing}
use Rattle.job.specs.Job.{Edge}
use Rattle.etf.specs.Instance.{Instance, WellFormed, tasks, duration, message_time}
use Rattle.etf.specs.Schedule.{Placement, placement_of, finish, message_time_to, arrival, last_finish}
use Rattle.etf.specs.Rule.{State, begin, round, run, planned}
use Rattle.etf.proofs.Laws.Placements.{placement_of_lem, into_of, arrival_at}
use Rattle.etf.proofs.Laws.Turn.{NewPlacement, Tick, Turn, rest, put, tick, stuck, turn}
use Rattle.etf.proofs.Laws.Sound.{Opened, Sound, same_arrival, sound_start, sound_round, sound_run}
use Rattle.etf.proofs.Laws.Rounds.{left, left_start, left_put}
use Rattle.etf.proofs.Laws.Planned.{home, last_task_lem}

module _ (I : Instance) (W : WellFormed I) (D B : ℕ)
    (short : (T : ℕ) → T < tasks I → duration I T ≤ D)
    (near : (e : Edge) → e ∈ I.edges → (p q : ℕ) → p < I.processors → q < I.processors → message_time I e p q ≤ B) where
  -- where each finish leaves a message time up to c, messages arrive by c
  arrival_by : (ps : List Placement) (c : ℕ) → ((u : Placement) → u ∈ ps → (u.task < tasks I) × (u.processor < I.processors))
      → ((u : Placement) → u ∈ ps → finish I u + B ≤ c) → (T P : ℕ) → Opened I ps T → P < I.processors → arrival I ps T P ≤ c
  unfolding message_time_to
  arrival_by ps c range low T P o p = go (le_or_lt (arrival I ps T P) c)
    where
      go : (arrival I ps T P ≤ c) ⊎ (c < arrival I ps T P) → arrival I ps T P ≤ c
      go (inl k) = k
      go (inr k) =
          let z = arrival_at I ps T P c k in
          let l = z.0 in
          let s = (placement_of_lem ps l.from (o l z.1)).0 in
          let v = placement_of ps l.from in
          absurd (omega (arith, z.2, low v s, near l (into_of I T l z.1).0 v.processor P (range v s).1 p))

  -- the clock lies within `count` durations and message times, a finish one message time before, the arrival of a placed task a duration
  -- and a message time before; `count` tasks are placed, or more
  record Low (cm : ℕ) (ps : List Placement) : Type 0 where
    pub count : ℕ
    pub counted : count + left I ps ≤ tasks I
    pub clock_by : cm ≤ count * (D + B)
    pub finish_by : (u : Placement) → u ∈ ps → finish I u + B ≤ count * (D + B)
    pub arrive_by : (u : Placement) → u ∈ ps → (P : ℕ) → P < I.processors → arrival I ps u.task P + (D + B) ≤ count * (D + B)

  low_start : Low 0 []
  low_start = record {
    count = 0;
    counted = omega (arith, left_start I);
    clock_by = omega arith;
    finish_by = λ u h. absurd (in_nothing h);
    arrive_by = λ u h. absurd (in_nothing h);
  }

  low_put : (cm : ℕ) (ps : List Placement) (u : Placement) → Sound I cm ps → Low cm ps → NewPlacement I cm ps u → Low cm (u ∷ ps)
  low_put cm ps u S L K = record {
    count = suc L.count;
    counted = omega (arith, L.counted, left_put I cm ps u K);
    clock_by = omega (arith, L.clock_by);
    finish_by = for_cons (λ v. finish I v + B ≤ suc L.count * (D + B))
        (omega (
          arith,
          K.when,
          L.clock_by,
          short u.task K.task_ready.below,
          arrives u.processor K.processor_below,
        ))
        (λ v h. omega (arith, L.finish_by v h));
    arrive_by = for_cons (λ v. (P : ℕ) → P < I.processors → arrival I (u ∷ ps) v.task P + (D + B) ≤ suc L.count * (D + B))
        (λ P p. omega (arith, same_arrival I W cm ps u S K u.task P opened, arrives P p))
        (λ v h P p. omega (arith, same_arrival I W cm ps u S K v.task P (S.opened v h), L.arrive_by v h P p));
  }
    where
      opened : Opened I ps u.task
      opened l h = (K.task_ready.waits l h).0

      arrives : (P : ℕ) → P < I.processors → arrival I ps u.task P ≤ L.count * (D + B)
      arrives P p = arrival_by ps (L.count * (D + B)) S.in_range_lem L.finish_by u.task P opened p

  low_tick : (cm : ℕ) (ps : List Placement) (x : ℕ) → Low cm ps → Tick I cm ps x → Low x ps
  low_tick cm ps x L K = let w = K.whose in record {
    count = L.count;
    counted = L.counted;
    clock_by = omega (arith, w.2, L.finish_by w.0 w.1);
    finish_by = L.finish_by;
    arrive_by = L.arrive_by;
  }

  low_round : (st : State) → Sound I st.clock st.placements → Low st.clock st.placements
      → Low (round I st).clock (round I st).placements
  low_round st S L = go (round I st) (turn I W st.clock st.placements)
    where
      go : (nx : State) → Turn I st.clock st.placements nx → Low nx.clock nx.placements
      go nx (rest h) = L
      go nx (put u K) = low_put st.clock st.placements u S L K
      go nx (tick x K) = low_tick st.clock st.placements x L K
      go nx (stuck y z) = L

  low_run : (k : ℕ) (st : State) → Sound I st.clock st.placements → Low st.clock st.placements
      → Low (run I k st).clock (run I k st).placements
  unfolding run
  low_run zero st S L = L
  low_run (suc k) st S L = low_run k (round I st) (sound_round I W st S) (low_round st S L)

  low_after : (k : ℕ) → Low (run I k begin).clock (run I k begin).placements
  low_after k = low_run k begin (sound_start I) low_start

  by_count : (k : ℕ) → (low_after k).count * (D + B) ≤ tasks I * (D + B)
  by_count k = mul-le-mul_right {m = (low_after k).count} {n = tasks I} (D + B) (omega (arith, (low_after k).counted))

  -- after k rounds: the clock, the finish of a placed task, the arrival of a task whose predecessors are placed
  pub clock_after : (k : ℕ) → (run I k begin).clock ≤ tasks I * (D + B)
  clock_after k = omega (arith, (low_after k).clock_by, by_count k)

  pub finish_after : (k : ℕ) (u : Placement) → u ∈ (run I k begin).placements → finish I u + B ≤ tasks I * (D + B)
  finish_after k u h = omega (arith, (low_after k).finish_by u h, by_count k)

  pub arrival_after : (k T P : ℕ) → Opened I (run I k begin).placements T → P < I.processors
      → arrival I (run I k begin).placements T P ≤ tasks I * (D + B)
  arrival_after k T P o p =
      arrival_by (run I k begin).placements (tasks I * (D + B)) (sound_run I W k begin (sound_start I)).in_range_lem
      (finish_after k) T P o p

  -- the finish of a planned task: m durations and m - 1 message times
  pub finish_most : (u : Placement) → u ∈ planned I → finish I u + B ≤ tasks I * (D + B)
  unfolding planned
  finish_most = finish_after (2 * tasks I)

  -- the end
  pub last_most : last_finish I (planned I) + B ≤ tasks I * (D + B)
  unfolding last_finish
  last_most =
      let t = last_task_lem I W in
      omega (arith, t.2.at_last, finish_most (placement_of (planned I) t.0) (home I W t.0 t.2.below).0)

  -- the arrival of a task at a processor: m - 1 durations and message times
  pub arrival_most : (T P : ℕ) → T < tasks I → P < I.processors → arrival I (planned I) T P + (D + B) ≤ tasks I * (D + B)
  unfolding planned
  arrival_most T P h p =
      let s = home I W T h in
      omega (
        arith,
        (low_after (2 * tasks I)).arrive_by (placement_of (planned I) T) s.0 P p,
        ap (λ x. arrival I (planned I) x P) s.1,
        by_count (2 * tasks I),
      )
