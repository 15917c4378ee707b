-- The latest short tick of the planner's schedule, read off the arrays that hold it.
-- A processor is busy where a task of the arrays runs on it, so both know the same ticks for short and the same processors for idle.
use Rattle.std.specs.Prelude.{◌≡◌, ◌⊎◌, List, ℕ, suc, ◌+◌, ◌-◌, ◌≤◌, ◌<◌, T as Holds, get_or}
use Rattle.std.proofs.Math.Path.{refl}
use Rattle.std.proofs.Common.{sym, ap, ◌∙◌, inl, inr, arith, nltb→le}
use Rattle.std.proofs.Math.Bool.{not}
use Rattle.std.proofs.Math.Option.{Option, none, some}
use Rattle.std.specs.Int.Count.{count_trailing_zeros}
use Rattle.std.proofs.Math.Dec.{ltb}
use Rattle.base.specs.Lists.{◌∈◌, upto}
use Rattle.base.specs.Laws.Tests.{either, not_both, fails, le_or_lt}
use Rattle.base.specs.Laws.Lists.{any_of, filter_in, upto_in, Best, nothing, found, best_is, by_least}
use Rattle.job.specs.Limits.{most_duration}
use Rattle.etf.specs.Instance.{Instance, tasks, duration}
use Rattle.etf.specs.Schedule.{Placement, placement_of, finish}
use Rattle.etf.specs.Rule.{planned}
use Rattle.etf.specs.Cover.{busy, idle, some_idle, latest_idle_tick, lowest_idle}
use Rattle.etf.specs.Checker.{latest_start, Apart}
use Rattle.etf.specs.Bounds.{most_message_time, most_finish}
use Rattle.etf.proofs.Laws.Running.{running_of}
use Rattle.etf.proofs.Laws.Placements.{busy_in, busy_of}
use Rattle.etf.proofs.Laws.Ticks.{placement_once}
use Rattle.etf.proofs.Laws.Idle.{idle_of, idle_in, LatestIdleTick, no_tick, at, latest_idle_tick_lem}
use Rattle.etf.proofs.Laws.Planned.{apart_pairs, sound_plan, home, on_processor}
use Rattle.etf.proofs.Laws.Times.{finish_most}
use Rattle.schedule.specs.Call.{start_of, processor_of}
use Rattle.schedule.specs.InPlace.{EachInPlace}
use Rattle.schedule.specs.InArrays.{InArrays, instance_in, Plannable}
use Rattle.schedule.specs.declared.timetable.Timetable.{Timetable}
use Rattle.schedule.specs.Handed.{plannable}
use Rattle.schedule.specs.CoverPass.{has, ApartIn, ScheduledBy, Scheduled, Running, ShortBefore, HoldsPlan}
use Rattle.schedule.specs.Laws.Held.{held_tasks, held_few, timed, short_tasks, well, near_processors}
use Rattle.schedule.specs.Laws.Walk.Sets.{member_below, lowest_in_lem, lowest_first}

-- ---- any schedule

module _ (I : Instance) (ps : List Placement) where
  -- an idle processor makes its tick short
  short_by : (P t : ℕ) → P < I.processors → Holds (not (busy I ps P t)) → Holds (some_idle I ps t)
  unfolding some_idle
  short_by P t p h = any_of (λ Q. not (busy I ps Q t)) (upto I.processors) P (upto_in I.processors P p) h

  -- a tick in which each processor is busy is not short
  not_short : (t : ℕ) → ((P : ℕ) → P < I.processors → Holds (busy I ps P t)) → Holds (not (some_idle I ps t))
  not_short t f = fails (some_idle I ps t) (λ h. let z = idle_in I ps t h in not_idle z.0 (idle_of I ps t z.0 z.1))
    where
      not_idle : (P : ℕ) → (P < I.processors) × Holds (not (busy I ps P t)) → ⊥
      not_idle P r = not_both (busy I ps P t) r.1 (f P r.0)

  -- no tick before s is short, if each processor is busy in each
  none_latest : (s : ℕ) → ((P t : ℕ) → P < I.processors → t < s → Holds (busy I ps P t)) → latest_idle_tick I ps s ≡ none
  none_latest s f = go (latest_idle_tick I ps s) (latest_idle_tick_lem I ps s)
    where
      go : (o : Option ℕ) → LatestIdleTick I ps s o → o ≡ none
      go o (no_tick z) = refl
      go o (at t h b z) = absurd (not_both (some_idle I ps t) (not_short t (λ P p. f P t p h)) b)

  -- a short tick before s is the latest, if each processor is busy in each tick between
  latest_at : (s t : ℕ) → t < s → Holds (some_idle I ps t) → ((P r : ℕ) → P < I.processors → t < r → r < s → Holds (busy I ps P r))
      → latest_idle_tick I ps s ≡ some t
  latest_at s t h b f = go (latest_idle_tick I ps s) (latest_idle_tick_lem I ps s)
    where
      same : (r : ℕ) → r < s → Holds (some_idle I ps r) → ((q : ℕ) → r < q → q < s → Holds (not (some_idle I ps q)))
          → (t ≤ r) ⊎ (r < t) → (r ≤ t) ⊎ (t < r) → r ≡ t
      same r k c z (inl x) (inl y) = omega arith
      same r k c z (inl x) (inr y) = absurd (not_both (some_idle I ps r) (not_short r (λ P p. f P r p y k)) c)
      same r k c z (inr x) q = absurd (not_both (some_idle I ps t) (z t x h) b)

      go : (o : Option ℕ) → LatestIdleTick I ps s o → o ≡ some t
      go o (no_tick z) = absurd (not_both (some_idle I ps t) (z t h) b)
      go o (at r k c z) = ap some (same r k c z (le_or_lt t r) (le_or_lt r t))

  -- an idle processor is the lowest, if each lower one is busy
  lowest_at : (t P : ℕ) → P < I.processors → Holds (not (busy I ps P t)) → ((Q : ℕ) → Q < P → Holds (busy I ps Q t))
      → lowest_idle I ps t ≡ some P
  unfolding lowest_idle idle
  lowest_at t P p h f = go (lowest_idle I ps t) (best_is ltb (by_least (λ x. x)) (idle I ps t))
    where
      there : P ∈ idle I ps t
      there = filter_in (λ Q. not (busy I ps Q t)) (upto I.processors) P (upto_in I.processors P p) h

      same : (Q : ℕ) → Holds (not (busy I ps Q t)) → Q ≤ P → (P ≤ Q) ⊎ (Q < P) → Q ≡ P
      same Q k b (inl x) = omega arith
      same Q k b (inr x) = absurd (not_both (busy I ps Q t) k (f Q x))

      go : (o : Option ℕ) → Best ltb (idle I ps t) o → o ≡ some P
      go o (nothing z) = absurd (z P there)
      go o (found Q k low) = ap some (same Q (idle_of I ps t Q k).1 (nltb→le P Q (low P there)) (le_or_lt P Q))

-- ---- the planner's schedule in arrays

-- a timetable is a schedule, if no two tasks are at one time on one processor
pub scheduled_in : (x : Timetable) → ApartIn x
    → ScheduledBy x.instance.tasks x.instance.durations.now x.plan.starts.now x.plan.processors.now (latest_start + most_duration)
    x.instance.processors
scheduled_in x apart =
    let F = plannable x.instance in record {
      few = F.few_tasks;
      few_processors = F.few_processors;
      has_durations = omega (arith, F.few_tasks, F.durations_size);
      has_starts = x.in_place.has_starts;
      has_processors = x.in_place.has_processors;
      takes_time = F.takes_time;
      in_time = x.in_place.in_time;
      on_processor = x.in_place.on_processor;
      apart = apart;
    }

module _ {A : InArrays} (F : Plannable A) {starts processors : List ℕ} (H : HoldsPlan (instance_in A) A.tasks starts processors) where
  -- the instance and its schedule, and what the arrays have
  abbrev I : Instance
  I = instance_in A

  abbrev ps : List Placement
  ps = planned I

  abbrev m : ℕ
  m = A.tasks

  abbrev durations : List ℕ
  durations = A.durations

  has_processors : I.processors ≡ A.processors
  unfolding instance_in
  has_processors = refl

  -- the number of a task of the arrays is one of the instance
  task_there : (T : ℕ) → T < m → T < tasks I
  task_there T h = omega (arith, held_tasks F)

  -- what the arrays have of task T is what its placement has
  start_is : (T : ℕ) → T < m → get_or starts T 0 ≡ (placement_of ps T).start
  unfolding start_of
  start_is T h = H.starts_are T h

  processor_is : (T : ℕ) → T < m → get_or processors T 0 ≡ (placement_of ps T).processor
  unfolding processor_of
  processor_is T h = H.processors_are T h

  pub finish_is : (T : ℕ) → T < m → get_or starts T 0 + get_or durations T 0 ≡ finish I (placement_of ps T)
  finish_is T h =
      let b = task_there T h in
      omega (arith, start_is T h, timed F T b, ap (duration I) (home I (well F) T b).1)

  in_time : (T : ℕ) → T < m → get_or starts T 0 + get_or durations T 0 ≤ most_finish
  in_time T h =
      let u = (home I (well F) T (task_there T h)).0 in
      let late = finish_most I (well F) most_duration most_message_time (short_tasks F) (near_processors F) (placement_of ps T) u in
      omega (arith, finish_is T h, late, held_few F)

  -- the arrays have a schedule: its tasks end in time and no two are on one processor at one time
  pub scheduled : Scheduled m durations starts processors A.processors
  scheduled = record {
    few = F.few_tasks;
    few_processors = F.few_processors;
    has_durations = omega (arith, F.few_tasks, F.durations_size);
    has_starts = H.has_starts;
    has_processors = H.has_processors;
    takes_time = F.takes_time;
    in_time = in_time;
    on_processor = λ T h. omega (arith, processor_is T h, on_processor I (well F) T (task_there T h), has_processors);
    apart = λ T U h k ne e.
        let a = home I (well F) T (task_there T h) in
        let b = home I (well F) U (task_there U k) in
        two_apart T U h k
        (apart_pairs I ps (sound_plan I (well F)).apart (placement_of ps T) (placement_of ps U) a.0 b.0
        (λ q. ne (sym a.1 ∙ q ∙ b.1)) (sym (processor_is T h) ∙ e ∙ processor_is U k));
  }
    where
      two_apart : (T U : ℕ) → T < m → U < m → Apart I (placement_of ps T) (placement_of ps U)
          → (get_or starts T 0 + get_or durations T 0 ≤ get_or starts U 0) ⊎ (get_or starts U 0 + get_or durations U 0 ≤ get_or starts T 0)
      two_apart T U h k (inl a) = inl (omega (arith, finish_is T h, start_is U k))
      two_apart T U h k (inr a) = inr (omega (arith, finish_is U k, start_is T h))

  -- and each task has its place
  pub places : EachInPlace m A.processors durations starts processors
  places = record {
    has_starts = H.has_starts;
    has_processors = H.has_processors;
    on_processor = scheduled.on_processor;
    in_time = λ T h. omega (arith, in_time T h);
  }

  -- a processor on which a task of the arrays runs is busy
  running_busy : (P t : ℕ) → Running m durations starts processors P t → Holds (busy I ps P t)
  running_busy P t r =
      let T = r.task in
      let b = r.below in
      busy_in I ps P t (placement_of ps T) (home I (well F) T (task_there T b)).0 (sym (processor_is T b) ∙ r.there)
      (omega (arith, start_is T b, r.begun)) (omega (arith, finish_is T b, r.unfinished))

  -- and on a busy one such a task runs
  busy_running : (P t : ℕ) → Holds (busy I ps P t) → Running m durations starts processors P t
  busy_running P t h =
      let z = busy_of I ps P t h in
      let u = z.0 in
      let S = sound_plan I (well F) in
      let b : u.task < m = omega (arith, (S.in_range_lem u z.1).0, held_tasks F) in
      let e = placement_once ps S.once u z.1 in
      let r = running_of u.start (duration I u.task) t z.3 in record {
        task = u.task;
        below = b;
        there = processor_is u.task b ∙ ap (λ (v : Placement). v.processor) e ∙ z.2;
        begun = omega (arith, r.0, start_is u.task b, ap (λ (v : Placement). v.start) e);
        unfinished = omega (arith, r.1, finish_is u.task b, ap (finish I) e);
      }

  module _ (T : ℕ) (h : T < m) {latest set : ℕ}
      (B : ShortBefore m durations starts processors A.processors (get_or starts T 0) latest set) where
    -- where each processor is busy up to the start, no tick before it is short
    pub no_short : set ≡ 0 → latest_idle_tick I ps (placement_of ps T).start ≡ none
    no_short e =
        none_latest I ps (placement_of ps T).start
        (λ Q t q k. running_busy Q t (B.none_short e Q t (omega (arith, has_processors)) (omega (arith, start_is T h))))

    -- else the latest short one is right before `latest`, ..
    module _ (there : 0 < set) where
      abbrev tick : ℕ
      tick = latest - 1

      tick_there : (suc tick ≡ latest) × (tick < get_or starts T 0)
      tick_there = (omega (arith, B.before there), omega (arith, B.before there))

      -- .. and the processors idle in it are those of the set
      pub set_idle : (P : ℕ) → Holds (has set P) → (P < I.processors) × Holds (not (busy I ps P tick))
      set_idle P k = (
        omega (arith, B.within P k, has_processors),
        fails (busy I ps P tick) (λ b. B.rests P tick tick_there.0 k (busy_running P tick b)),
      )

      pub idle_set : (P : ℕ) → P < I.processors → Holds (not (busy I ps P tick)) → Holds (has set P)
      idle_set P p k = go (either (has set P))
        where
          go : Holds (has set P) ⊎ Holds (not (has set P)) → Holds (has set P)
          go (inl y) = y
          go (inr n) =
              absurd (not_both (busy I ps P tick) k
              (running_busy P tick (B.runs P tick (omega (arith, has_processors)) tick_there.0 tick_there.1 n)))

      -- the lowest of the set
      lowest : Holds (has set (count_trailing_zeros 32 set))
      lowest = lowest_in_lem 32 set there (omega (arith, B.few_bits))

      pub lowest_small : count_trailing_zeros 32 set < 16
      lowest_small = member_below 16 set (count_trailing_zeros 32 set) B.few_bits lowest

      pub latest_short : latest_idle_tick I ps (placement_of ps T).start ≡ some tick
      latest_short =
          let i = set_idle (count_trailing_zeros 32 set) lowest in
          latest_at I ps (placement_of ps T).start tick (omega (arith, tick_there.1, start_is T h))
          (short_by I ps (count_trailing_zeros 32 set) tick i.0 i.1)
          (λ Q r q k n.
          running_busy Q r
          (B.runs_after Q r (omega (arith, has_processors)) (omega (arith, tick_there.0)) (omega (arith, start_is T h))))

      pub lowest_idle_lem : lowest_idle I ps tick ≡ some (count_trailing_zeros 32 set)
      lowest_idle_lem =
          let i = set_idle (count_trailing_zeros 32 set) lowest in
          lowest_at I ps tick (count_trailing_zeros 32 set) i.0 i.1
          (λ Q q. running_busy Q tick
          (B.runs Q tick (omega (arith, i.0, has_processors)) tick_there.0 tick_there.1
          (fails (has set Q) (lowest_first 32 set Q q))))
