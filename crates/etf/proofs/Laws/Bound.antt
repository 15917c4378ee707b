-- The end of the plan against an ideal schedule: busy and idle ticks make up n times the end.
-- The busy ones are the durations, at most n times the makespan of an ideal schedule; a walk bounds the idle ones.
use Rattle.std.specs.Prelude.{◌≡◌, ◌⊎◌, ℕ, suc, ◌+◌, ◌-◌, ◌*◌, ◌≤◌, ◌<◌}
use Rattle.std.proofs.Common.{sym, ◌∙◌, inl, inr, mul-le-mul_left}
use Rattle.std.proofs.Math.Path.{ap}
use native.Mathlib.Omega.{arith}
use Rattle.base.specs.Lists.{upto}
use Rattle.base.specs.Rows.{sum}
use Rattle.base.specs.Laws.Tests.{le_or_lt}
use Rattle.base.specs.Laws.Lists.{greatest_ge, greatest_at, upto_in, upto_of}
use Rattle.etf.specs.Instance.{Instance, WellFormed, tasks, duration}
use Rattle.etf.specs.Schedule.{placement_of, finish, last_finish}
use Rattle.etf.specs.Rule.{planned}
use Rattle.etf.specs.Cover.{Walk}
use Rattle.etf.specs.Checker.{Apart}
use Rattle.etf.specs.Ideal.{Ideal, makespan}
use Rattle.etf.proofs.Laws.Placements.{into_in, arrival_ge}
use Rattle.etf.proofs.Laws.Ticks.{idlers, ideal_work, our_work}
use Rattle.etf.proofs.Laws.Walk.{walk_bound}
use Rattle.etf.proofs.Laws.Planned.{apart_pairs, last_clock, sound_plan, home, on_processor, by_last, last_task_lem}

-- work and idle ticks make up n E; f is when the ideal schedule finishes our last task
add_up : (n q E F f C work idle : ℕ) → n ≡ suc q → n * E ≤ work + idle → work ≤ n * F → idle ≤ q * f + n * C → f ≤ F
    → n * E ≤ (2 * n - 1) * F + n * C
add_up n q E F f C work idle e a b c d =
    let k : 2 * n - 1 ≡ q + n = omega arith in
    omega (arith, ap (λ x. x * F) k, mul-le-mul_left q d)

module _ (I : Instance) (W : WellFormed I) where
  by_makespan : (R : Ideal I) (T : ℕ) → T < tasks I → R.start T + duration I T ≤ makespan I R
  unfolding makespan
  by_makespan R T b = greatest_ge (λ S. R.start S + duration I S) (upto (tasks I)) T (upto_in (tasks I) T b)

  -- the last finish against an ideal schedule, by a walk from a task that finishes last
  pub last_bound : (R : Ideal I) (T C : ℕ) → T < tasks I → finish I (placement_of (planned I) T) ≡ last_finish I (planned I)
      → Walk I (planned I) T C
      → I.processors * last_finish I (planned I) ≤ (2 * I.processors - 1) * makespan I R + I.processors * C
  last_bound R T C b e w =
      let q = I.processors - 1 in
      let n : I.processors ≡ suc q = omega (arith, W.some_processor) in
      add_up I.processors q (last_finish I (planned I)) (makespan I R) (R.start T + duration I T) C
      (sum (tasks I) (duration I)) (sum (last_finish I (planned I)) (idlers I (planned I))) n
      (our_work I (last_clock I W) (planned I) (sound_plan I W) (last_finish I (planned I)) (on_processor I W)
      (λ S c. omega (arith, by_last I W S c, ap (duration I) (home I W S c).1)))
      (ideal_work I R (makespan I R) (by_makespan R))
      (omega (
        arith,
        walk_bound I W R q n T C b w,
        ap (λ x. sum x (idlers I (planned I))) e,
      ))
      (by_makespan R T b)

  -- the plan itself is an ideal schedule: its messages only make it later
  pub own_ideal : Ideal I
  own_ideal = record {
    processor = λ T. (placement_of (planned I) T).processor;
    start = λ T. (placement_of (planned I) T).start;
    on_processor = on_processor I W;
    apart = λ S T s t ne p.
        in_turn S T s t
        (apart_pairs I (planned I) (sound_plan I W).apart (placement_of (planned I) S) (placement_of (planned I) T)
        (home I W S s).0 (home I W T t).0 (λ e. ne (sym (home I W S s).1 ∙ e ∙ (home I W T t).1)) p);
    in_turn = λ e h.
        let up = W.goes_up e h in
        let t = home I W e.to up.1 in
        let v = placement_of (planned I) e.to in
        omega (
          arith,
          ap (duration I) (home I W e.from (omega arith)).1,
          (sound_plan I W).arrived v t.0,
          arrival_ge I (planned I) v.task v.processor e (into_in I v.task e h (sym t.1)),
        );
  }
    where
      in_turn : (S T : ℕ) → S < tasks I → T < tasks I → Apart I (placement_of (planned I) S) (placement_of (planned I) T)
          → ((placement_of (planned I) S).start + duration I S ≤ (placement_of (planned I) T).start)
          ⊎ ((placement_of (planned I) T).start + duration I T ≤ (placement_of (planned I) S).start)
      in_turn S T s t (inl k) = inl (omega (arith, ap (duration I) (home I W S s).1))
      in_turn S T s t (inr k) = inr (omega (arith, ap (duration I) (home I W T t).1))

  -- and its makespan is the plan's end
  pub own_makespan : makespan I own_ideal ≡ last_finish I (planned I)
  unfolding makespan own_ideal
  own_makespan =
      go (le_or_lt (last_finish I (planned I)) (makespan I own_ideal)) (le_or_lt (makespan I own_ideal) (last_finish I (planned I)))
    where
      go : (last_finish I (planned I) ≤ makespan I own_ideal) ⊎ (makespan I own_ideal < last_finish I (planned I))
          → (makespan I own_ideal ≤ last_finish I (planned I)) ⊎ (last_finish I (planned I) < makespan I own_ideal)
          → makespan I own_ideal ≡ last_finish I (planned I)
      go (inl a) (inl b) = omega arith
      go (inr a) b =
          let t = last_task_lem I W in
          absurd (omega (
            arith,
            t.2.at_last,
            by_makespan own_ideal t.0 t.2.below,
            ap (duration I) (home I W t.0 t.2.below).1,
          ))
      go (inl a) (inr b) =
          let z = greatest_at (λ T. (placement_of (planned I) T).start + duration I T) (upto (tasks I)) (last_finish I (planned I)) b in
          let h = upto_of (tasks I) z.0 z.1 in
          absurd (omega (arith, z.2, by_last I W z.0 h, ap (duration I) (home I W z.0 h).1))
