-- The finished schedule: all that holds after each round holds of it, every task stands in it, and one finishes at its end.
use Rattle.std.specs.Prelude.{◌≡◌, refl, ◌⊎◌, not, List, [], ◌∷◌, eqb, T as Holds, length}
use Rattle.std.proofs.Common.{sym, ◌∙◌, inl, inr, nltb→le, eqb→eq}
use Rattle.std.proofs.Math.Path.{ap, subst}
use Rattle.std.proofs.Math.Option.{Option, some}
use Prim.Native.Nat.{ℕ, suc, ◌*◌, ◌≤◌, ◌<◌}
use native.Mathlib.Omega.{arith}
use Rattle.std.proofs.Math.Dec.{ltb}
use Rattle.base.specs.Lists.{◌∈◌, here, there, upto, filter}
use Rattle.base.specs.Laws.Tests.{either, not_both, fails, pick_yes, pick_no, neqb→ne, le_or_lt}
use Rattle.base.specs.Laws.Lists.{in_nothing, greatest_ge, greatest_at, upto_in, upto_of, map_of, Best, nothing, found, best_is}
use Rattle.base.specs.Laws.Lists.{by_greatest}
use Rattle.etf.specs.Instance.{Instance, WellFormed, tasks}
use Rattle.etf.specs.Schedule.{Placement, placed, placement_of, finish, last_finish, schedule_of, by_task}
use Rattle.etf.specs.Rule.{begin, run, planned}
use Rattle.etf.specs.Cover.{FinishesLast, last_task}
use Rattle.etf.specs.Checker.{Apart}
use Rattle.etf.proofs.Laws.Placements.{placed_head, placed_more, placed_less, placement_of_lem}
use Rattle.etf.proofs.Laws.Sound.{Once, NewerLater, Sound, sound_start, sound_run}
use Rattle.etf.proofs.Laws.Rounds.{all_placed}
use Rattle.etf.proofs.Laws.Ticks.{placement_once}

-- a task that is not placed stands nowhere in the list
times_none : (T : ℕ) (ps : List Placement) → Holds (not (placed ps T)) → length (filter (λ u. eqb u.task T) ps) ≡ 0
unfolding filter
times_none T [] h = refl
times_none T (u ∷ ps) h =
    rw (pick_no (eqb u.task T) (u ∷ filter (λ v. eqb v.task T) ps) (filter (λ v. eqb v.task T) ps) other)
    (times_none T ps (fails (placed ps T) (λ k. not_both (placed (u ∷ ps) T) h (placed_more u ps T k))))
  where
    other : Holds (not (eqb u.task T))
    other =
        fails (eqb u.task T)
        (λ k. not_both (placed (u ∷ ps) T) h (subst (λ S. Holds (placed (u ∷ ps) S)) (eqb→eq u.task T k) (placed_head u ps)))

-- a placed task stands in the list once
times_once : (T : ℕ) (ps : List Placement) → Once ps → Holds (placed ps T) → length (filter (λ u. eqb u.task T) ps) ≡ 1
unfolding filter
times_once T [] o h = absurd (in_nothing (placement_of_lem [] T h).0)
times_once T (u ∷ ps) o h = go (either (eqb u.task T)) (λ k. times_once T ps o.1 k)
  where
    go : Holds (eqb u.task T) ⊎ Holds (not (eqb u.task T)) → (Holds (placed ps T) → length (filter (λ v. eqb v.task T) ps) ≡ 1)
        → length (filter (λ v. eqb v.task T) (u ∷ ps)) ≡ 1
    go (inl k) r =
        rw (pick_yes (eqb u.task T) (u ∷ filter (λ v. eqb v.task T) ps) (filter (λ v. eqb v.task T) ps) k)
        (ap suc (times_none T ps (subst (λ S. Holds (not (placed ps S))) (eqb→eq u.task T k) o.0)))
    go (inr k) r =
        rw (pick_no (eqb u.task T) (u ∷ filter (λ v. eqb v.task T) ps) (filter (λ v. eqb v.task T) ps) k)
        (r (placed_less u ps T (neqb→ne u.task T k) h))

module _ (I : Instance) where
  -- two placements on one processor are apart: one of them is the newer
  pub apart_pairs : (ps : List Placement) → NewerLater I ps → (u v : Placement) → u ∈ ps → v ∈ ps
      → ¬ (u.task ≡ v.task) → u.processor ≡ v.processor → Apart I u v
  apart_pairs (w ∷ ps) a u v (here d) (here e) ne p = absurd (ne (ap (λ (x : Placement). x.task) (d ∙ sym e)))
  apart_pairs (w ∷ ps) a u v (here d) (there k) ne p = inr (rw d (a.0 v k (sym p ∙ ap (λ (x : Placement). x.processor) d)))
  apart_pairs (w ∷ ps) a u v (there h) (here e) ne p = inl (rw e (a.0 u h (p ∙ ap (λ (x : Placement). x.processor) e)))
  apart_pairs (w ∷ ps) a u v (there h) (there k) ne p = apart_pairs ps a.1 u v h k ne p
  apart_pairs [] a u v x5 _ ne p = elim x5 [ ]

module _ (I : Instance) (W : WellFormed I) where
  -- the clock after the last round
  pub last_clock : ℕ
  last_clock = (run I (2 * tasks I) begin).clock

  pub sound_plan : Sound I last_clock (planned I)
  unfolding last_clock planned
  sound_plan = sound_run I W (2 * tasks I) begin (sound_start I)

  pub whole : (T : ℕ) → T < tasks I → Holds (placed (planned I) T)
  whole = all_placed I W

  -- the placement of task T, which is there
  pub home : (T : ℕ) → T < tasks I → (placement_of (planned I) T ∈ planned I) × ((placement_of (planned I) T).task ≡ T)
  home T b = placement_of_lem (planned I) T (whole T b)

  pub on_processor : (T : ℕ) → T < tasks I → (placement_of (planned I) T).processor < I.processors
  on_processor T b = (sound_plan.in_range_lem (placement_of (planned I) T) (home T b).0).1

  -- no task finishes after the end
  pub by_last : (T : ℕ) → T < tasks I → finish I (placement_of (planned I) T) ≤ last_finish I (planned I)
  unfolding last_finish
  by_last T b = greatest_ge (finish I) (planned I) (placement_of (planned I) T) (home T b).0

  -- a task that none finishes after finishes at the end
  ends : (T : ℕ) → T < tasks I → ((S : ℕ) → S < tasks I → finish I (placement_of (planned I) S) ≤ finish I (placement_of (planned I) T))
      → finish I (placement_of (planned I) T) ≡ last_finish I (planned I)
  unfolding last_finish
  ends T b most = go (le_or_lt (last_finish I (planned I)) (finish I (placement_of (planned I) T)))
    where
      go : (last_finish I (planned I) ≤ finish I (placement_of (planned I) T))
          ⊎ (finish I (placement_of (planned I) T) < last_finish I (planned I))
          → finish I (placement_of (planned I) T) ≡ last_finish I (planned I)
      go (inl h) = omega (arith, by_last T b)
      go (inr h) =
          let z = greatest_at (finish I) (planned I) (finish I (placement_of (planned I) T)) h in
          let u = z.0 in
          absurd (omega (
            arith,
            z.2,
            most u.task (sound_plan.in_range_lem u z.1).0,
            ap (finish I) (placement_once (planned I) sound_plan.once u z.1),
          ))

  -- the last task finishes at the end
  pub last_task_lem : (T : ℕ) × (last_task I (planned I) ≡ some T) × FinishesLast I (planned I) T
  unfolding last_task
  last_task_lem = go (last_task I (planned I)) (best_is (λ S T. ltb (at T) (at S)) (by_greatest at) (upto (tasks I)))
    where
      at : ℕ → ℕ
      at T = finish I (placement_of (planned I) T)

      go : (o : Option ℕ) → Best (λ S T. ltb (at T) (at S)) (upto (tasks I)) o
          → (T : ℕ) × (o ≡ some T) × FinishesLast I (planned I) T
      go o (nothing z) = absurd (z 0 (upto_in (tasks I) 0 W.some_task))
      go o (found T h low) =
          let b = upto_of (tasks I) T h in
          (T, refl, record { below = b; at_last = ends T b (λ S c. nltb→le (at T) (at S) (low S (upto_in (tasks I) S c))) })

  -- each task is placed exactly once
  pub placed_once : (T : ℕ) → T < tasks I → length (filter (λ u. eqb u.task T) (planned I)) ≡ 1
  placed_once T b = times_once T (planned I) sound_plan.once (whole T b)

  -- what stands in the plan by task number stands in the plan
  pub by_task_of : (u : Placement) → u ∈ by_task I (planned I) → u ∈ planned I
  unfolding by_task schedule_of
  by_task_of u h =
      let z = map_of (λ T. named T T) (upto (tasks I)) u h in
      let s = home z.0 (upto_of (tasks I) z.0 z.1) in
      subst (λ v. v ∈ planned I) (sym (z.2 ∙ ap (named z.0) (sym s.1))) s.0
    where
      -- the placement of task T, under another number
      named : ℕ → ℕ → Placement
      named T x = record { task = x; processor = (placement_of (planned I) T).processor; start = (placement_of (planned I) T).start }
