-- The end with results: by placements, by results, by task; against the last finish.
use Rattle.std.specs.Prelude.{◌≡◌, ◌⊎◌, List}
use Rattle.std.proofs.Math.Path.{ap}
use Rattle.std.proofs.Common.{sym, ◌∙◌, inl, inr}
use Prim.Native.Nat.{ℕ, ◌+◌, ◌*◌, ◌≤◌, ◌<◌, max}
use native.Mathlib.Omega.{arith}
use Rattle.std.proofs.Math.Nat.{mul-le-mul}
use Rattle.base.specs.Lists.{◌∈◌, upto, greatest}
use Rattle.base.specs.Laws.Lists.{greatest_ge, greatest_most, upto_in, upto_of}
use Rattle.job.specs.Job.{Result, result_count, RiseByTask}
use Rattle.job.specs.Counts.{count_of, count_is}
use Rattle.etf.specs.Instance.{Instance, tasks, duration}
use Rattle.etf.specs.Schedule.{Placement, placement_of, finish, last_finish, result_time, end, dearest_result}

module _ (I : Instance) (result : ℕ → ℕ) (ps : List Placement) where
  -- when the result of a placed task is there; its finish where it has none
  abbrev delivered : Placement → ℕ
  delivered u = finish I u + result_time I result u

  -- no earlier than the last finish, and later by the dearest result time at most
  pub end_before : last_finish I ps ≤ end I result ps
  unfolding last_finish end
  end_before = greatest_most (finish I) ps (greatest delivered ps) (λ u h. omega (arith, greatest_ge delivered ps u h))

  pub end_after : end I result ps ≤ last_finish I ps + dearest_result I result ps
  unfolding last_finish end dearest_result
  end_after =
      greatest_most delivered ps (greatest (finish I) ps + greatest (result_time I result) ps)
      (λ u h. omega (arith, greatest_ge (finish I) ps u h, greatest_ge (result_time I result) ps u h))

  -- no result, no time for it
  pub no_time : ((u : Placement) → u ∈ ps → result u.task ≡ 0) → dearest_result I result ps ≡ 0
  unfolding dearest_result result_time
  no_time none =
      let most = greatest_most (result_time I result) ps 0 (λ u h. omega (arith, ap (λ c. c * I.cost u.processor 0) (none u h))) in
      omega (arith, most)

  pub time_most : (c k : ℕ) → ((u : Placement) → u ∈ ps → result u.task ≤ c)
      → ((u : Placement) → u ∈ ps → I.cost u.processor 0 ≤ k) → dearest_result I result ps ≤ c * k
  unfolding dearest_result result_time
  time_most c k few cheap = greatest_most (result_time I result) ps (c * k) (λ u h. mul-le-mul (few u h) (cheap u h))

-- ---- by results: of a schedule in which each task stands once

module _ (I : Instance) (ps : List Placement) (once : (u : Placement) → u ∈ ps → placement_of ps u.task ≡ u)
    (results : List Result) (up : RiseByTask results)
    (placed-all : (r : Result) → r ∈ results → (placement_of ps r.task ∈ ps) × ((placement_of ps r.task).task ≡ r.task)) where
  -- what a result takes, and when it is at processor 0
  abbrev time : Result → ℕ
  time r = r.count * I.cost (placement_of ps r.task).processor 0

  abbrev arrives : Result → ℕ
  arrives r = finish I (placement_of ps r.task) + time r

  -- a placed task's result time and when its result is there
  abbrev own : Placement → ℕ
  own = result_time I (result_count results)

  abbrev there : Placement → ℕ
  there u = finish I u + own u

  -- a placed task has no result time, or that of its result
  abbrev TimeOf : Placement → Type 0
  TimeOf u = (own u ≡ 0) ⊎ ((r : Result) × (r ∈ results) × (placement_of ps r.task ≡ u) × (time r ≡ own u))

  time_of : (u : Placement) → u ∈ ps → TimeOf u
  unfolding result_time
  time_of u h = go (count_of results u.task)
    where
      c : ℕ
      c = I.cost u.processor 0

      go : (result_count results u.task ≡ 0)
          ⊎ ((r : Result) × (r ∈ results) × (r.task ≡ u.task) × (r.count ≡ result_count results u.task)) → TimeOf u
      go (inl e) = inl (omega (arith, ap (λ x. x * c) e))
      go (inr z) =
          let e = ap (placement_of ps) z.2 ∙ once u h in
          inr (z.0, z.1, e, ap (λ v. z.0.count * I.cost v.processor 0) e ∙ ap (λ x. x * c) z.3)

  -- a result's time is that of its task
  time_is : (r : Result) → r ∈ results → time r ≡ own (placement_of ps r.task)
  unfolding result_time
  time_is r h =
      ap (λ c. c * I.cost (placement_of ps r.task).processor 0)
      (sym (ap (result_count results) (placed-all r h).1 ∙ count_is results r up h))

  pub by_results : end I (result_count results) ps ≡ max (last_finish I ps) (greatest arrives results)
  unfolding end last_finish
  by_results =
      let finishes = end_before I (result_count results) ps in
      let arrivals = greatest_most arrives results (greatest there ps)
      (λ r h. omega (arith, time_is r h, greatest_ge there ps (placement_of ps r.task) (placed-all r h).0)) in
      let most = greatest_most there ps (max (last_finish I ps) (greatest arrives results)) (λ u h. one u h (time_of u h)) in
      omega (arith, finishes, arrivals, most)
    where
      one : (u : Placement) → u ∈ ps → TimeOf u → there u ≤ max (last_finish I ps) (greatest arrives results)
      one u h (inl e) = omega (arith, greatest_ge (finish I) ps u h)
      one u h (inr z) = omega (arith, greatest_ge arrives results z.0 z.1, ap (finish I) z.2, z.3)

  pub dearest_by_results : dearest_result I (result_count results) ps ≡ greatest time results
  unfolding dearest_result
  dearest_by_results =
      let least = greatest_most time results (greatest own ps)
      (λ r h. omega (arith, time_is r h, greatest_ge own ps (placement_of ps r.task) (placed-all r h).0)) in
      let most = greatest_most own ps (greatest time results) (λ u h. one u (time_of u h)) in
      omega (arith, least, most)
    where
      one : (u : Placement) → TimeOf u → own u ≤ greatest time results
      one u (inl e) = omega arith
      one u (inr z) = omega (arith, greatest_ge time results z.0 z.1, z.3)

-- ---- by task

module _ (I : Instance) (ps : List Placement) (once : (u : Placement) → u ∈ ps → placement_of ps u.task ≡ u)
    (known : (u : Placement) → u ∈ ps → u.task < tasks I)
    (whole : (T : ℕ) → T < tasks I → (placement_of ps T ∈ ps) × ((placement_of ps T).task ≡ T)) (result : ℕ → ℕ) where
  abbrev at : ℕ → ℕ
  at T = (placement_of ps T).start + duration I T + result T * I.cost (placement_of ps T).processor 0

  -- what stands at a task's placement, reckoned with the task's own number
  at_is : (T : ℕ) → T < tasks I → delivered I result ps (placement_of ps T) ≡ at T
  unfolding result_time
  at_is T b = ap (λ S. (placement_of ps T).start + duration I S + result S * I.cost (placement_of ps T).processor 0) (whole T b).1

  pub by_task_lem : end I result ps ≡ greatest at (upto (tasks I))
  unfolding end
  by_task_lem =
      let most = greatest_most (delivered I result ps) ps (greatest at (upto (tasks I)))
      (λ u h.
      let b = known u h in
      omega (
        arith,
        greatest_ge at (upto (tasks I)) u.task (upto_in (tasks I) u.task b),
        at_is u.task b,
        ap (delivered I result ps) (once u h),
      )) in
      let least = greatest_most at (upto (tasks I)) (end I result ps)
      (λ T h.
      let b = upto_of (tasks I) T h in
      omega (arith, at_is T b, greatest_ge (delivered I result ps) ps (placement_of ps T) (whole T b).0)) in
      omega (arith, most, least)
