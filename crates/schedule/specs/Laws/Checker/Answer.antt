-- The checker's answer, part by part, as loops over arrays meet it: a plan is a row of placements, so each part asks over a row of places.
-- Of two tasks that overlap one is the lower, and each end of an edge has one placement.
use Rattle.std.proofs.Math.Path.{◌≡◌, refl, subst}
use Rattle.std.proofs.Common.{sym, ap, ◌∙◌, inl, inr}
use Rattle.std.specs.Prelude.{◌⊎◌, not, ◌&&◌, List, get_or}
use Rattle.std.proofs.Math.Bool.{Bool, true, false}
use Rattle.std.proofs.Math.Option.{Option, none, some, or_else}
use Prim.Native.Nat.{ℕ, zero, suc, ◌+◌, ◌*◌, ◌-◌, ◌≤◌, ◌<◌}
use Rattle.std.proofs.Math.Numerals.{add-one}
use native.Mathlib.Omega.{arith}
use borrow.Author.Tests.{ltb-true, ltb-false, lt-ltb, le-ltb}
use Rattle.std.proofs.Math.Dec.{ltb, eqb, ltb→lt, lt→ltb, eqb→eq, eqb-suc-zero, T as Holds}
use Rattle.base.specs.Choice.{pick}
use Rattle.base.specs.Lists.{values, upto, any}
use Rattle.base.specs.Laws.Tests.{both, first, second, same_test, eq→eqb, le_or_lt}
use Rattle.base.specs.Laws.Lists.{upto_of, map_same}
use Rattle.base.specs.Laws.Values.{map-upto}
use Rattle.job.specs.Job.{Edge}
use Rattle.job.specs.Write.{edge_held}
use Rattle.etf.specs.Instance.{Instance, tasks, duration, message_time}
use Rattle.etf.specs.Schedule.{Placement, schedule_of}
use Rattle.etf.specs.Topology.{entry}
use Rattle.etf.specs.Checker.{latest_start, first_answer, misplaced, overlap, early, check}
use Rattle.etf.proofs.Laws.Checker.{overlap_of, overlap_in, early_of_lem, early_in, overlapping, hasty}
use Rattle.schedule.specs.Check.{check_of, number_of}
use Rattle.schedule.specs.InArrays.{InArrays, Plannable, instance_in}
use Rattle.schedule.specs.Pass.{some_in_places, place_trouble, place_troubles, overlap_at, overlaps_later, early_at, reach_at, message_at}
use Rattle.schedule.specs.Laws.Held.{held_tasks, timed}
use Rattle.schedule.specs.Laws.Rows.SomeIn.{some_of, some_at, some_same, some_pair, pair_of, pair_at_lem, any_value, any_pair}

-- ---- the tasks by number: 10, then 11

module _ (n : ℕ) (starts processors : List ℕ) where
  -- a loop over the tasks that stops at the first trouble: all are left, none is, a task has no processor, starts too late, is in place
  pub all_tasks_left : (m : ℕ) → place_troubles n starts processors 0 (m - 0) ≡ place_troubles n starts processors 0 m
  all_tasks_left m = let e : m - 0 ≡ m = omega arith in rw e

  pub no_task_left : (t m : ℕ) → m ≤ t → place_troubles n starts processors t (m - t) ≡ 0
  unfolding place_troubles
  no_task_left t m h = let e : m - t ≡ 0 = omega arith in rw e

  pub no_processor : (t m : ℕ) → t < m → n ≤ get_or processors t 0 → place_troubles n starts processors t (m - t) ≡ 10
  unfolding place_troubles place_trouble
  no_processor t m h a = let e : m - t ≡ suc (m - (t + 1)) = omega arith in rw (e, le-ltb (get_or processors t 0) n a)

  pub too_late : (t m : ℕ) → t < m → get_or processors t 0 < n → latest_start < get_or starts t 0
      → place_troubles n starts processors t (m - t) ≡ 11
  unfolding place_troubles place_trouble
  too_late t m h a b =
      let e : m - t ≡ suc (m - (t + 1)) = omega arith in
      rw (e, lt-ltb (get_or processors t 0) n a, lt-ltb latest_start (get_or starts t 0) b)

  pub well_placed : (t m : ℕ) → t < m → get_or processors t 0 < n → get_or starts t 0 ≤ latest_start
      → place_troubles n starts processors t (m - t) ≡ place_troubles n starts processors (t + 1) (m - (t + 1))
  unfolding place_troubles place_trouble
  well_placed t m h a b =
      let e : m - t ≡ suc (m - (t + 1)) = omega arith in
      rw (e, lt-ltb (get_or processors t 0) n a, le-ltb latest_start (get_or starts t 0) b, ← add-one t)

  -- task T's processor is there, and its start is not late
  abbrev pub InPlace : ℕ → Type 0
  InPlace T = (get_or processors T 0 < n) × (get_or starts T 0 ≤ latest_start)

  in_place : (T : ℕ) → place_trouble n starts processors T ≡ 0 → InPlace T
  unfolding place_trouble
  in_place T z = go (ltb (get_or processors T 0) n) refl (ltb latest_start (get_or starts T 0)) refl z
    where
      go : (a : Bool) → ltb (get_or processors T 0) n ≡ a → (b : Bool) → ltb latest_start (get_or starts T 0) ≡ b
          → ◌≡◌ {A = ℕ} (pick (not a) 10 (pick b 11 0)) 0 → InPlace T
      go false d b e q = absurd (omega arith)
      go true d true e q = absurd (omega arith)
      go true d false e q = (ltb-true (get_or processors T 0) n d, ltb-false latest_start (get_or starts T 0) e)

  -- where k tasks from task T on have no trouble each is in place
  pub each_in_place : (T k : ℕ) → place_troubles n starts processors T k ≡ 0 → (U : ℕ) → T ≤ U → U < T + k → InPlace U
  unfolding place_troubles
  each_in_place T zero z U a b = absurd (omega arith)
  each_in_place T (suc k) z U a b =
      go (place_trouble n starts processors T) refl z (le_or_lt U T) (λ q h. each_in_place (suc T) k q U h (omega arith))
    where
      go : (x : ℕ) → place_trouble n starts processors T ≡ x → pick (eqb x 0) (place_troubles n starts processors (suc T) k) x ≡ 0
          → (U ≤ T) ⊎ (T < U) → (place_troubles n starts processors (suc T) k ≡ 0 → T < U → InPlace U) → InPlace U
      go zero e q (inl h) r = let s : T ≡ U = omega arith in subst InPlace s (in_place T e)
      go zero e q (inr h) r = r q h
      go (suc x) e q h r = let z : suc x ≡ 0 = rw (eqb-suc-zero x) at q in absurd (omega arith)

-- a plan in two arrays, task by task
abbrev placement_at : List ℕ → List ℕ → ℕ → Placement
placement_at starts processors T = record { task = T; processor = get_or processors T 0; start = get_or starts T 0 }

-- the plan of m tasks
abbrev pub plan_of : ℕ → List ℕ → List ℕ → List Placement
plan_of m starts processors = values (placement_at starts processors) 0 m

-- one task's answer, by its two tests, before the answer r of the tasks after it and the answer o to what is asked next
answer_first : (a b : Bool) (r o : Option ℕ) (x : ℕ) → number_of (or_else r o) ≡ pick (eqb x 0) (number_of o) x
    → number_of (or_else (or_else (pick (not a) (some 10) (pick b (some 11) none)) r) o)
    ≡ (let u : ℕ = pick (not a) 10 (pick b 11 0) in let y : ℕ = pick (eqb u 0) x u in pick (eqb y 0) (number_of o) y)
unfolding number_of or_else
answer_first true false r o x h = h
answer_first true true r o x h = refl
answer_first false b r o x h = refl

answers_first : (I : Instance) (starts processors : List ℕ) (o : Option ℕ) (T k : ℕ)
    → number_of (or_else (first_answer (misplaced I) (values (placement_at starts processors) T k)) o)
    ≡ (let r : ℕ = place_troubles I.processors starts processors T k in pick (eqb r 0) (number_of o) r)
unfolding number_of or_else first_answer values place_troubles place_trouble misplaced
answers_first I starts processors o T zero = refl
answers_first I starts processors o T (suc k) =
    answer_first (ltb (get_or processors T 0) I.processors) (ltb latest_start (get_or starts T 0))
    (first_answer (misplaced I) (values (placement_at starts processors) (suc T) k)) o
    (place_troubles I.processors starts processors (suc T) k) (answers_first I starts processors o (suc T) k)

-- ---- the three parts together

number_last : (a b : Bool) → number_of (pick a (some 12) (pick b (some 13) none)) ≡ pick a 12 (pick b 13 0)
unfolding number_of
number_last true b = refl
number_last false true = refl
number_last false false = refl

-- the checker's number for a plan of m tasks: the tasks by number, then overlaps, then starts too early
pub number_is : (I : Instance) (m : ℕ) → tasks I ≡ m → (starts processors : List ℕ)
    → number_of (check_of I (λ T. get_or processors T 0) (λ T. get_or starts T 0))
    ≡ (let r : ℕ = place_troubles I.processors starts processors 0 m in
    let ps = plan_of m starts processors in
    pick (eqb r 0) (pick (overlapping I ps) 12 (pick (hasty I ps) 13 0)) r)
unfolding check_of schedule_of check
number_is I m e starts processors =
    let ps = plan_of m starts processors in
    ap (λ qs. number_of (check I qs)) (map-upto (placement_at starts processors) (tasks I) ∙ rw e)
    ∙ (answers_first I starts processors (pick (overlapping I ps) (some 12) (pick (hasty I ps) (some 13) none)) 0 m
    ∙ rw (number_last (overlapping I ps) (hasty I ps)))

module _ {A : InArrays} (F : Plannable A) (starts processors : List ℕ) where
  abbrev I : Instance
  I = instance_in A

  abbrev m : ℕ
  m = A.tasks

  abbrev durations : List ℕ
  durations = A.durations

  abbrev at : ℕ → Placement
  at T = placement_at starts processors T

  abbrev finish : ℕ → ℕ
  finish T = get_or starts T 0 + get_or durations T 0

  takes : (T : ℕ) → T < m → get_or durations T 0 ≡ duration I T
  takes T h = timed F T (omega (arith, held_tasks F))

  -- ---- overlaps: 12

  -- two tasks on one processor, each of which starts before the other's finish
  abbrev Overlap : ℕ → ℕ → Type 0
  Overlap T U = (get_or processors U 0 ≡ get_or processors T 0) × (get_or starts U 0 < finish T) × (get_or starts T 0 < finish U)

  -- by the test over the arrays
  array_of : (T U : ℕ) → Holds (overlap_at durations starts processors T U) → Overlap T U
  unfolding overlap_at
  array_of T U h =
      let a = eqb (get_or processors U 0) (get_or processors T 0) in
      let b = ltb (get_or starts U 0) (finish T) in
      let c = ltb (get_or starts T 0) (finish U) in
      let z = second a (b && c) h in (
        eqb→eq (get_or processors U 0) (get_or processors T 0) (first a (b && c) h),
        ltb→lt (get_or starts U 0) (finish T) (first b c z),
        ltb→lt (get_or starts T 0) (finish U) (second b c z),
      )

  array_in : (T U : ℕ) → Overlap T U → Holds (overlap_at durations starts processors T U)
  unfolding overlap_at
  array_in T U z =
      let a = eqb (get_or processors U 0) (get_or processors T 0) in
      let b = ltb (get_or starts U 0) (finish T) in
      let c = ltb (get_or starts T 0) (finish U) in
      both a (b && c) (eq→eqb (get_or processors U 0) (get_or processors T 0) z.0)
      (both b c (lt→ltb (get_or starts U 0) (finish T) z.1) (lt→ltb (get_or starts T 0) (finish U) z.2))

  -- by the checker's test over the placements
  plan-of : (T U : ℕ) → T < m → U < m → Holds (overlap I (at T) (at U)) → (¬ (T ≡ U)) × Overlap T U
  plan-of T U h k o =
      let z = overlap_of I (at T) (at U) o in
      (z.0, (sym z.1, omega (arith, z.2, takes T h), omega (arith, z.3, takes U k)))

  plan_in_lem : (T U : ℕ) → T < m → U < m → ¬ (T ≡ U) → Overlap T U → Holds (overlap I (at T) (at U))
  plan_in_lem T U h k ne z =
      overlap_in I (at T) (at U) (ne, sym z.0, omega (arith, z.1, takes T h), omega (arith, z.2, takes U k))

  abbrev some_overlap : Bool
  some_overlap = some_in_places (overlaps_later durations starts processors m) 0 m

  -- of two tasks that overlap one is the lower
  lower_of : (T U : ℕ) → T < U → U < m → Overlap T U → Holds some_overlap
  unfolding overlaps_later
  lower_of T U h k z =
      some_of (overlaps_later durations starts processors m) 0 m T (omega arith) (omega arith)
      (some_of (overlap_at durations starts processors T) (suc T) (m - suc T) U h (omega arith) (array_in T U z))

  either_of : (T U : ℕ) → T < m → U < m → ¬ (T ≡ U) → Overlap T U → Holds some_overlap
  either_of T U h k ne z = go (le_or_lt T U) (le_or_lt U T)
    where
      go : (T ≤ U) ⊎ (U < T) → (U ≤ T) ⊎ (T < U) → Holds some_overlap
      go a (inr b) = lower_of T U b k z
      go (inr a) (inl b) = lower_of U T a h (sym z.0, z.2, z.1)
      go (inl a) (inl b) = absurd (ne (omega arith))

  pub overlaps_are : overlapping I (plan_of m starts processors) ≡ some_overlap
  unfolding overlaps_later
  overlaps_are = any_pair at (overlap I) m ∙ same_test _ _ to_arrays to_plan
    where
      to_arrays : Holds (some_pair (λ T U. overlap I (at T) (at U)) m) → Holds some_overlap
      to_arrays h =
          let x = pair_at_lem (λ T U. overlap I (at T) (at U)) m h in
          let z = plan-of x.0 x.1 x.2 x.3 x.4 in
          either_of x.0 x.1 x.2 x.3 z.0 z.1

      to_plan : Holds some_overlap → Holds (some_pair (λ T U. overlap I (at T) (at U)) m)
      to_plan h =
          let x = some_at (overlaps_later durations starts processors m) 0 m h in
          let y = some_at (overlap_at durations starts processors x.0) (suc x.0) (m - suc x.0) x.3 in
          let a : x.0 < m = omega (arith, x.2) in
          let b : y.0 < m = omega (arith, y.1, y.2) in
          pair_of (λ T U. overlap I (at T) (at U)) m x.0 y.0 a b
          (plan_in_lem x.0 y.0 a b (λ e. omega (arith, y.1, e)) (array_of x.0 y.0 y.3))

  -- ---- starts too early: 13

  abbrev held : ℕ → Edge
  held = edge_held A.from A.to A.counts

  -- edge k's sender and receiver
  abbrev sender : ℕ → ℕ
  sender k = get_or A.from k 0

  abbrev receiver : ℕ → ℕ
  receiver k = get_or A.to k 0

  -- the test over the arrays
  abbrev early_held : ℕ → Bool
  early_held = early_at durations starts processors A.from A.to A.counts A.costs

  -- task U starts before the messages of edge k, sent by task T, are there
  abbrev Early : ℕ → ℕ → ℕ → Type 0
  Early k T U = get_or starts U 0 < finish T + get_or A.counts k 0 * entry A.costs (get_or processors T 0) (get_or processors U 0)

  -- by the checker's test over the placements
  abbrev early_pair : ℕ → ℕ → ℕ → Bool
  early_pair k T U = early I (held k) (at T) (at U)

  edge_of : (k T U : ℕ) → T < m → Holds (early_pair k T U) → (T ≡ sender k) × (U ≡ receiver k) × Early k T U
  unfolding instance_in edge_held message_time
  edge_of k T U h o = let z = early_of_lem I (held k) (at T) (at U) o in (z.0, z.1, omega (arith, z.2, takes T h))

  edge_in_lem : (k : ℕ) → sender k < m → Early k (sender k) (receiver k) → Holds (early_pair k (sender k) (receiver k))
  unfolding instance_in edge_held message_time
  edge_in_lem k h z = early_in I (held k) (at (sender k)) (at (receiver k)) (refl, refl, omega (arith, z, takes (sender k) h))

  -- of an edge each end has one placement
  early_is : (k : ℕ) → k < A.edges → some_pair (early_pair k) m ≡ early_held k
  unfolding early_at reach_at message_at
  early_is k h = same_test _ _ to_arrays to_plan
    where
      to_arrays : Holds (some_pair (early_pair k) m) → Holds (early_held k)
      to_arrays o =
          let x = pair_at_lem (early_pair k) m o in
          let z = edge_of k x.0 x.1 x.2 x.4 in
          lt→ltb _ _ (subst (λ (U : ℕ). Early k (sender k) U) z.1 (subst (λ (T : ℕ). Early k T x.1) z.0 z.2))

      to_plan : Holds (early_held k) → Holds (some_pair (early_pair k) m)
      to_plan o =
          let b = F.within k h in
          let a : sender k < m = omega (arith, F.forward k h, b) in
          pair_of (early_pair k) m (sender k) (receiver k) a b (edge_in_lem k a (ltb→lt _ _ o))

  pub hasty_is : hasty I (plan_of m starts processors) ≡ some_in_places early_held 0 A.edges
  unfolding instance_in
  hasty_is =
      let ps = plan_of m starts processors in
      let asked : Edge → Bool = λ d. any (λ u. any (early I d u) ps) ps in
      any_value held asked 0 A.edges
      ∙ some_same (λ k. asked (held k)) early_held 0 A.edges (λ k a b. any_pair at (early I (held k)) m ∙ early_is k (omega arith))

-- ---- only the tasks' places count: of plans that are the same on the tasks the checker says the same

pub check_of_same : (I : Instance) (p q s t : ℕ → ℕ) → ((T : ℕ) → T < tasks I → p T ≡ q T) → ((T : ℕ) → T < tasks I → s T ≡ t T)
    → check_of I p s ≡ check_of I q t
unfolding check_of schedule_of
check_of_same I p q s t e h =
    ap (check I) (map_same _ _ (upto (tasks I)) (λ T k. rw (e T (upto_of (tasks I) T k), h T (upto_of (tasks I) T k))))
