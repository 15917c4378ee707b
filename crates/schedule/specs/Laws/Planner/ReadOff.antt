-- What the planner reads off its arrays is as the rule says: free processors, next moment, ready tasks, arrivals, whether tasks remain.
-- Two tests are the same where each gives the other, two numbers where what is below the one is below the other.
use Rattle.std.specs.Prelude.{◌≡◌, ◌⊎◌, Bool, not, List}
use Rattle.std.proofs.Math.Path.{refl, ap, subst}
use Rattle.std.proofs.Common.{sym, ◌∙◌, le→leb}
use Rattle.std.proofs.Math.Logic.{inl, inr}
use Rattle.std.proofs.Math.Bool.{true, false}
use Rattle.std.proofs.Math.Option.{Option}
use Prim.Native.Nat.{ℕ, zero, suc, ◌+◌, ◌*◌, ◌≤◌, ◌<◌, min}
use native.Mathlib.Omega.{arith}
use Rattle.std.proofs.Math.Dec.{leb, eqb, leb→le, nleb→lt, eqb→eq, T as Holds}
use Rattle.std.proofs.Math.ListN.{get_or}
use Rattle.base.specs.Choice.{pick}
use Rattle.base.specs.Lists.{◌∈◌, upto, filter}
use Rattle.base.specs.Rows.{most}
use Rattle.base.specs.Laws.Tests.{either, not_both, fails, both, first, second, pick_yes, same_test, eq→eqb, le_or_lt}
use Rattle.base.specs.Laws.Lists.{all_of, all_at, filter_same, upto_in, upto_of}
use Rattle.base.specs.Laws.Sums.{one_if_yes, one_if_no, sum_ge}
use Rattle.base.specs.Laws.Most.{most_ge, most_at, sum_none}
use Rattle.job.specs.Job.{Edge}
use Rattle.job.specs.Write.{edge_held}
use Rattle.etf.specs.Instance.{Instance, tasks, into}
use Rattle.etf.specs.Schedule.{Placement, placed, placement_of, finish, reach, arrival}
use Rattle.etf.specs.Rule.{next_moment, free, ready, complete}
use Rattle.etf.proofs.Laws.Placements.{arrival_ge, arrival_at}
use Rattle.etf.proofs.Laws.Turn.{free_of, taken_by, Ready, ready_of, ready_in, Next, endless, at, next_is}
use Rattle.etf.proofs.Laws.Sound.{Sound, Opened}
use Rattle.etf.specs.Bounds.{most_finish}
use Rattle.schedule.specs.InArrays.{InArrays, instance_in, Plannable}
use Rattle.schedule.specs.Pass.{never, soonest, free_among, can_start, Tables}
use Rattle.schedule.specs.Laws.Held.{held_tasks, edge_place, edge_into}
use Rattle.schedule.specs.Laws.Planner.Simulation.{never_or, InStep, sends, awaits, reached, finished_by, awaited}

-- numbers are the same where what is below the one is below the other
same_number : (x y : ℕ) → ((t : ℕ) → t < x → t < y) → ((t : ℕ) → t < y → t < x) → x ≡ y
same_number x y f g = go (le_or_lt x y) (le_or_lt y x)
  where
    go : (x ≤ y) ⊎ (y < x) → (y ≤ x) ⊎ (x < y) → x ≡ y
    go (inl a) (inl b) = omega arith
    go (inl a) (inr b) = absurd (omega (arith, g x b))
    go (inr a) b = absurd (omega (arith, f y a))

-- what is below a choice between x and 0 is below x, and the test passes
pick_over : (b : Bool) (x t : ℕ) → t < pick b x 0 → Holds b × (t < x)
pick_over true x t h = (tt, h)
pick_over false x t h = absurd (omega arith)

-- ---- the soonest finish

module _ (busy : List ℕ) (clock : ℕ) where
  -- it is at most each finish after the clock
  soonest_le : (k P : ℕ) → P < k → clock < get_or busy P 0 → soonest busy clock k ≤ get_or busy P 0
  unfolding soonest
  soonest_le zero P h a = absurd (omega arith)
  soonest_le (suc k) P h a = go (leb (get_or busy k 0) clock) refl (le_or_lt (suc P) k) (λ q. soonest_le k P q a)
    where
      go : (b : Bool) → leb (get_or busy k 0) clock ≡ b → (suc P ≤ k) ⊎ (k < suc P) → (P < k → soonest busy clock k ≤ get_or busy P 0)
          → pick b (soonest busy clock k) (min (soonest busy clock k) (get_or busy k 0)) ≤ get_or busy P 0
      go true t (inl q) r = r q
      go true t (inr q) r =
          let e : P ≡ k = omega arith in
          absurd (omega (arith, leb→le (get_or busy k 0) clock (subst Holds (sym t) tt), ap (λ (i : ℕ). get_or busy i 0) e))
      go false t (inl q) r = omega (arith, r q)
      go false t (inr q) r = let e : P ≡ k = omega arith in omega (arith, ap (λ (i : ℕ). get_or busy i 0) e)

  -- and it is one of them, or there is none
  soonest_one : (k : ℕ)
      → (soonest busy clock k ≡ never) ⊎ ((P : ℕ) × (P < k) × (clock < get_or busy P 0) × (soonest busy clock k ≡ get_or busy P 0))
  unfolding soonest
  soonest_one zero = inl refl
  soonest_one (suc k) = go (leb (get_or busy k 0) clock) refl (le_or_lt (soonest busy clock k) (get_or busy k 0)) (soonest_one k)
    where
      go : (b : Bool) → leb (get_or busy k 0) clock ≡ b
          → (soonest busy clock k ≤ get_or busy k 0) ⊎ (get_or busy k 0 < soonest busy clock k)
          → (soonest busy clock k ≡ never) ⊎ ((P : ℕ) × (P < k) × (clock < get_or busy P 0) × (soonest busy clock k ≡ get_or busy P 0))
          → (pick b (soonest busy clock k) (min (soonest busy clock k) (get_or busy k 0)) ≡ never)
          ⊎ ((P : ℕ) × (P < suc k) × (clock < get_or busy P 0)
          × (pick b (soonest busy clock k) (min (soonest busy clock k) (get_or busy k 0)) ≡ get_or busy P 0))
      go true t q (inl r) = inl r
      go true t q (inr r) = inr (r.0, omega (arith, r.1), r.2, r.3)
      go false t (inl q) (inl r) = inl (omega arith)
      go false t (inl q) (inr r) = inr (r.0, omega (arith, r.1), r.2, omega (arith, r.3))
      go false t (inr q) r = inr (k, omega arith, nleb→lt (get_or busy k 0) clock (subst (λ b. Holds (not b)) (sym t) tt), omega arith)

-- ---- edges by place

module _ (from to : List ℕ) (ps : List Placement) (T k : ℕ) where
  sends_in : Holds (placed ps (get_or from k 0)) → get_or to k 0 ≡ T → Holds (sends from to ps T k)
  sends_in p q = both (placed ps (get_or from k 0)) (eqb (get_or to k 0) T) p (eq→eqb (get_or to k 0) T q)

  sends_to : Holds (sends from to ps T k) → get_or to k 0 ≡ T
  sends_to h = eqb→eq (get_or to k 0) T (second (placed ps (get_or from k 0)) (eqb (get_or to k 0) T) h)

  awaits_in : get_or to k 0 ≡ T → Holds (not (placed ps (get_or from k 0))) → Holds (awaits from to ps T k)
  awaits_in q p = both (eqb (get_or to k 0) T) (not (placed ps (get_or from k 0))) (eq→eqb (get_or to k 0) T q) p

  awaits_of : Holds (awaits from to ps T k) → (get_or to k 0 ≡ T) × Holds (not (placed ps (get_or from k 0)))
  awaits_of h = (
    eqb→eq (get_or to k 0) T (first (eqb (get_or to k 0) T) (not (placed ps (get_or from k 0))) h),
    second (eqb (get_or to k 0) T) (not (placed ps (get_or from k 0))) h,
  )

module _ {A : InArrays} {cm : ℕ} {ps : List Placement} {S : Tables} {low e : ℕ} (F : Plannable A) (Q : InStep A cm ps S low e) where
  -- the instance, and the arrays by their names
  abbrev I : Instance
  I = instance_in A

  abbrev from : List ℕ
  from = A.from

  abbrev to : List ℕ
  to = A.to

  abbrev counts : List ℕ
  counts = A.counts

  abbrev l : ℕ
  l = A.edges

  abbrev busy : List ℕ
  busy = S.busy

  abbrev arrivals : List ℕ
  arrivals = S.inbox.arrivals

  abbrev waiting : List ℕ
  waiting = S.inbox.waiting

  abbrev latest : List ℕ
  latest = S.inbox.latest

  -- ---- whether tasks remain

  pub complete_is : low ≡ A.tasks → Holds (complete I ps)
  unfolding complete
  complete_is h =
      all_of (placed ps) (upto (tasks I))
      (λ T k. at_place T (F.ordered.each T (omega (arith, upto_of (tasks I) T k, held_tasks F))))
    where
      at_place : (T : ℕ) → (i : ℕ) × (i < A.tasks) × (A.order i ≡ T) → Holds (placed ps T)
      at_place T z = subst (λ (U : ℕ). Holds (placed ps U)) z.2 (Q.below_low z.0 (omega (arith, z.1)))

  pub incomplete_is : low < A.tasks → Holds (not (complete I ps))
  unfolding complete
  incomplete_is h =
      let T = A.order low in
      let b : T < tasks I = omega (arith, F.ordered.within low h, held_tasks F) in
      fails (complete I ps) (λ c. not_both (placed ps T) (Q.at_low h) (all_at (placed ps) (upto (tasks I)) c T (upto_in (tasks I) T b)))

  -- ---- free processors and the next moment

  free_is : (P : ℕ) → P < I.processors → leb (get_or busy P 0) cm ≡ free I cm ps P
  free_is P h =
      same_test (leb (get_or busy P 0) cm) (free I cm ps P)
      (λ a. to_rule (leb→le (get_or busy P 0) cm a) (either (free I cm ps P))) (λ f. to_arrays f (Q.busy_whose P h))
    where
      by : (u : Placement) → u.processor ≡ P → get_or busy P 0 ≤ cm → cm < finish I u
          → (finish I u ≤ cm) ⊎ (finish I u ≡ get_or busy u.processor 0) → ⊥
      by u w a c (inl q) = absurd (omega arith)
      by u w a c (inr q) = absurd (omega (arith, ap (λ (i : ℕ). get_or busy i 0) w))

      to_rule : get_or busy P 0 ≤ cm → Holds (free I cm ps P) ⊎ Holds (not (free I cm ps P)) → Holds (free I cm ps P)
      to_rule a (inl f) = f
      to_rule a (inr f) = let z = taken_by I cm ps P f in absurd (by z.0 z.2 a z.3 (Q.busy_last z.0 z.1))

      to_arrays : Holds (free I cm ps P)
          → (get_or busy P 0 ≡ 0) ⊎ ((u : Placement) × (u ∈ ps) × (u.processor ≡ P) × (finish I u ≡ get_or busy P 0))
          → Holds (leb (get_or busy P 0) cm)
      to_arrays f (inl q) = le→leb (get_or busy P 0) cm (omega arith)
      to_arrays f (inr z) = le→leb (get_or busy P 0) cm (omega (arith, z.3, free_of I cm ps P f z.0 z.1 z.2))

  pub free_list : free_among busy cm I.processors ≡ filter (free I cm ps) (upto I.processors)
  unfolding free_among
  free_list =
      filter_same (λ P. leb (get_or busy P 0) cm) (free I cm ps) (upto I.processors)
      (λ P h. free_is P (upto_of I.processors P h))

  -- what a processor is busy with after the clock has been placed
  whose : (P : ℕ) → P < I.processors → cm < get_or busy P 0 → (u : Placement) × (u ∈ ps) × (finish I u ≡ get_or busy P 0)
  whose P h c = go (Q.busy_whose P h)
    where
      go : (get_or busy P 0 ≡ 0) ⊎ ((u : Placement) × (u ∈ ps) × (u.processor ≡ P) × (finish I u ≡ get_or busy P 0))
          → (u : Placement) × (u ∈ ps) × (finish I u ≡ get_or busy P 0)
      go (inl q) = absurd (omega arith)
      go (inr z) = (z.0, z.1, z.3)

  module _ (N : Sound I cm ps) where
    -- no finish after the clock comes before the soonest: it is the last on its processor
    ahead_by : (u : Placement) → u ∈ ps → cm < finish I u → soonest busy cm I.processors ≤ finish I u
    ahead_by u h c = go (Q.busy_last u h)
      where
        go : (finish I u ≤ cm) ⊎ (finish I u ≡ get_or busy u.processor 0) → soonest busy cm I.processors ≤ finish I u
        go (inl q) = absurd (omega arith)
        go (inr q) = omega (arith, soonest_le busy cm I.processors u.processor (N.in_range_lem u h).1 (omega arith))

    pub next_of : ((u : Placement) → u ∈ ps → finish I u ≤ most_finish) → soonest busy cm I.processors ≡ never_or (next_moment I cm ps)
    next_of early = go (next_moment I cm ps) (next_is I cm ps) (soonest_one busy cm I.processors)
      where
        go : (o : Option ℕ) → Next I cm ps o
            → (soonest busy cm I.processors ≡ never)
            ⊎ ((P : ℕ) × (P < I.processors) × (cm < get_or busy P 0) × (soonest busy cm I.processors ≡ get_or busy P 0))
            → soonest busy cm I.processors ≡ never_or o
        go o (endless z) (inl r) = r
        go o (endless z) (inr r) = let w = whose r.0 r.1 r.2 in absurd (z w.0 w.1 (omega (arith, w.2, r.2)))
        go o (at x w c least) (inl r) = absurd (omega (arith, w.2, early w.0 w.1, ahead_by w.0 w.1 (omega (arith, w.2))))
        go o (at x w c least) (inr r) =
            let v = whose r.0 r.1 r.2 in
            omega (arith, w.2, r.3, v.2, ahead_by w.0 w.1 (omega (arith, w.2)), least v.0 v.1 (omega (arith, v.2, r.2)))

  -- ---- ready tasks

  -- a task is ready where nothing is waited for and the latest finish has passed
  ready_there : (T : ℕ) → T < tasks I → get_or waiting T 0 ≡ 0 → get_or latest T 0 ≤ cm → Ready I cm ps T
  unfolding finished_by awaited edge_held
  ready_there T h w c = record { below = h; fresh = fresh_here; waits = waits_for }
    where
      fresh_here : Holds (not (placed ps T))
      fresh_here = fails (placed ps T) (λ p. absurd (omega (arith, Q.waiting_placed T p)))

      sent : (k : ℕ) → k < l → get_or to k 0 ≡ T → Holds (placed ps (get_or from k 0)) ⊎ Holds (not (placed ps (get_or from k 0)))
          → Holds (placed ps (get_or from k 0))
      sent k b q (inl p) = p
      sent k b q (inr p) =
          let one = one_if_yes (awaits from to ps T k) (awaits_in from to ps T k q p) in
          absurd (omega (arith, Q.waiting_open T h fresh_here, sum_ge l (awaited from to ps T) k b))

      waits_for : (d : Edge) → d ∈ into I T → Holds (placed ps d.from) × (finish I (placement_of ps d.from) ≤ cm)
      waits_for d i =
          let z = edge_place F T d i in
          let p = sent z.0 z.1 z.3 (either (placed ps (get_or from z.0 0))) in
          let f = pick_yes (sends from to ps T z.0) (finish I (placement_of ps (get_or from z.0 0))) 0
          (sends_in from to ps T z.0 p z.3) in
          subst (λ (a : Edge). Holds (placed ps a.from) × (finish I (placement_of ps a.from) ≤ cm)) z.2
          (p, omega (arith, Q.latest_at T h, most_ge l (finished_by A ps T) z.0 z.1))

  -- for a ready task nothing is waited for
  ready_waiting : (T : ℕ) → Ready I cm ps T → get_or waiting T 0 ≡ 0
  unfolding awaited edge_held
  ready_waiting T r =
      Q.waiting_open T r.below r.fresh
      ∙ sum_none l (awaited from to ps T) (λ k b. one_if_no (awaits from to ps T k) (fails (awaits from to ps T k) (no k b)))
    where
      no : (k : ℕ) → k < l → Holds (awaits from to ps T k) → ⊥
      no k b h =
          let a = awaits_of from to ps T k h in
          not_both (placed ps (get_or from k 0)) a.1 (r.waits (edge_held from to counts k) (edge_into F T k b a.0)).0

  -- and the latest finish has passed
  ready_latest : (T : ℕ) → Ready I cm ps T → get_or latest T 0 ≤ cm
  unfolding finished_by edge_held
  ready_latest T r = go (le_or_lt (get_or latest T 0) cm)
    where
      go : (get_or latest T 0 ≤ cm) ⊎ (cm < get_or latest T 0) → get_or latest T 0 ≤ cm
      go (inl q) = q
      go (inr q) =
          let z = most_at l (finished_by A ps T) cm (omega (arith, Q.latest_at T r.below)) in
          let f = pick_over (sends from to ps T z.0) (finish I (placement_of ps (get_or from z.0 0))) cm z.2 in
          let i = edge_into F T z.0 z.1 (sends_to from to ps T z.0 f.0) in
          absurd (omega (arith, f.1, (r.waits (edge_held from to counts z.0) i).1))

  pub ready_is : (T : ℕ) → T < tasks I → can_start cm waiting latest T ≡ ready I cm ps T
  unfolding can_start
  ready_is T h = same_test (can_start cm waiting latest T) (ready I cm ps T) to_rule to_arrays
    where
      to_rule : Holds (can_start cm waiting latest T) → Holds (ready I cm ps T)
      to_rule c =
          let a = eqb (get_or waiting T 0) 0 in
          let b = leb (get_or latest T 0) cm in
          let w = eqb→eq (get_or waiting T 0) 0 (first a b c) in
          ready_in I cm ps T (ready_there T h w (leb→le (get_or latest T 0) cm (second a b c)))

      to_arrays : Holds (ready I cm ps T) → Holds (can_start cm waiting latest T)
      to_arrays y =
          let r = ready_of I cm ps T h y in
          both (eqb (get_or waiting T 0) 0) (leb (get_or latest T 0) cm)
          (eq→eqb (get_or waiting T 0) 0 (ready_waiting T r)) (le→leb (get_or latest T 0) cm (ready_latest T r))

  -- ---- arrivals

  pub arrival_is : (T P : ℕ) → T < tasks I → P < I.processors → Opened I ps T → get_or arrivals (16 * T + P) 0 ≡ arrival I ps T P
  unfolding reached edge_held
  arrival_is T P h b o = Q.arrival_at T P h b ∙ same_number (most l (reached A ps T P)) (arrival I ps T P) to_rule to_arrays
    where
      to_rule : (t : ℕ) → t < most l (reached A ps T P) → t < arrival I ps T P
      to_rule t q =
          let z = most_at l (reached A ps T P) t q in
          let f = pick_over (sends from to ps T z.0) (reach I ps P (edge_held from to counts z.0)) t z.2 in
          let i = edge_into F T z.0 z.1 (sends_to from to ps T z.0 f.0) in
          omega (arith, f.1, arrival_ge I ps T P (edge_held from to counts z.0) i)

      to_arrays : (t : ℕ) → t < arrival I ps T P → t < most l (reached A ps T P)
      to_arrays t q =
          let y = arrival_at I ps T P t q in
          let z = edge_place F T y.0 y.1 in
          let p : Holds (placed ps (get_or from z.0 0)) = rw (ap (λ (a : Edge). a.from) z.2) (o y.0 y.1) in
          let f = pick_yes (sends from to ps T z.0) (reach I ps P (edge_held from to counts z.0)) 0
          (sends_in from to ps T z.0 p z.3) in
          omega (arith, y.2, ap (λ (a : Edge). reach I ps P a) z.2, most_ge l (reached A ps T P) z.0 z.1)
