-- The edge that the walk goes back along, and the task that it begins with, read off the arrays.
-- Edges into one task have different predecessors, which rise with their places: the first of the latest is the one with the lowest
-- predecessor. A task takes time, so that the messages of each edge are there after 0.
use Rattle.std.specs.Prelude.{◌≡◌, refl, ◌⊎◌, Bool, true, false, not, List, [], ◌∷◌, eqb, T as Holds, length}
use Rattle.std.proofs.Math.Path.{sym}
use Rattle.std.proofs.Common.{ap, ◌∙◌, subst, inl, inr, lt→ltb, ltb→lt}
use Rattle.std.proofs.Math.Option.{Option, none, some}
use Prim.Native.Nat.{ℕ, zero, suc, ◌+◌, ◌≤◌, ◌<◌}
use native.Mathlib.Omega.{arith}
use Rattle.std.proofs.Math.Dec.{ltb, eqb→eq}
use Rattle.std.proofs.Math.ListN.{get_or}
use Rattle.base.specs.Choice.{pick}
use Rattle.base.specs.Lists.{◌∈◌, here, upto, keep, best}
use Rattle.base.specs.Rows.{one_if, most}
use Rattle.base.specs.Laws.Tests.{not_both, fails, both, or_left, or_right, pick_yes, pick_no, eq→eqb, le_or_lt}
use Rattle.base.specs.Laws.Lists.{place, length-upto, upto_at, Order, Best, nothing, found, best_is, by_greatest, by_greatest_then_least}
use Rattle.base.specs.Laws.Sums.{one_if_yes, sum_ge}
use Rattle.base.specs.Laws.Most.{most_ge}
use Rattle.job.specs.Job.{Edge}
use Rattle.job.specs.Accepted.{Before}
use Rattle.job.specs.Write.{edge_held}
use Rattle.etf.specs.Instance.{Instance, tasks, into, message_time}
use Rattle.etf.specs.Schedule.{Placement, placement_of, finish, message_time_to, reach}
use Rattle.etf.specs.Rule.{planned}
use Rattle.etf.specs.Cover.{later, latest_into, last_task}
use Rattle.etf.specs.Bounds.{most_message_time}
use Rattle.schedule.specs.Call.{processor_of}
use Rattle.schedule.specs.InArrays.{InArrays, instance_in, Plannable}
use Rattle.graph.specs.Graph.{edges_to}
use Rattle.schedule.specs.Pass.{message_at, reach_at}
use Rattle.schedule.specs.CoverPass.{FirstMost, reach_into, MovesBack, HoldsPlan}
use Rattle.schedule.specs.Laws.Held.{held_tasks, climb, edge_place, edge_into}
use Rattle.schedule.specs.Laws.Walk.ShortTicks.{finish_is}

-- a member that no other beats, and that beats each member before it, is the best
best_first : {X : Type 0} (beats : X → X → Bool) → Order beats → (d : X) (xs : List X) (i : ℕ) → i < length xs
    → ((k : ℕ) → k < length xs → Holds (not (beats (get_or xs k d) (get_or xs i d))))
    → ((k : ℕ) → k < i → Holds (beats (get_or xs i d) (get_or xs k d))) → best beats xs ≡ some (get_or xs i d)
unfolding best keep
best_first beats O d [] i h unbeaten before = absurd (omega arith)
best_first {X} beats O d (x ∷ xs) zero h unbeaten before = ap some (go (best beats xs) (best_is beats O xs))
  where
    go : (o : Option X) → Best beats xs o → keep beats x o ≡ x
    go o (nothing z) = refl
    go o (found y b low) =
        let z = place d xs y b in
        pick_no (beats y x) y x (subst (λ (a : X). Holds (not (beats a x))) z.2 (unbeaten (suc z.0) (omega (arith, z.1))))
best_first beats O d (x ∷ xs) (suc i) h unbeaten before =
    rw (best_first beats O d xs i (omega arith) (λ k b. unbeaten (suc k) (omega arith)) (λ k b. before (suc k) (omega arith)))
    (ap some (pick_yes (beats (get_or xs i d) x) (get_or xs i d) x (before 0 (omega arith))))

-- of no members none is the best
best_none : {A : Type 0} (beats : A → A → Bool) (l : List A) → ((a : A) → a ∈ l → ⊥) → best beats l ≡ none
unfolding best
best_none beats [] f = refl
best_none beats (x ∷ xs) f = absurd (f x (here refl))

-- a choice between x and 0 is above 0 only where the test passes
pick_over : (b : Bool) (x : ℕ) → 0 < pick b x 0 → Holds b
pick_over true x h = tt
pick_over false x h = absurd (omega arith)

module _ {A : InArrays} (F : Plannable A) where
  -- the instance, and what the arrays have
  abbrev I : Instance
  I = instance_in A

  abbrev m : ℕ
  m = A.tasks

  abbrev l : ℕ
  l = A.edges

  abbrev durations : List ℕ
  durations = A.durations

  abbrev from : List ℕ
  from = A.from

  abbrev to : List ℕ
  to = A.to

  -- the edge at place k
  abbrev edge : ℕ → Edge
  edge = edge_held A.from A.to A.counts

  -- ---- the edges into a task

  -- edges with one predecessor go to different tasks
  apart : (i k : ℕ) → i < k → k < l → get_or from i 0 ≡ get_or from k 0 → get_or to i 0 < get_or to k 0
  unfolding edge_held
  apart i zero h b e = absurd (omega arith)
  apart i (suc k) h b e = go (F.rising k b) (le_or_lt k i) (λ q. apart i k q (omega arith))
    where
      go : Before (edge k) (edge (suc k)) → (k ≤ i) ⊎ (i < k) → (i < k → get_or from i 0 ≡ get_or from k 0 → get_or to i 0 < get_or to k 0)
          → get_or to i 0 < get_or to (suc k) 0
      go (inl u) q r = absurd (omega (arith, u, climb F i k (omega arith) (omega arith)))
      go (inr u) (inl q) r = let z : i ≡ k = omega arith in rw z u.1
      go (inr u) (inr q) r = omega (arith, u.1, r q (omega (arith, u.0)))

  -- no edge goes to a task that has no predecessors
  pub no_edge : (T : ℕ) → edges_to to l T ≡ 0 → (d : Edge) → d ∈ into I T → ⊥
  unfolding edges_to
  no_edge T z d h =
      let w = edge_place F T d h in
      let one : one_if (eqb (get_or to w.0 0) T) ≡ 1 = one_if_yes (eqb (get_or to w.0 0) T) (eq→eqb (get_or to w.0 0) T w.3) in
      omega (arith, z, one, sum_ge l (λ i. one_if (eqb (get_or to i 0) T)) w.0 w.1)

  -- so of none the messages are the latest
  pub no_edge_no_latest : (T P : ℕ) (ps : List Placement) → edges_to to l T ≡ 0 → latest_into I ps T P ≡ none
  unfolding latest_into
  no_edge_no_latest T P ps z = best_none (later I ps P) (into I T) (no_edge T z)

  module _ {starts processors : List ℕ} (H : HoldsPlan I m starts processors) where
    -- the planner's schedule
    abbrev ps : List Placement
    ps = planned I

    -- ---- messages, by the arrays

    -- the time of an edge's messages to P, and when they are there
    abbrev message : ℕ → ℕ → ℕ
    message = message_at durations from A.counts A.costs starts processors

    abbrev arrival : ℕ → ℕ → ℕ
    arrival = reach_at durations from A.counts A.costs starts processors

    -- the latter of the edges to task T, 0 of the others
    abbrev into_at : ℕ → ℕ → ℕ → ℕ
    into_at = reach_into durations from to A.counts A.costs starts processors

    -- an edge goes from a task
    source_below : (k : ℕ) → k < l → get_or from k 0 < m
    source_below k h = omega (arith, F.forward k h, F.within k h)

    module _ (P : ℕ) where
      -- as the definition has them
      pub message_is : (k : ℕ) → k < l → message_time_to I ps P (edge k) ≡ message P k
      unfolding instance_in message_time_to message_time message_at edge_held processor_of
      message_is k h = rw (H.processors_are (get_or from k 0) (source_below k h))

      pub reach_is : (k : ℕ) → k < l → reach I ps P (edge k) ≡ arrival P k
      unfolding reach_at edge_held
      reach_is k h = omega (arith, message_is k h, finish_is F H (get_or from k 0) (source_below k h))

      -- the messages of an edge are there after 0
      reach_some : (k : ℕ) → k < l → 0 < arrival P k
      unfolding reach_at
      reach_some k h = omega (arith, F.takes_time (get_or from k 0) (source_below k h))

      -- of edges, the one later at P is the better
      later_order : Order (later I ps P)
      unfolding later
      later_order = by_greatest_then_least (reach I ps P) (λ e. e.from)

      module _ (d e : Edge) (h : Holds (not (later I ps P d e))) where
        -- what is not later does not reach P later
        reach_most : reach I ps P d ≤ reach I ps P e
        unfolding later
        reach_most = go (le_or_lt (reach I ps P d) (reach I ps P e))
          where
            go : (reach I ps P d ≤ reach I ps P e) ⊎ (reach I ps P e < reach I ps P d) → reach I ps P d ≤ reach I ps P e
            go (inl k) = k
            go (inr k) =
                absurd (not_both (later I ps P d e) h
                (or_left (ltb (reach I ps P e) (reach I ps P d)) _ (lt→ltb (reach I ps P e) (reach I ps P d) k)))

        -- and if it reaches P as late, its predecessor is no lower
        tie_least : reach I ps P d ≡ reach I ps P e → e.from ≤ d.from
        unfolding later
        tie_least s = go (le_or_lt e.from d.from)
          where
            go : (e.from ≤ d.from) ⊎ (d.from < e.from) → e.from ≤ d.from
            go (inl k) = k
            go (inr k) =
                absurd (not_both (later I ps P d e) h (or_right (ltb (reach I ps P e) (reach I ps P d)) _
                (both (eqb (reach I ps P d) (reach I ps P e)) (ltb d.from e.from)
                (eq→eqb (reach I ps P d) (reach I ps P e) s) (lt→ltb d.from e.from k))))

      module _ (T : ℕ) where
        -- an edge to T reaches P as the definition has it
        into_is : (k : ℕ) → k < l → get_or to k 0 ≡ T → into_at T P k ≡ reach I ps P (edge k)
        unfolding reach_into
        into_is k h e = pick_yes (eqb (get_or to k 0) T) (arrival P k) 0 (eq→eqb (get_or to k 0) T e) ∙ sym (reach_is k h)

        -- where no messages are there after 0, no edge goes to T: the walk stops
        pub stops_there : most l (into_at T P) ≡ 0 → latest_into I ps T P ≡ none
        unfolding latest_into
        stops_there z = best_none (later I ps P) (into I T) (λ d i. none_there (edge_place F T d i))
          where
            none_there : {d : Edge} → (k : ℕ) × (k < l) × (edge k ≡ d) × (get_or to k 0 ≡ T) → ⊥
            none_there (k, b, e, q) = omega (arith, z, most_ge l (into_at T P) k b, into_is k b q, reach_is k b, reach_some k b)

        module _ (k : ℕ) (L : FirstMost 1024 l (into_at T P) k) (some-there : 0 < most l (into_at T P)) where
          -- the edge at place k goes to T
          first_to : get_or to k 0 ≡ T
          unfolding reach_into
          first_to =
              eqb→eq (get_or to k 0) T (pick_over (eqb (get_or to k 0) T) (arrival P k) (omega (arith, L.at_most some-there)))

          -- an edge into T that it is not later than is this edge
          no_other : (j : ℕ) → j < l → get_or to j 0 ≡ T → Holds (not (later I ps P (edge k) (edge j))) → k ≡ j
          unfolding edge_held
          no_other j h e low = go (le_or_lt k j) (le_or_lt j k)
            where
              b : k < l
              b = L.below some-there

              tie : reach I ps P (edge k) ≡ reach I ps P (edge j)
              tie = omega (
                arith,
                reach_most (edge k) (edge j) low,
                into_is k b first_to,
                into_is j h e,
                L.at_most some-there,
                most_ge l (into_at T P) j h,
              )

              go : (k ≤ j) ⊎ (j < k) → (j ≤ k) ⊎ (k < j) → k ≡ j
              go (inl x) (inl y) = omega arith
              go (inl x) (inr y) =
                  let same : get_or from k 0 ≡ get_or from j 0 = omega (arith, tie_least (edge k) (edge j) low tie, climb F k j x h) in
                  absurd (omega (arith, apart k j y h same, first_to, e))
              go (inr x) y =
                  absurd (omega (arith, L.first some-there j x, L.at_most some-there, into_is k b first_to, into_is j h e, tie))

          -- so it is the latest
          first_is : latest_into I ps T P ≡ some (edge k)
          unfolding latest_into
          first_is = go (best (later I ps P) (into I T)) (best_is (later I ps P) later_order (into I T))
            where
              there : edge k ∈ into I T
              there = edge_into F T k (L.below some-there) first_to

              go : (o : Option Edge) → Best (later I ps P) (into I T) o → o ≡ some (edge k)
              go o (nothing z) = absurd (z (edge k) there)
              go o (found d i low) =
                  let q = edge_place F T d i in
                  let e = no_other q.0 q.1 q.3 (rw q.2 (low (edge k) there)) in
                  ap some (sym (ap edge e ∙ q.2))

        -- where an edge goes to T, the walk goes back along the one that the arrays give
        pub goes_along : (back time : ℕ) → MovesBack durations from to A.counts A.costs starts processors l T P back time
            → 0 < most l (into_at T P)
            → (e : Edge) × (latest_into I ps T P ≡ some e) × (back ≡ e.from) × (back < T)
            × (time ≡ message_time_to I ps P e) × (time ≤ most_message_time)
        unfolding edge_held message_at
        goes_along back time M z =
            let k = M.edge in
            let b = M.is_first.below z in
            let g = M.goes z in (
              edge k,
              first_is k M.is_first z,
              g.0,
              omega (arith, g.0, F.forward k b, first_to k M.is_first z),
              g.1 ∙ sym (message_is k b),
              omega (arith, g.1, F.near k (get_or processors (get_or from k 0) 0) P b),
            )

    -- ---- the last task

    -- the first of the tasks that finish the latest by the arrays
    pub last_is : (r : ℕ) → FirstMost 0 m (λ T. get_or starts T 0 + get_or durations T 0) r → (r < m) × (last_task I ps ≡ some r)
    unfolding last_task
    last_is r L = (
      b,
      rw (sym (at r b))
          (best_first (λ S T. ltb (ends T) (ends S)) (by_greatest ends) 0 (upto (tasks I)) r (omega (arith, b, count)) unbeaten before),
    )
      where
        ends : ℕ → ℕ
        ends T = finish I (placement_of ps T)

        by : ℕ → ℕ
        by T = get_or starts T 0 + get_or durations T 0

        count : length (upto (tasks I)) ≡ m
        count = length-upto (tasks I) ∙ held_tasks F

        at : (T : ℕ) → T < m → get_or (upto (tasks I)) T 0 ≡ T
        at T h = upto_at (tasks I) T 0 (omega (arith, held_tasks F))

        -- task 0 takes time
        above : 0 < most m by
        above = omega (arith, F.takes_time 0 F.some_task, most_ge m by 0 F.some_task)

        b : r < m
        b = L.below above

        unbeaten : (k : ℕ) → k < length (upto (tasks I))
            → Holds (not (ltb (ends (get_or (upto (tasks I)) r 0)) (ends (get_or (upto (tasks I)) k 0))))
        unbeaten k h =
            let c : k < m = omega (arith, count) in
            rw (at r b, at k c) (fails (ltb (ends r) (ends k)) (λ t. absurd (omega (
              arith,
              ltb→lt (ends r) (ends k) t,
              finish_is F H r b,
              finish_is F H k c,
              L.at_most above,
              most_ge m by k c,
            ))))

        before : (k : ℕ) → k < r → Holds (ltb (ends (get_or (upto (tasks I)) k 0)) (ends (get_or (upto (tasks I)) r 0)))
        before k h =
            let c : k < m = omega (arith, b) in
            rw (at r b, at k c)
            (lt→ltb (ends k) (ends r) (omega (arith, finish_is F H r b, finish_is F H k c, L.at_most above, L.first above k h)))
