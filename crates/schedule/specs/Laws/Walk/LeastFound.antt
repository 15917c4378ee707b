-- The least walks of the planner's schedule, read off the arrays: from each task a walk takes what the arrays have, and none takes less.
-- A move of the arrays is one that a walk may make, and each of these is there. By induction on the walk, and on the task.
use Rattle.std.specs.Prelude.{◌≡◌, ◌⊎◌, List, ℕ, zero, suc, ◌+◌, ◌*◌, ◌-◌, ◌^◌, ◌≤◌, ◌<◌, T as Holds}
use Rattle.std.proofs.Common.{sym, ap, ◌∙◌, subst, inl, inr}
use Rattle.std.proofs.Math.Bool.{not}
use Rattle.std.proofs.Math.Option.{Option, none, some}
use Rattle.std.proofs.Math.Nat.{mul-le-mul_left}
use native.Mathlib.Omega.{arith}
use Rattle.std.proofs.Math.ListN.{get_or}
use Rattle.base.specs.Lists.{upto}
use Rattle.base.specs.Rows.{most}
use Rattle.base.specs.Laws.Tests.{le_or_lt}
use Rattle.base.specs.Laws.Lists.{filter_in, upto_in}
use Rattle.base.specs.Laws.Most.{most_ge, most_below}
use Rattle.job.specs.Job.{Edge}
use Rattle.job.specs.Write.{edge_held}
use Rattle.etf.specs.Instance.{Instance, tasks}
use Rattle.etf.specs.Schedule.{Placement, placement_of, finish, message_time_to, reach}
use Rattle.etf.specs.Rule.{planned}
use Rattle.etf.specs.Cover.{Back, busy, idle, latest_idle_tick, MayGoBack, Walk, stops, goes, FinishesLast}
use Rattle.etf.specs.Least.{least}
use Rattle.etf.proofs.LeastWalks.{one_has, none_less}
use Rattle.etf.specs.Topology.{entry}
use Rattle.etf.specs.Bounds.{most_message_time, most_chain}
use Rattle.etf.proofs.Laws.Idle.{idle_of}
use Rattle.etf.proofs.Laws.Back.{BackIs, nowhere, along, back_is}
use Rattle.etf.proofs.Laws.Placements.{into_of}
use Rattle.etf.proofs.Laws.Walk.{source}
use Rattle.etf.proofs.Laws.Planned.{on_processor, by_last, last_task_lem}
use Rattle.graph.specs.Graph.{edges_to}
use Rattle.schedule.specs.InArrays.{InArrays, instance_in, Plannable}
use Rattle.schedule.specs.Pass.{message_at}
use Rattle.schedule.specs.CoverPass.{has, ShortBefore, ShortTicks, HoldsPlan, SmallestOf, Move, sum_by_move, LeastSums}
use Rattle.schedule.specs.CoverPass.{AtMost, Nearest, Between, LeastOfLast, Scheduled, greatest_in}
use Rattle.schedule.specs.Laws.Held.{held_tasks, well, near_processors, edge_place, edge_into}
use Rattle.schedule.specs.Laws.Walk.DearestChain.{messages_fit}
use Rattle.schedule.specs.Laws.Walk.Sets.{in_empty}
use Rattle.schedule.specs.Laws.Walk.ShortTicks.{finish_is, no_short, set_idle, idle_set, latest_short}
use Rattle.schedule.specs.Laws.Walk.LatestEdge.{no_edge, message_is, reach_is}

-- one tick is the latest
same_tick : {a b : ℕ} {o : Option ℕ} → o ≡ some a → o ≡ some b → a ≡ b
same_tick {a} p q = ap (λ (o : Option ℕ). elim o [ none ↦ a | some t ↦ t ]) (sym p ∙ q)

some_not_none : {a : ℕ} {o : Option ℕ} → o ≡ some a → o ≡ none → ⊥
some_not_none {a} p q = absurd (omega (arith, ap {B = ℕ} (λ (o : Option ℕ). elim o [ none ↦ 0 | some t ↦ suc t ]) (sym p ∙ q)))

-- ---- what the pass over the edges asks

module _ {A : InArrays} (F : Plannable A) {starts processors : List ℕ}
    (S : Scheduled A.tasks A.durations starts processors A.processors) {latest sets : List ℕ}
    (R : ShortTicks A.tasks A.durations starts processors A.processors (edges_to A.to A.edges) latest sets) where
  -- a task's set is that of processors, or empty
  data SetAt (T : ℕ) : Type 0 where
    no_set : get_or sets T 0 ≡ 0 → SetAt T
    the_set : ShortBefore A.tasks A.durations starts processors A.processors (get_or starts T 0) (get_or latest T 0) (get_or sets T 0)
        → SetAt T

  set_at : (T : ℕ) → SetAt T
  set_at T = go (le_or_lt A.tasks T) (le_or_lt (edges_to A.to A.edges T) 0)
    where
      go : (A.tasks ≤ T) ⊎ (T < A.tasks) → (edges_to A.to A.edges T ≤ 0) ⊎ (0 < edges_to A.to A.edges T) → SetAt T
      go (inl b) p = no_set (R.past T b)
      go (inr b) (inl p) = no_set (R.none T b (omega arith))
      go (inr b) (inr p) = the_set (R.found T b p)

  pub few_bits : (T : ℕ) → get_or sets T 0 < 2 ^ 16
  few_bits T = go (set_at T)
    where
      go : SetAt T → get_or sets T 0 < 2 ^ 16
      go (no_set e) = omega (arith, e)
      go (the_set B) = B.few_bits

  within : (T P : ℕ) → Holds (has (get_or sets T 0) P) → P < A.processors
  within T P h = go (set_at T)
    where
      go : SetAt T → P < A.processors
      go (no_set e) = absurd (in_empty P (rw e at h))
      go (the_set B) = B.within P h

  -- no message to one of them costs more than the greatest cost
  pub at_most : {cost : ℕ} → cost ≡ greatest_in A.costs A.processors → (k : ℕ) → k < A.edges
      → AtMost A.durations A.from A.counts A.costs starts processors cost (get_or sets (get_or A.to k 0) 0) k
  unfolding message_at greatest_in
  at_most e k h = record {
    near = messages_fit F e k h;
    to_most = λ P m.
        let p = get_or processors (get_or A.from k 0) 0 in
        let n = A.processors in
        let b : p < n = S.on_processor (get_or A.from k 0) (omega (arith, F.forward k h, F.within k h)) in
        rw e (mul-le-mul_left (get_or A.counts k 0) (omega (
          arith,
          most_ge n (λ q. entry A.costs p q) P (within (get_or A.to k 0) P m),
          most_ge n (λ r. most n (λ q. entry A.costs r q)) p b,
        )));
  }

  -- and but to its own processor, where that is free, none costs less than the nearest does
  module _ {cost : ℕ} (cost-is : cost ≡ greatest_in A.costs A.processors) {nearest : List ℕ}
      (N : Nearest A.costs A.processors cost A.processors nearest) (k : ℕ) (h : k < A.edges) where
    abbrev n : ℕ
    n = A.processors

    abbrev count : ℕ
    count = get_or A.counts k 0

    -- the processor that it comes from
    abbrev own : ℕ
    own = get_or processors (get_or A.from k 0) 0

    own_there : own < n
    own_there = S.on_processor (get_or A.from k 0) (omega (arith, F.forward k h, F.within k h))

    pub between : Between A.durations A.from A.counts A.costs starts processors cost nearest (get_or sets (get_or A.to k 0) 0) k
    unfolding message_at
    between = record {
      at_most = at_most cost-is k h;
      has_nearest = N.has_least;
      nearest_most = (N.no_more own own_there).to_most;
      to_other = λ P m d. mul-le-mul_left count ((N.no_more own own_there).to_each P (within (get_or A.to k 0) P m) d);
    }

-- ---- what it finds

module _ {A : InArrays} (F : Plannable A) {starts processors : List ℕ} (H : HoldsPlan (instance_in A) A.tasks starts processors)
    {latest sets sums : List ℕ}
    (R : ShortTicks A.tasks A.durations starts processors A.processors (edges_to A.to A.edges) latest sets)
    (L : LeastSums A.durations A.from A.to A.counts A.costs starts processors latest sets A.edges sums) where
  abbrev I : Instance
  I = instance_in A

  abbrev ps : List Placement
  ps = planned I

  abbrev m : ℕ
  m = A.tasks

  -- the edge at place k
  abbrev edge : ℕ → Edge
  edge = edge_held A.from A.to A.counts

  -- what the arrays have of task T
  abbrev sum : ℕ → ℕ
  sum T = get_or sums T 0

  small : (T : ℕ) → T < m → T < 256
  small T b = omega (arith, F.few_tasks)

  there : (T : ℕ) → T < m → T < tasks I
  there T b = omega (arith, held_tasks F)

  -- no walk from task T takes more than T edges' messages
  walk_most : (T C : ℕ) → Walk I ps T C → C ≤ T * most_message_time
  unfolding message_time_to
  walk_most T C (stops _ z) = omega arith
  walk_most T C (goes _ b D s w) =
      let f = source I (well F) T b.edge s.is_into in
      let e = (into_of I T b.edge s.is_into).0 in
      let p = (idle_of I ps s.tick b.through s.is_idle).0 in
      let near = near_processors F b.edge e _ b.through (on_processor I (well F) b.edge.from f.1) p in
      omega (arith, walk_most b.edge.from D w, f.0, near)

  module _ (T : ℕ) (b : T < m) where
    -- ---- no tick is short

    -- the task's set is empty where no tick before its start is short, ..
    empty : latest_idle_tick I ps (placement_of ps T).start ≡ none → get_or sets T 0 ≡ 0
    empty z = go (le_or_lt (edges_to A.to A.edges T) 0) (le_or_lt (get_or sets T 0) 0)
      where
        go : (edges_to A.to A.edges T ≤ 0) ⊎ (0 < edges_to A.to A.edges T) → (get_or sets T 0 ≤ 0) ⊎ (0 < get_or sets T 0)
            → get_or sets T 0 ≡ 0
        go (inl p) q = R.none T b (omega arith)
        go (inr p) (inl q) = omega arith
        go (inr p) (inr q) = absurd (some_not_none (latest_short F H T b (R.found T b p) q) z)

    -- .. and there only: a task without predecessors has none short, as the walk stops there
    none_short : get_or sets T 0 ≡ 0 → latest_idle_tick I ps (placement_of ps T).start ≡ none
    none_short e = go (le_or_lt (edges_to A.to A.edges T) 0)
      where
        stopped : edges_to A.to A.edges T ≡ 0 → (o : Option Back) → BackIs I (well F) T o
            → latest_idle_tick I ps (placement_of ps T).start ≡ none
        stopped p o (nowhere z) = z
        stopped p o (along v s) = absurd (no_edge F T p v.edge s.is_into)

        go : (edges_to A.to A.edges T ≤ 0) ⊎ (0 < edges_to A.to A.edges T) → latest_idle_tick I ps (placement_of ps T).start ≡ none
        go (inl p) = stopped (omega arith) _ (back_is I (well F) T (there T b))
        go (inr p) = no_short F H T b (R.found T b p) e

    -- ---- a tick is short

    module _ (k : 0 < get_or sets T 0) where
      found : ShortBefore m A.durations starts processors A.processors (get_or starts T 0) (get_or latest T 0) (get_or sets T 0)
      found = go (le_or_lt (edges_to A.to A.edges T) 0)
        where
          go : (edges_to A.to A.edges T ≤ 0) ⊎ (0 < edges_to A.to A.edges T)
              → ShortBefore m A.durations starts processors A.processors (get_or starts T 0) (get_or latest T 0) (get_or sets T 0)
          go (inl p) = absurd (omega (arith, k, R.none T b (omega arith)))
          go (inr p) = R.found T b p

      abbrev Moved : ℕ × ℕ → Type 0
      Moved = Move A.durations A.from A.to A.counts A.costs starts processors latest sets A.edges T

      abbrev by : ℕ × ℕ → ℕ
      by = sum_by_move A.durations A.from A.to A.counts A.costs starts processors latest sets sums

      -- a move that a walk may make is one of the arrays
      moved : (v : Back) → MayGoBack I ps T v → (i : ℕ) × Moved (i, v.through) × (edge i ≡ v.edge)
      moved v s =
          let w = edge_place F T v.edge s.is_into in
          let P = v.through in
          let at : s.tick ≡ get_or latest T 0 - 1 = same_tick s.is_latest (latest_short F H T b found k) in
          let z = idle_of I ps s.tick P s.is_idle in
          let late : s.tick < reach I ps P (edge w.0) =
          subst (λ (e : Edge). s.tick < reach I ps P e) (sym w.2) s.reaches_after in (
            w.0,
            record {
              below = w.1;
              is_into = w.3;
              serves = (
                idle_set F H T b found k P z.0 (subst (λ (t : ℕ). Holds (not (busy I ps P t))) at z.1),
                omega (arith, late, at, reach_is F H P w.0 w.1, found.before k),
              );
            },
            w.2,
          )

      -- and a move of the arrays is one that a walk may make
      may : (i P : ℕ) → Moved (i, P) → MayGoBack I ps T (record { edge = edge i; through = P })
      unfolding idle
      may i P M =
          let z = set_idle F H T b found k P M.serves.0 in
          record {
            tick = get_or latest T 0 - 1;
            is_latest = latest_short F H T b found k;
            is_idle =
                filter_in (λ Q. not (busy I ps Q (get_or latest T 0 - 1))) (upto I.processors) P (upto_in I.processors P z.0) z.1;
            is_into = edge_into F T i M.below M.is_into;
            reaches_after = omega (arith, M.serves.1, reach_is F H P i M.below, found.before k);
          }

      -- what a walk takes by such a move
      by_is : (i P : ℕ) → i < A.edges → by (i, P) ≡ message_time_to I ps P (edge i) + sum (edge i).from
      unfolding sum_by_move edge_held
      by_is i P h = omega (arith, message_is F H P i h)

  -- none takes less
  pub none_less_from : (T C : ℕ) → T < m → Walk I ps T C → sum T ≤ C
  none_less_from T C b (stops _ z) = omega (arith, L.none_short T (small T b) (empty T b z))
  none_less_from T C b (goes _ v D s w) = go (le_or_lt (get_or sets T 0) 0) (λ h. none_less_from v.edge.from D h w)
    where
      go : (get_or sets T 0 ≤ 0) ⊎ (0 < get_or sets T 0) → (v.edge.from < m → sum v.edge.from ≤ D)
          → sum T ≤ message_time_to I ps v.through v.edge + D
      go (inl z) r = omega (arith, L.none_short T (small T b) (omega arith))
      go (inr k) r =
          let z = moved T b k v s in
          let low = (L.short T (small T b) k).to_each (z.0, v.through) z.1 in
          let is = subst (λ (e : Edge). sum T ≤ message_time_to I ps v.through e + sum e.from) z.2
          (omega (arith, low, by_is T b k z.0 v.through z.1.below)) in
          omega (arith, is, r (omega (arith, source I (well F) T v.edge s.is_into, held_tasks F)))

  -- and one takes it
  pub one_from : (j T : ℕ) → T < j → T < m → Walk I ps T (sum T)
  one_from zero T h b = absurd (omega arith)
  one_from (suc j) T h b = go (le_or_lt (get_or sets T 0) 0) (one_from j)
    where
      go : (get_or sets T 0 ≤ 0) ⊎ (0 < get_or sets T 0) → ((U : ℕ) → U < j → U < m → Walk I ps U (sum U)) → Walk I ps T (sum T)
      go (inl z) r =
          let e : get_or sets T 0 ≡ 0 = omega arith in
          subst (Walk I ps T) (sym (L.none_short T (small T b) e)) (stops T (none_short T b e))
      go (inr k) r = one S.is_one
        where
          S : SmallestOf (Moved T b k) (by T b k) most_chain (sum T)
          S = L.short T (small T b) k

          step : (i P : ℕ) → Moved T b k (i, P) → Walk I ps T (message_time_to I ps P (edge i) + sum (edge i).from)
          step i P M =
              let f = source I (well F) T (edge i) (edge_into F T i M.below M.is_into) in
              goes T (record { edge = edge i; through = P }) (sum (edge i).from) (may T b k i P M)
              (r (edge i).from (omega (arith, f.0)) (omega (arith, f.1, held_tasks F)))

          own : (o : Option Back) → BackIs I (well F) T o → sum T ≡ most_chain → Walk I ps T (sum T)
          own o (nowhere z) e = absurd (some_not_none (latest_short F H T b (found T b k) k) z)
          own o (along v s) e =
              let z = moved T b k v s in
              let w = step z.0 v.through z.1 in
              let low = S.to_each (z.0, v.through) z.1 in
              subst (Walk I ps T)
              (omega (arith, e, low, by_is T b k z.0 v.through z.1.below, walk_most T _ w, small T b)) w

          one : (sum T ≡ most_chain) ⊎ ((a : ℕ × ℕ) × Moved T b k a × (sum T ≡ by T b k a)) → Walk I ps T (sum T)
          one (inl e) = own _ (back_is I (well F) T (there T b)) e
          one (inr (a, M, e)) = subst (Walk I ps T) (sym (e ∙ by_is T b k a.0 a.1 M.below)) (step a.0 a.1 M)

  -- over the tasks that finish last it is the least cover
  pub least_is : {r : ℕ} → LeastOfLast m (λ T. get_or starts T 0 + get_or A.durations T 0) sum r → r ≡ least I
  least_is {r} Q = omega (arith, below, above)
    where
      ends : ℕ → ℕ
      ends T = get_or starts T 0 + get_or A.durations T 0

      most_is : most m ends ≡ finish I (placement_of ps (last_task_lem I (well F)).0)
      most_is =
          let t = last_task_lem I (well F) in
          let b : t.0 < m = omega (arith, t.2.below, held_tasks F) in
          omega (
            arith,
            finish_is F H t.0 b,
            most_ge m ends t.0 b,
            most_below m ends (finish I (placement_of ps t.0))
                (λ T c. omega (arith, finish_is F H T c, by_last I (well F) T (there T c), t.2.at_last)),
          )

      below : r ≤ least I
      below =
          let w = one_has I (well F) in
          let b : w.0 < m = omega (arith, w.1.below, held_tasks F) in
          let e : ends w.0 ≡ most m ends =
          omega (arith, most_is, finish_is F H w.0 b, w.1.at_last, (last_task_lem I (well F)).2.at_last) in
          omega (arith, Q.to_each w.0 b e, none_less_from w.0 (least I) b w.2)

      above : least I ≤ r
      above =
          let q = Q.is_one F.some_task in
          let T = q.0 in
          let f : FinishesLast I ps T = record {
            below = there T q.1;
            at_last = omega (arith, q.2, most_is, finish_is F H T q.1, (last_task_lem I (well F)).2.at_last);
          } in
          omega (arith, none_less I (well F) T (sum T) f (one_from (suc T) T (omega arith) q.1), q.3)
