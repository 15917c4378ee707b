-- The planner that keeps no table of arrivals follows the rule by the relation of the one that does: with a table that no array holds.
-- What is worked out for a ready task is what stands in that table, so a search, a placing and a move of the clock are the same.
use Rattle.std.specs.Prelude.{Bool, true, false, not, ◌⊎◌, ◌≡◌, leb, ltb, eqb, set}
use Rattle.std.proofs.Common.{inl, inr, subst, ◌∙◌, lt→ltb, get_or-set_same, get_or-set_other}
use Rattle.std.proofs.Math.Path.{refl, ap, sym}
use mathlib.Core.List.{List, [], ◌∷◌, replicate}
use Prim.Native.Nat.{ℕ, zero, suc, ◌+◌, ◌*◌, ◌-◌, ◌/◌, ◌%◌, ◌≤◌, ◌<◌, max}
use native.Mathlib.Omega.{arith}
use Rattle.std.proofs.Math.Dec.{eqb→eq, ltb→lt, T as Holds}
use Rattle.std.proofs.Math.ListN.{length, get_or, get_or-eq_default}
use Rattle.base.specs.Choice.{pick}
use Rattle.base.specs.Lists.{values, any}
use Rattle.base.specs.Rows.{most}
use Rattle.base.specs.Laws.Tests.{either, not_both, fails, both, second, pick_yes, pick_no, same_or_not, le_or_lt}
use Rattle.base.specs.Laws.Lists.{zeros_at}
use Rattle.base.specs.Laws.Values.{length-values, value_at}
use Rattle.base.specs.Laws.Most.{most_same, most_none}
use Rattle.graph.specs.Graph.{Runs, Listed, edges_to}
use Rattle.job.specs.Write.{edge_held}
use Rattle.etf.specs.Instance.{Instance, tasks, message_time}
use Rattle.etf.specs.Schedule.{Placement, placed, placement_of, finish, message_time_to, reach}
use Rattle.etf.specs.Rule.{State, run}
use Rattle.etf.specs.Bounds.{most_finish}
use Rattle.etf.proofs.Laws.Placements.{placement_head, placement_tail, placed_less, placement_of_lem}
use Rattle.etf.proofs.Laws.Turn.{Ready, ready_of}
use Rattle.schedule.specs.declared.planner.Pair.{Pair}
use Rattle.schedule.specs.declared.planner.Choice.{Choice}
use Rattle.schedule.specs.InArrays.{InArrays, instance_in, Plannable}
use Rattle.schedule.specs.Call.{Call, laid_out_call}
use Rattle.schedule.specs.Pass.{never, first_best, no_pair, row_by, can_start, searched, sent_to, placed_mark, Room}
use Rattle.schedule.specs.Pass.{Looked, table_arrival, Sent, ToPlace, Placed, inbox, Tables, tables, marked}
use Rattle.schedule.specs.SmallPass.{Sources, sources, Known, sent_at, sent_for, worked_out, Walkable, Told, Sheet}
use Rattle.schedule.specs.SmallPass.{ToEnter, Entered, SmallRoom, SmallRun}
use Rattle.schedule.specs.Laws.Held.{held_tasks, held_few, edges_there, edge_into, within}
use Rattle.schedule.specs.Laws.Planner.Simulation.{InStep, sends, reached}
use Rattle.schedule.specs.Laws.Planner.ReadOff.{ready_is}
use Rattle.schedule.specs.Laws.Planner.SearchSteps.{listed_below, row_by_same}
use Rattle.schedule.specs.Laws.Planner.EdgesOfTask.{first_edge, last_edge, last_most}
use Rattle.schedule.specs.Laws.Planner.Invariant.{Invariant, holds_first, holds_last, holds_moved, holds_placed, sound, finish_by}
use Rattle.schedule.specs.Laws.Planner.Invariant.{ran_on, moved_on, clock_small, more_rounds, chosen_below}
use Rattle.schedule.specs.Laws.Planner.Ends.{to_go, goes_down}
use Rattle.schedule.specs.Laws.Planner.Invariant.{task_small, finish_small, to_place, finish_is}

-- ---- the latest finishes, as the table's planner has them: a list of 256

abbrev latest_in : List ℕ → List ℕ
latest_in scratch = values (λ T. get_or scratch T 0) 0 256

latest_there : (scratch : List ℕ) (T : ℕ) → T < 256 → get_or (latest_in scratch) T 0 ≡ get_or scratch T 0
latest_there scratch T h = value_at (λ T. get_or scratch T 0) 0 256 T h

latest_past : (scratch : List ℕ) (T : ℕ) → 256 ≤ T → get_or (latest_in scratch) T 0 ≡ 0
latest_past scratch T h =
    get_or-eq_default (latest_in scratch) 0 (omega (arith, length-values (λ T. get_or scratch T 0) 0 256))

latest_size : (scratch : List ℕ) → length (latest_in scratch) ≡ 256
latest_size scratch = length-values (λ T. get_or scratch T 0) 0 256

-- ---- two searches that find the same

searched_same : (clock : ℕ) (waiting a b : List ℕ) (order : ℕ → ℕ) (row other : ℕ → List Pair) (i k : ℕ) (leader : Pair)
    → ((j : ℕ) → j < i + k → can_start clock waiting a (order j) ≡ can_start clock waiting b (order j))
    → ((j : ℕ) → j < i + k → Holds (can_start clock waiting b (order j)) → row (order j) ≡ other (order j))
    → searched clock waiting a order row i k leader ≡ searched clock waiting b order other i k leader
unfolding searched
searched_same clock waiting a b order row other i zero leader same rows = refl
searched_same clock waiting a b order row other i (suc k) leader same rows =
    rw (same i (omega arith))
    (go (can_start clock waiting b (order i)) (rows i (omega arith))
    (λ x. searched_same clock waiting a b order row other (suc i) k x (λ j h. same j (omega arith)) (λ j h. rows j (omega arith))))
  where
    go : (t : Bool) → (Holds t → row (order i) ≡ other (order i))
        → ((x : Pair) → searched clock waiting a order row (suc i) k x ≡ searched clock waiting b order other (suc i) k x)
        → searched clock waiting a order row (suc i) k (pick t (first_best leader (row (order i))) leader)
        ≡ searched clock waiting b order other (suc i) k (pick t (first_best leader (other (order i))) leader)
    go true e next = rw (e tt) (next (first_best leader (other (order i))))
    go false e next = next leader

-- ---- what a task would send to the table

module _ (a last f n : ℕ) (row to counts table : List ℕ) (size : length table ≡ 4096) (few : n ≤ 16)
    (low : (k : ℕ) → k < last → get_or to k 0 < 256) where
  -- no edge goes past the tasks
  none_past : (T : ℕ) → 256 ≤ T → (v : ℕ → ℕ) → most last (λ k. pick (sent_to to a T k) (v k) 0) ≡ 0
  unfolding sent_to
  none_past T h v =
      most_none last (λ k. pick (sent_to to a T k) (v k) 0)
      (λ k b. pick_no (sent_to to a T k) (v k) 0
      (fails (sent_to to a T k)
      (λ s. absurd (omega (arith, low k b, eqb→eq (get_or to k 0) T (second (leb a k) (eqb (get_or to k 0) T) s))))))

  -- what reaches task T on processor P
  abbrev sent : ℕ → ℕ → ℕ
  sent T P = most last (λ k. pick (sent_to to a T k) (f + get_or counts k 0 * get_or row P 0) 0)

  -- the table raised by it
  unfoldable entry_at : ℕ → ℕ
  entry_at x = max (get_or table x 0) (pick (ltb (x % 16) n) (sent (x / 16) (x % 16)) 0)

  abbrev raised : List ℕ
  raised = values entry_at 0 4096

  raised_size : length raised ≡ 4096
  raised_size = length-values entry_at 0 4096

  module _ (T P : ℕ) (p : P < 16) where
    abbrev x : ℕ
    x = 16 * T + P

    row_of_lem : x / 16 ≡ T
    row_of_lem = omega arith

    column_of : x % 16 ≡ P
    column_of = omega arith

    raised_at : P < n → get_or raised x 0 ≡ max (get_or table x 0) (sent T P)
    unfolding entry_at
    raised_at h = go (le_or_lt 4096 x)
      where
        go : (4096 ≤ x) ⊎ (x < 4096) → get_or raised x 0 ≡ max (get_or table x 0) (sent T P)
        go (inl q) =
            omega (
              arith,
              get_or-eq_default raised 0 {n = x} (omega (arith, raised_size)),
              get_or-eq_default table 0 {n = x} (omega (arith, size)),
              none_past T (omega arith) (λ k. f + get_or counts k 0 * get_or row P 0),
            )
        go (inr q) =
            value_at entry_at 0 4096 x q
            ∙ rw (row_of_lem, column_of, pick_yes (ltb P n) (sent T P) 0 (lt→ltb P n h))

    raised_spare : n ≤ P → get_or raised x 0 ≡ get_or table x 0
    unfolding entry_at
    raised_spare h = go (le_or_lt 4096 x)
      where
        go : (4096 ≤ x) ⊎ (x < 4096) → get_or raised x 0 ≡ get_or table x 0
        go (inl q) =
            omega (
              arith,
              get_or-eq_default raised 0 {n = x} (omega (arith, raised_size)),
              get_or-eq_default table 0 {n = x} (omega (arith, size)),
            )
        go (inr q) =
            value_at entry_at 0 4096 x q
            ∙ rw (row_of_lem, column_of, pick_no (ltb P n) (sent T P) 0 (fails (ltb P n) (λ t. absurd (omega (arith, ltb→lt P n t)))))
            (omega arith)

  -- who is told of a finish is sent messages, too
  sent_too : (waiting scratch : List ℕ) {waiting' scratch' : List ℕ} (t : ℕ) → t < 256
      → Told a last f to (set waiting t placed_mark) (set scratch (256 + t) f) waiting' scratch'
      → Sent a last f n row to counts (marked t (inbox table waiting (latest_in scratch))) (inbox raised waiting' (latest_in scratch'))
  sent_too waiting scratch {waiting'} {scratch'} t small W = record {
    arrivals_at = λ T P h. raised_at T P (omega arith) h;
    arrivals_spare = λ T P h p. raised_spare T P p h;
    waiting_at = W.waiting_at;
    latest_at = λ T. go T (le_or_lt 256 T);
  }
    where
      go : (T : ℕ) → (256 ≤ T) ⊎ (T < 256)
          → get_or (latest_in scratch') T 0 ≡ max (get_or (latest_in scratch) T 0) (most last (λ k. pick (sent_to to a T k) f 0))
      go T (inl h) = omega (arith, latest_past scratch' T h, latest_past scratch T h, none_past T h (λ k. f))
      go T (inr h) =
          omega (
            arith,
            latest_there scratch' T h,
            latest_there scratch T h,
            W.latest_at T h,
            get_or-set_other scratch (256 + t) T f 0 (λ q. absurd (omega arith)),
          )

-- ---- the invariant

-- the table of arrivals before anything is placed
abbrev no_table : List ℕ
no_table = replicate 4096 0

-- the plan so far and a table of arrivals keep the invariant of the planner that has one; place 256 + T of the scratch has the finish of
-- a placed task T, and the places past 512 are as they were
pub record Following (A : InArrays) (starts₀ processors₀ scratch₀ : List ℕ) (H : Sheet) (clock e low rounds : ℕ) : Type 0 where
  pub table : List ℕ
  pub inner : Invariant A starts₀ processors₀ no_table
      (tables H.starts H.processors H.busy (inbox table H.waiting (latest_in H.scratch))) clock e low rounds
  pub scratch_size : length H.scratch ≡ length scratch₀
  pub finish_at_lem : (T : ℕ) → Holds (placed inner.placements T)
      → get_or H.scratch (256 + T) 0 ≡ finish (instance_in A) (placement_of inner.placements T)
  pub rest : (x : ℕ) → 512 ≤ x → get_or H.scratch x 0 ≡ get_or scratch₀ x 0

module _ {A : InArrays} (F : Plannable A) {starts₀ processors₀ scratch₀ : List ℕ}
    (R : SmallRoom A.tasks starts₀ processors₀ scratch₀) where
  abbrev I : Instance
  I = instance_in A

  abbrev Holding : Sheet → ℕ → ℕ → ℕ → ℕ → Type 0
  Holding = Following A starts₀ processors₀ scratch₀

  abbrev sources_of : Sheet → Sources
  sources_of H = sources A.edges A.from A.to A.counts A.costs H.processors H.scratch

  table_room : Room A.tasks starts₀ processors₀ no_table
  table_room = record {
    for_starts = R.for_starts;
    for_processors = R.for_processors;
    for_arrivals = omega arith;
    zeros = λ x h. zeros_at 4096 x;
  }

  -- before the first round
  pub follows_first : {H : Sheet} → H.starts ≡ starts₀ → H.processors ≡ processors₀ → H.scratch ≡ scratch₀
      → length H.waiting ≡ 256 → ((T : ℕ) → T < 256 → get_or H.waiting T 0 ≡ edges_to A.to A.edges T)
      → length H.busy ≡ 16 → ((P : ℕ) → get_or H.busy P 0 ≡ 0) → Holding H 0 0 0 0
  unfolding run placed any
  follows_first {H} starts_are processors_are scratch_is waiting_size waiting-all busy_size busy-none =
      let first : Invariant A starts₀ processors₀ no_table
      (tables H.starts H.processors H.busy (inbox no_table H.waiting (latest_in H.scratch))) 0 0 0 0 =
      holds_first F table_room starts_are processors_are refl waiting_size waiting-all (latest_size H.scratch)
      (λ T. none_late T (le_or_lt 256 T)) busy_size busy-none in
      let none : first.placements ≡ [] = sym (ap (λ (st : State). st.placements) first.ran) in
      record {
        table = no_table;
        inner = first;
        scratch_size = ap length scratch_is;
        finish_at_lem = λ T h. absurd (subst (λ (ps : List Placement). Holds (placed ps T)) none h);
        rest = λ x h. ap (λ (s : List ℕ). get_or s x 0) scratch_is;
      }
    where
      none_late : (T : ℕ) → (256 ≤ T) ⊎ (T < 256) → get_or (latest_in H.scratch) T 0 ≡ 0
      none_late T (inl h) = latest_past H.scratch T h
      none_late T (inr h) = latest_there H.scratch T h ∙ (ap (λ (s : List ℕ). get_or s T 0) scratch_is ∙ R.zeros T (omega arith))

  module _ {H : Sheet} {clock e low rounds : ℕ} (Y : Holding H clock e low rounds) where
    abbrev S : Tables
    S = tables H.starts H.processors H.busy (inbox Y.table H.waiting (latest_in H.scratch))

    abbrev ps : List Placement
    ps = Y.inner.placements

    abbrev Q : InStep A clock ps S low e
    Q = Y.inner.in_step

    scratch_room : 512 ≤ length H.scratch
    scratch_room = omega (arith, Y.scratch_size, R.for_scratch)

    -- all tasks are placed
    pub follows_last : A.tasks ≤ low → SmallRun I starts₀ processors₀ scratch₀ e H.starts H.processors H.scratch
    unfolding laid_out_call
    follows_last h =
        let z = holds_last F table_room Y.inner h in
        record {
          last_is = ap (λ (c : Call ℕ). c.answer) z;
          starts_are = ap (λ (c : Call ℕ). c.starts) z;
          processors_are = ap (λ (c : Call ℕ). c.processors) z;
          rest = Y.rest;
        }

    pub clock_low : clock < never
    clock_low = clock_small F table_room Y.inner

    pub rounds_low : low < A.tasks → rounds < 2 * A.tasks
    rounds_low more = more_rounds F table_room Y.inner more

    -- a round brings down what is left to do
    pub goes_down_low : {H' : Sheet} {clock' e' low' : ℕ} → Holding H' clock' e' low' (rounds + 1) → low < A.tasks
        → to_go A.tasks H'.waiting clock' < to_go A.tasks H.waiting clock
    goes_down_low Y' more = goes_down F table_room Y.inner Y'.inner more

    -- ---- the look

    -- a task can start by the scratch as by the list of 256
    same_start : (T : ℕ) → T < 256 → can_start clock H.waiting H.scratch T ≡ can_start clock H.waiting (latest_in H.scratch) T
    unfolding can_start
    same_start T h = rw (latest_there H.scratch T h)

    module _ (T : ℕ) (below : T < A.tasks) (starts : Holds (can_start clock H.waiting (latest_in H.scratch) T)) where
      in_instance : T < tasks I
      in_instance = omega (arith, below, held_tasks F)

      ready_now : Ready I clock ps T
      ready_now = ready_of I clock ps T in_instance (subst Holds (ready_is F Q T in_instance) starts)

      -- the sender of an edge into it is placed
      sender : (k : ℕ) → k < A.edges → get_or A.to k 0 ≡ T → Holds (placed ps (get_or A.from k 0))
      unfolding edge_held
      sender k h q = (ready_now.waits (edge_held A.from A.to A.counts k) (edge_into F T k h q)).0

      -- and what is written down of it is known
      known : (k : ℕ) → k < A.edges → get_or A.to k 0 ≡ T → Known A.from A.counts A.costs H.processors H.scratch k
      unfolding instance_in
      known k h q =
          let s = get_or A.from k 0 in
          let p = sender k h q in
          let at = placement_of_lem ps s p in
          let on : get_or H.processors s 0 < A.processors =
          omega (arith, Q.processor_at_lem s p, ((sound F table_room Y.inner).in_range_lem (placement_of ps s) at.0).1) in
          let low : s < A.tasks = omega (arith, F.forward k h, F.within k h) in
          record {
            has_from = omega (arith, (edges_there F).0);
            has_count = omega (arith, (edges_there F).2);
            has_processor = omega (arith, low, R.for_processors, Y.inner.untouched.processors_size);
            has_finish = omega (arith, low, F.few_tasks, scratch_room);
            on_processor = omega (arith, on, F.few_processors);
            row_size = F.row_size (get_or H.processors s 0) (omega (arith, on, F.few_processors));
            in_time = omega (arith, Y.finish_at_lem s p, finish_by F table_room Y.inner (placement_of ps s) at.0);
            near = λ P. F.near k (get_or H.processors s 0) P h;
          }

      -- what is worked out stands in the table
      same_arrival : (P : ℕ) → P < A.processors → worked_out (sources_of H) T P ≡ get_or Y.table (16 * T + P) 0
      unfolding worked_out sent_for sent_at reached edge_held message_time_to message_time instance_in
      same_arrival P b =
          most_same A.edges (sent_for (sources_of H) T P) (reached A ps T P) (λ k h. go k h (either (eqb (get_or A.to k 0) T)))
          ∙ sym (Q.arrival_at T P in_instance b)
        where
          go : (k : ℕ) → k < A.edges → Holds (eqb (get_or A.to k 0) T) ⊎ Holds (not (eqb (get_or A.to k 0) T))
              → sent_for (sources_of H) T P k ≡ reached A ps T P k
          go k h (inl t) =
              let s = get_or A.from k 0 in
              let q = eqb→eq (get_or A.to k 0) T t in
              let p = sender k h q in
              pick_yes (eqb (get_or A.to k 0) T) (sent_at (sources_of H) P k) 0 t
              ∙ (rw (Y.finish_at_lem s p, Q.processor_at_lem s p) refl
              ∙ sym (pick_yes (sends A.from A.to ps T k) (reach I ps P (edge_held A.from A.to A.counts k)) 0
              (both (placed ps s) (eqb (get_or A.to k 0) T) p t)))
          go k h (inr t) =
              pick_no (eqb (get_or A.to k 0) T) (sent_at (sources_of H) P k) 0 t
              ∙ sym (pick_no (sends A.from A.to ps T k) (reach I ps P (edge_held A.from A.to A.counts k)) 0
              (fails (sends A.from A.to ps T k)
              (λ s. not_both (eqb (get_or A.to k 0) T) t (second (placed ps (get_or A.from k 0)) (eqb (get_or A.to k 0) T) s))))

    -- the edges into a task that can start can be gone through
    pub to_look : {first before next : List ℕ} → Listed A.to A.edges first before next
        → (T : ℕ) → T < A.tasks → Holds (can_start clock H.waiting H.scratch T) → Walkable (sources_of H) next T (get_or first T 0)
    to_look L T below starts =
        let few : T < 256 = omega (arith, below, F.few_tasks) in
        record {
          few_edges = F.few_edges;
          has_next = omega (arith, L.next_size, F.few_edges);
          begins = L.first_at T few;
          goes_on = L.next_at;
          known = known T below (subst Holds (same_start T few) starts);
        }

    module _ {r : Choice} (L : Looked clock low A.tasks A.processors A.order (worked_out (sources_of H)) H.waiting H.scratch H.busy r) where
      -- it is the look of the planner that has the table
      looked : low ≤ A.tasks
          → Looked clock low A.tasks A.processors A.order (table_arrival Y.table) H.waiting (latest_in H.scratch) H.busy r
      looked most-low = record {
        free = L.free;
        count = L.count;
        next = L.next;
        listed = L.listed;
        found = L.found ∙ searched_same clock H.waiting H.scratch (latest_in H.scratch) A.order
            (λ T. row_by clock (worked_out (sources_of H) T) L.free L.count T)
            (λ T. row_by clock (table_arrival Y.table T) L.free L.count T)
            low (A.tasks - low) no_pair
            (λ j h. same_start (A.order j) (omega (arith, in_order j (omega arith), F.few_tasks)))
            (λ j h s. row_same (A.order j) (in_order j (omega arith)) s);
      }
        where
          in_order : (j : ℕ) → j < A.tasks → A.order j < A.tasks
          in_order j h = F.ordered.within j h

          row_same : (T : ℕ) → T < A.tasks → Holds (can_start clock H.waiting (latest_in H.scratch) T)
              → row_by clock (worked_out (sources_of H) T) L.free L.count T ≡ row_by clock (table_arrival Y.table T) L.free L.count T
          row_same T b s =
              row_by_same clock (worked_out (sources_of H) T) (table_arrival Y.table T) L.free L.count T
              (λ i h. same_arrival T b s (get_or L.free i 0)
              (listed_below H.busy A.processors clock L.free L.count L.listed i h))

      module _ (more : low < A.tasks) where
        abbrev table_look : Looked clock low A.tasks A.processors A.order (table_arrival Y.table) H.waiting (latest_in H.scratch) H.busy r
        table_look = looked (omega arith)

        -- the choice starts too late: the clock moves
        pub follows_moved : r.next < r.pair.start → Holding H r.next e low (rounds + 1)
        follows_moved h =
            let moved = holds_moved F table_room Y.inner more table_look h in
            let same : moved.placements ≡ ps =
            ap (λ (st : State). st.placements) (sym moved.ran ∙ moved_on F table_room Y.inner more table_look h) in
            record {
              table = Y.table;
              inner = moved;
              scratch_size = Y.scratch_size;
              finish_at_lem = λ T.
                  subst (λ (qs : List Placement). Holds (placed qs T) → get_or H.scratch (256 + T) 0 ≡ finish I (placement_of qs T))
                  (sym same) (Y.finish_at_lem T);
              rest = Y.rest;
            }

        -- it is placed
        module _ (h : r.pair.start ≤ r.next) where
          abbrev pair : Pair
          pair = r.pair

          abbrev u : Placement
          u = record { task = pair.task; processor = pair.processor; start = pair.start }

          pub task_low : pair.task < 256
          task_low = task_small F table_room Y.inner more table_look h

          pub finish_low : pair.start + get_or A.durations pair.task 0 ≤ most_finish
          finish_low = finish_small F table_room Y.inner more table_look h

          module _ {runs : List ℕ} (E : Runs A.from A.tasks A.edges runs) {f : ℕ}
              (f-is : f ≡ pair.start + get_or A.durations pair.task 0) where
            abbrev its_first_edge : ℕ
            its_first_edge = first_edge runs pair.task

            abbrev its_last_edge : ℕ
            its_last_edge = last_edge runs pair.task

            abbrev row : List ℕ
            row = get_or A.costs pair.processor []

            asked : ToPlace pair f its_first_edge its_last_edge low A.tasks A.processors row A.to A.counts S
            asked = to_place F table_room Y.inner more table_look h E f-is

            -- what placing asks
            pub to_enter : ToEnter pair its_first_edge its_last_edge low A.tasks A.to H
            to_enter = record {
              has_start = asked.has_start;
              has_processor = asked.has_processor;
              task_below = asked.task_below;
              processor_below = asked.processor_below;
              low_most = asked.low_most;
              few_tasks = asked.few_tasks;
              busy_size = asked.busy_size;
              telling = record {
                rises = asked.sending.rises;
                has_to = asked.sending.has_to;
                enough = asked.sending.enough;
                waiting_size = asked.sending.waiting_size;
                scratch_room = scratch_room;
              };
            }

            -- and what it leaves
            module _ {H' : Sheet} {low' : ℕ} (B : Entered pair f its_first_edge its_last_edge low A.tasks A.order A.to H H' low') where
              ends : (k : ℕ) → k < its_last_edge → get_or A.to k 0 < 256
              ends k b = omega (arith, (within F k (omega (arith, last_most E pair.task task_below))).1, held_few F)
                where
                  task_below : pair.task < A.tasks
                  task_below = chosen_below F table_room Y.inner more table_look h

              table_size : length Y.table ≡ 4096
              table_size = Y.inner.untouched.arrivals_size

              abbrev table' : List ℕ
              table' = raised its_first_edge its_last_edge f A.processors row A.to A.counts Y.table table_size F.few_processors ends

              in_table : Placed pair f its_first_edge its_last_edge low A.tasks A.processors A.order row A.to A.counts S
                  (tables H'.starts H'.processors H'.busy (inbox table' H'.waiting (latest_in H'.scratch))) low'
              in_table = record {
                starts_are = B.starts_are;
                processors_are = B.processors_are;
                busy_are = B.busy_are;
                sent = sent_too its_first_edge its_last_edge f A.processors row A.to A.counts Y.table table_size F.few_processors
                    ends H.waiting H.scratch pair.task task_low B.told;
                skipped = B.skipped;
              }

              pub follows_placed : {e' : ℕ} → e' ≡ max e f → length H'.waiting ≡ length H.waiting
                  → length H'.scratch ≡ length H.scratch → Holding H' clock e' low' (rounds + 1)
              follows_placed e-is same-waiting same-scratch =
                  let put = holds_placed F table_room Y.inner more table_look h E f-is in_table e-is
                  (raised_size its_first_edge its_last_edge f A.processors row A.to A.counts Y.table table_size F.few_processors ends
                  ∙ sym table_size)
                  same-waiting (latest_size H'.scratch ∙ sym (latest_size H.scratch)) in
                  let new : put.placements ≡ u ∷ ps =
                  ap (λ (st : State). st.placements) (sym put.ran ∙ ran_on F table_room Y.inner more table_look h) in
                  record {
                    table = table';
                    inner = put;
                    scratch_size = same-scratch ∙ Y.scratch_size;
                    finish_at_lem = λ T.
                        subst (λ (qs : List Placement). Holds (placed qs T) → get_or H'.scratch (256 + T) 0 ≡ finish I (placement_of qs T))
                        (sym new) (λ t. at T t (same_or_not u.task T));
                    rest = λ x b. B.told.kept x (omega arith)
                        ∙ (get_or-set_other H.scratch (256 + pair.task) x f 0 (λ q. absurd (omega (arith, task_low))) ∙ Y.rest x b);
                  }
                where
                  at : (T : ℕ) → Holds (placed (u ∷ ps) T) → (u.task ≡ T) ⊎ (u.task ≡ T → ⊥)
                      → get_or H'.scratch (256 + T) 0 ≡ finish I (placement_of (u ∷ ps) T)
                  at T t (inl d) =
                      B.told.kept (256 + T) (omega arith)
                      ∙ (rw (sym d) (get_or-set_same H.scratch (256 + pair.task) f 0 (omega (arith, task_low, scratch_room)))
                      ∙ (finish_is F table_room Y.inner more table_look h f-is ∙ ap (finish I) (sym (placement_head u ps T d))))
                  at T t (inr d) =
                      B.told.kept (256 + T) (omega arith)
                      ∙ (get_or-set_other H.scratch (256 + pair.task) (256 + T) f 0 (λ q. d (omega arith))
                      ∙ (Y.finish_at_lem T (placed_less u ps T d t) ∙ ap (finish I) (sym (placement_tail u ps T d))))
