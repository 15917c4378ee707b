-- A placing keeps the planner's arrays in step with the rule: edge by edge, what the task sends raises the greatest and lowers the sums.
use Rattle.std.specs.Prelude.{Bool, true, not, ◌⊎◌, ◌≡◌, List, ◌∷◌, ℕ, ◌+◌, ◌*◌, ◌≤◌, ◌<◌, max, leb, eqb, length, set}
use Rattle.std.proofs.Math.Bool.{false, and-true, and-false}
use Rattle.std.proofs.Math.Logic.{inl, inr}
use Rattle.std.proofs.Math.Path.{refl, ap, sym}
use Rattle.std.proofs.Common.{subst, ◌∙◌, arith, length-set, get_or-set_same, get_or-set_other}
use Rattle.std.proofs.Math.Dec.{eqb→eq, T as Holds}
use Rattle.std.proofs.Math.ListN.{get_or}
use Rattle.base.specs.Choice.{pick}
use Rattle.base.specs.Lists.{◌∈◌, here, there, any, greatest}
use Rattle.base.specs.Rows.{sum, one_if, most}
use Rattle.base.specs.Laws.Tests.{either, not_both, fails, second, pick_no, is_true, is_false, same_or_not, le_or_lt}
use Rattle.base.specs.Laws.Lists.{for_cons}
use Rattle.base.specs.Laws.Sums.{sum_same, sum_add, one_if_no}
use Rattle.base.specs.Laws.Most.{most_same, most_max, most_none, until, most_until, sum_until, sum_none, count_most}
use Rattle.graph.specs.Graph.{Runs}
use Rattle.job.specs.Write.{edge_held}
use Rattle.etf.specs.Instance.{Instance, tasks, message_time}
use Rattle.etf.specs.Schedule.{Placement, placed, placement_of, finish, message_time_to, reach, last_finish}
use Rattle.etf.proofs.Laws.Placements.{placement_head, placement_tail, placed_head, placed_more, placed_less, placement_of_lem}
use Rattle.etf.proofs.Laws.Turn.{free_of, NewPlacement}
use Rattle.etf.proofs.Laws.Sound.{Sound}
use Rattle.schedule.specs.InArrays.{InArrays, instance_in, Plannable}
use Rattle.schedule.specs.Pass.{sent_to, Sent, placed_mark, Skipped, Inbox, Tables, tables, marked}
use Rattle.schedule.specs.Laws.Held.{held_tasks, within, edge_into}
use Rattle.schedule.specs.Laws.Planner.Simulation.{sends, awaits, reached, finished_by, awaited, InStep, Untouched}
use Rattle.schedule.specs.Laws.Planner.EdgesOfTask.{first_edge, last_edge, last_most, sent_of, sent_ours, until_ours, until_others}

module _ {A : InArrays} (F : Plannable A) {cm : ℕ} {ps : List Placement} {u : Placement} (K : NewPlacement (instance_in A) cm ps u) where
  -- the instance, and the arrays by their names
  abbrev I : Instance
  I = instance_in A

  abbrev from : List ℕ
  from = A.from

  abbrev to : List ℕ
  to = A.to

  abbrev counts : List ℕ
  counts = A.counts

  abbrev l : ℕ
  l = A.edges

  -- ---- what is placed afterwards: what was, and the new task

  fresh : ¬ Holds (placed ps u.task)
  fresh h = not_both (placed ps u.task) K.task_ready.fresh h

  new_placed : (X : ℕ) → X ≡ u.task → placed (u ∷ ps) X ≡ true
  new_placed X e = is_true (placed (u ∷ ps) X) (subst (λ (Y : ℕ). Holds (placed (u ∷ ps) Y)) (sym e) (placed_head u ps))

  not_before : (X : ℕ) → X ≡ u.task → placed ps X ≡ false
  not_before X e = is_false (placed ps X) (λ h. fresh (subst (λ (Y : ℕ). Holds (placed ps Y)) e h))

  as_before : (X : ℕ) → ¬ (X ≡ u.task) → placed (u ∷ ps) X ≡ placed ps X
  unfolding placed any
  as_before X ne = rw (is_false (eqb u.task X) (λ h. ne (sym (eqb→eq u.task X h))))

  -- a task that is still not placed is another one, and was not placed
  other : (T : ℕ) → Holds (not (placed (u ∷ ps) T)) → ¬ (T ≡ u.task)
  other T t e = not_both (placed (u ∷ ps) T) t (subst (λ (X : ℕ). Holds (placed (u ∷ ps) X)) (sym e) (placed_head u ps))

  open_before : (T : ℕ) → Holds (not (placed (u ∷ ps) T)) → Holds (not (placed ps T))
  open_before T t = fails (placed ps T) (λ h. not_both (placed (u ∷ ps) T) t (placed_more u ps T h))

  -- a list in which the new task's entry is written
  at_task : (a : List ℕ) (x : ℕ) (g : Placement → ℕ) → u.task < length a → g u ≡ x
      → ((T : ℕ) → Holds (placed ps T) → get_or a T 0 ≡ g (placement_of ps T))
      → (T : ℕ) → Holds (placed (u ∷ ps) T) → get_or (set a u.task x) T 0 ≡ g (placement_of (u ∷ ps) T)
  at_task a x g h gx q T t = go (same_or_not u.task T)
    where
      go : (u.task ≡ T) ⊎ (u.task ≡ T → ⊥) → get_or (set a u.task x) T 0 ≡ g (placement_of (u ∷ ps) T)
      go (inl d) =
          ap (λ (X : ℕ). get_or (set a u.task x) X 0) (sym d)
          ∙ (get_or-set_same a u.task x 0 h ∙ (sym gx ∙ ap g (sym (placement_head u ps T d))))
      go (inr d) = get_or-set_other a u.task T x 0 (λ e. d (sym e)) ∙ (q T (placed_less u ps T d t) ∙ ap g (sym (placement_tail u ps T d)))

  module _ {runs : List ℕ} (R : Runs from A.tasks l runs) where
    below : u.task < A.tasks
    below = omega (arith, K.task_ready.below, held_tasks F)

    abbrev last : ℕ
    last = last_edge runs u.task

    -- edge k is the new task's, and goes to T
    abbrev sent : ℕ → ℕ → Bool
    sent T k = sent_to to (first_edge runs u.task) T k

    -- ---- the greatest

    module _ (T : ℕ) (v v' x : ℕ → ℕ)
        (new : (k : ℕ) → get_or from k 0 ≡ u.task → v' k ≡ x k) (old : (k : ℕ) → ¬ (get_or from k 0 ≡ u.task) → v' k ≡ v k) where
      abbrev from_placed : List Placement → (ℕ → ℕ) → ℕ → ℕ
      from_placed qs w k = pick (sends from to qs T k) (w k) 0

      abbrev along : ℕ → ℕ
      along k = pick (sent T k) (x k) 0

      at_edge : (k : ℕ) → k < l → max (from_placed ps v k) (until last along k) ≡ from_placed (u ∷ ps) v' k
      at_edge k h = go (same_or_not (get_or from k 0) u.task)
        where
          go : (get_or from k 0 ≡ u.task) ⊎ (get_or from k 0 ≡ u.task → ⊥)
              → max (from_placed ps v k) (until last along k) ≡ from_placed (u ∷ ps) v' k
          go (inl e) =
              let a : from_placed ps v k ≡ 0 = rw (not_before (get_or from k 0) e) in
              let b : until last along k ≡ pick (eqb (get_or to k 0) T) (x k) 0 =
              until_ours R u.task below to T k along h e ∙ ap (λ q. pick q (x k) 0) (sent_ours R u.task below to T k h e) in
              let d : from_placed (u ∷ ps) v' k ≡ pick (eqb (get_or to k 0) T) (x k) 0 = rw (new_placed (get_or from k 0) e, new k e) in
              omega (arith, a, b, d)
          go (inr ne) =
              let a : until last along k ≡ 0 = until_others R u.task below to T k along ne (pick_no (sent T k) (x k) 0) in
              let b : from_placed (u ∷ ps) v' k ≡ from_placed ps v k = rw (as_before (get_or from k 0) ne, old k ne) in
              omega (arith, a, b)

      raised : max (most l (from_placed ps v)) (most last along) ≡ most l (from_placed (u ∷ ps) v')
      raised =
          ap (max (most l (from_placed ps v))) (most_until l last along (last_most R u.task below))
          ∙ (sym (most_max l (from_placed ps v) (until last along))
          ∙ most_same l (λ k. max (from_placed ps v k) (until last along k)) (from_placed (u ∷ ps) v') at_edge)

    -- ---- the sums

    -- an edge from a task that is not placed is one from another such task, or from the new one
    await_at : (T k : ℕ) → k < l → awaited from to ps T k ≡ awaited from to (u ∷ ps) T k + until last (λ i. one_if (sent T i)) k
    unfolding awaited
    await_at T k h = go (same_or_not (get_or from k 0) u.task)
      where
        go : (get_or from k 0 ≡ u.task) ⊎ (get_or from k 0 ≡ u.task → ⊥)
            → awaited from to ps T k ≡ awaited from to (u ∷ ps) T k + until last (λ i. one_if (sent T i)) k
        go (inl e) =
            let a : awaited from to ps T k ≡ one_if (eqb (get_or to k 0) T) =
            rw (not_before (get_or from k 0) e) (ap one_if (and-true (eqb (get_or to k 0) T))) in
            let b : until last (λ i. one_if (sent T i)) k ≡ one_if (eqb (get_or to k 0) T) =
            until_ours R u.task below to T k (λ i. one_if (sent T i)) h e ∙ ap one_if (sent_ours R u.task below to T k h e) in
            let d : awaited from to (u ∷ ps) T k ≡ 0 =
            rw (new_placed (get_or from k 0) e) (ap one_if (and-false (eqb (get_or to k 0) T)) ∙ one_if_no false tt) in
            omega (arith, a, b, d)
        go (inr ne) =
            let a : until last (λ i. one_if (sent T i)) k ≡ 0 =
            until_others R u.task below to T k (λ i. one_if (sent T i)) ne (one_if_no (sent T k)) in
            let b : awaited from to (u ∷ ps) T k ≡ awaited from to ps T k = rw (as_before (get_or from k 0) ne) in
            omega (arith, a, b)

    sum_split : (T : ℕ) → sum l (awaited from to ps T) ≡ sum l (awaited from to (u ∷ ps) T) + sum last (λ k. one_if (sent T k))
    sum_split T =
        sum_same l (awaited from to ps T) (λ k. awaited from to (u ∷ ps) T k + until last (λ i. one_if (sent T i)) k) (await_at T)
        ∙ sum_add l (awaited from to (u ∷ ps) T) (until last (λ i. one_if (sent T i)))
        ∙ ap (λ (x : ℕ). sum l (awaited from to (u ∷ ps) T) + x)
        (sym (sum_until l last (λ k. one_if (sent T k)) (last_most R u.task below)))

    module _ (N : Sound I cm ps) where
      -- no edge of the new task goes to a task that is placed, or past the tasks
      none_sent : (T : ℕ) → Holds (placed (u ∷ ps) T) ⊎ (tasks I ≤ T) → sum last (λ k. one_if (sent T k)) ≡ 0
      unfolding edge_held
      none_sent T c =
          sum_none last (λ k. one_if (sent T k))
          (λ k h. one_if_no (sent T k) (fails (sent T k) (λ s. no c k h (sent_of R u.task below to T k h s))))
        where
          no : Holds (placed (u ∷ ps) T) ⊎ (tasks I ≤ T) → (k : ℕ) → k < last → (get_or from k 0 ≡ u.task) × (get_or to k 0 ≡ T) → ⊥
          no (inr q) k h e = absurd (omega (arith, (within F k (omega (arith, last_most R u.task below))).1, e.1))
          no (inl q) k h e =
              let b : k < l = omega (arith, last_most R u.task below) in
              let ne : ¬ (u.task ≡ T) = (λ g. absurd (omega (arith, (within F k b).0, e.0, e.1, g))) in
              let t = placement_of_lem ps T (placed_less u ps T ne q) in
              let o = N.opened (placement_of ps T) t.0 (edge_held from to counts k)
              (edge_into F (placement_of ps T).task k b (e.1 ∙ sym t.1)) in
              fresh (subst (λ (X : ℕ). Holds (placed ps X)) e.0 o)

      -- what is sent along is no more than what was waited for
      pub enough : (waiting : List ℕ) (T : ℕ)
          → (T < tasks I → Holds (not (placed ps T)) → get_or waiting T 0 ≡ sum l (awaited from to ps T))
          → sum last (λ k. one_if (sent T k)) ≤ get_or (set waiting u.task placed_mark) T 0
      enough waiting T q = go (either (placed (u ∷ ps) T)) (le_or_lt (tasks I) T)
        where
          go : Holds (placed (u ∷ ps) T) ⊎ Holds (not (placed (u ∷ ps) T)) → (tasks I ≤ T) ⊎ (T < tasks I)
              → sum last (λ k. one_if (sent T k)) ≤ get_or (set waiting u.task placed_mark) T 0
          go (inl t) b = omega (arith, none_sent T (inl t))
          go (inr t) (inl b) = omega (arith, none_sent T (inr b))
          go (inr t) (inr b) =
              omega (arith, get_or-set_other waiting u.task T placed_mark 0 (other T t), q b (open_before T t), sum_split T)

      -- ---- the arrays after the placing

      module _ {S : Tables} {low e : ℕ} (Q : InStep A cm ps S low e) {row : List ℕ} {B : Inbox} {low' : ℕ}
          (costed : (P : ℕ) → P < I.processors → get_or row P 0 ≡ I.cost u.processor P)
          (room-starts : u.task < length S.starts) (room-processors : u.task < length S.processors)
          (room-waiting : u.task < length S.inbox.waiting) (room-busy : u.processor < length S.busy)
          (D : Sent (first_edge runs u.task) last (finish I u) I.processors row to counts (marked u.task S.inbox) B)
          (Z : Skipped B.waiting A.order low A.tasks low') where
        abbrev busy : List ℕ
        busy = S.busy

        -- until when each processor is busy afterwards
        abbrev busy' : List ℕ
        busy' = set busy u.processor (finish I u)

        abbrev waiting : List ℕ
        waiting = S.inbox.waiting

        arrival_at' : (T P : ℕ) → T < tasks I → P < I.processors → get_or B.arrivals (16 * T + P) 0 ≡ most l (reached A (u ∷ ps) T P)
        unfolding reached edge_held message_time_to message_time
        arrival_at' T P b c =
            let r = raised T (λ k. reach I ps P (edge_held from to counts k)) (λ k. reach I (u ∷ ps) P (edge_held from to counts k))
            (λ k. finish I u + get_or counts k 0 * get_or row P 0)
            (λ k d. rw (placement_head u ps (get_or from k 0) (sym d), costed P c))
            (λ k d. rw (placement_tail u ps (get_or from k 0) (λ g. d (sym g)))) in
            D.arrivals_at T P c ∙ (rw (Q.arrival_at T P b c) r)

        latest_at' : (T : ℕ) → T < tasks I → get_or B.latest T 0 ≡ most l (finished_by A (u ∷ ps) T)
        unfolding finished_by
        latest_at' T b =
            let r = raised T (λ k. finish I (placement_of ps (get_or from k 0))) (λ k. finish I (placement_of (u ∷ ps) (get_or from k 0)))
            (λ k. finish I u) (λ k d. ap (finish I) (placement_head u ps (get_or from k 0) (sym d)))
            (λ k d. ap (finish I) (placement_tail u ps (get_or from k 0) (λ g. d (sym g)))) in
            D.latest_at T ∙ (rw (Q.latest_at T b) r)

        waiting_placed' : (T : ℕ) → Holds (placed (u ∷ ps) T) → get_or B.waiting T 0 ≡ placed_mark
        waiting_placed' T t =
            let a = at_task waiting placed_mark (λ v. placed_mark) room-waiting refl Q.waiting_placed T t in
            omega (arith, D.waiting_at T, none_sent T (inl t), a)

        waiting_open' : (T : ℕ) → T < tasks I → Holds (not (placed (u ∷ ps) T))
            → get_or B.waiting T 0 ≡ sum l (awaited from to (u ∷ ps) T)
        waiting_open' T b t =
            omega (
              arith,
              D.waiting_at T,
              get_or-set_other waiting u.task T placed_mark 0 (other T t),
              Q.waiting_open T b (open_before T t),
              sum_split T,
            )

        -- no sum of waits is the mark
        few_awaited : (T : ℕ) → sum l (awaited from to (u ∷ ps) T) ≤ 1024
        unfolding awaited
        few_awaited T = omega (arith, count_most l (awaits from to (u ∷ ps) T), F.few_edges)

        pub progress : InStep A cm (u ∷ ps)
            (tables (set S.starts u.task u.start) (set S.processors u.task u.processor) busy' B)
            low' (max e (finish I u))
        unfolding last_finish greatest
        progress = record {
          start_at_lem = at_task S.starts u.start (λ v. v.start) room-starts refl Q.start_at_lem;
          processor_at_lem = at_task S.processors u.processor (λ v. v.processor) room-processors refl Q.processor_at_lem;
          arrival_at = arrival_at';
          latest_at = latest_at';
          waiting_placed = waiting_placed';
          waiting_open = waiting_open';
          busy_last = for_cons (λ v. (finish I v ≤ cm) ⊎ (finish I v ≡ get_or busy' v.processor 0))
              (inr (sym (get_or-set_same busy u.processor (finish I u) 0 room-busy))) others;
          busy_whose = λ P b. whose P b (same_or_not u.processor P);
          low_most = Z.to_most;
          below_low = λ i h. low_placed i h (le_or_lt low i);
          at_low = λ h. fails (placed (u ∷ ps) (A.order low')) (λ t. Z.left h (waiting_placed' (A.order low') t));
          last_is = omega (arith, Q.last_is);
        }
          where
            others : (v : Placement) → v ∈ ps → (finish I v ≤ cm) ⊎ (finish I v ≡ get_or busy' v.processor 0)
            others v h = go (Q.busy_last v h) (same_or_not u.processor v.processor)
              where
                go : (finish I v ≤ cm) ⊎ (finish I v ≡ get_or busy v.processor 0)
                    → (u.processor ≡ v.processor) ⊎ (u.processor ≡ v.processor → ⊥)
                    → (finish I v ≤ cm) ⊎ (finish I v ≡ get_or busy' v.processor 0)
                go (inl a) b = inl a
                go (inr a) (inl b) = inl (free_of I cm ps u.processor K.processor_free v h (sym b))
                go (inr a) (inr b) = inr (a ∙ sym (get_or-set_other busy u.processor v.processor (finish I u) 0 (λ g. b (sym g))))

            whose : (P : ℕ) → P < I.processors → (u.processor ≡ P) ⊎ (u.processor ≡ P → ⊥)
                → (get_or busy' P 0 ≡ 0) ⊎ ((v : Placement) × (v ∈ (u ∷ ps)) × (v.processor ≡ P) × (finish I v ≡ get_or busy' P 0))
            whose P b (inl d) =
                inr (
                  u,
                  here refl,
                  d,
                  sym (ap (λ (X : ℕ). get_or busy' X 0) (sym d) ∙ get_or-set_same busy u.processor (finish I u) 0 room-busy),
                )
            whose P b (inr d) = go (Q.busy_whose P b) (get_or-set_other busy u.processor P (finish I u) 0 (λ g. d (sym g)))
              where
                go : (get_or busy P 0 ≡ 0) ⊎ ((v : Placement) × (v ∈ ps) × (v.processor ≡ P) × (finish I v ≡ get_or busy P 0))
                    → get_or busy' P 0 ≡ get_or busy P 0
                    → (get_or busy' P 0 ≡ 0) ⊎ ((v : Placement) × (v ∈ (u ∷ ps)) × (v.processor ≡ P) × (finish I v ≡ get_or busy' P 0))
                go (inl a) d = inl (d ∙ a)
                go (inr a) d = inr (a.0, there a.1, a.2, a.3 ∙ sym d)

            low_placed : (i : ℕ) → i < low' → (low ≤ i) ⊎ (i < low) → Holds (placed (u ∷ ps) (A.order i))
            low_placed i h (inr b) = placed_more u ps (A.order i) (Q.below_low i b)
            low_placed i h (inl b) = go (either (placed (u ∷ ps) (A.order i)))
              where
                task_below : A.order i < tasks I
                task_below = omega (arith, F.ordered.within i (omega (arith, Z.to_most)), held_tasks F)

                go : Holds (placed (u ∷ ps) (A.order i)) ⊎ Holds (not (placed (u ∷ ps) (A.order i)))
                    → Holds (placed (u ∷ ps) (A.order i))
                go (inl t) = t
                go (inr t) = absurd (omega (arith, Z.passed i b h, waiting_open' (A.order i) task_below t, few_awaited (A.order i)))

-- ---- the spare places are left alone

module _ {A : InArrays} {starts₀ processors₀ arrivals₀ starts processors : List ℕ} {B B' : Inbox}
    (N : Untouched A starts₀ processors₀ arrivals₀ starts processors B.arrivals) {its_first_edge last finish : ℕ} {row to counts : List ℕ}
    (D : Sent its_first_edge last finish (instance_in A).processors row to counts B B')
    (inside : (k : ℕ) → k < last → get_or to k 0 < tasks (instance_in A)) where
  abbrev J : Instance
  J = instance_in A

  -- nothing is sent to what is no task
  unsent : (T P : ℕ) → tasks J ≤ T → P < 16 → get_or B'.arrivals (16 * T + P) 0 ≡ get_or B.arrivals (16 * T + P) 0
  unfolding sent_to
  unsent T P h c = go (le_or_lt J.processors P)
    where
      none : (v k : ℕ) → k < last → pick (sent_to to its_first_edge T k) v 0 ≡ 0
      none v k b =
          pick_no (sent_to to its_first_edge T k) v 0
          (fails (sent_to to its_first_edge T k)
          (λ t. absurd (omega (arith, inside k b, eqb→eq (get_or to k 0) T (second (leb its_first_edge k) (eqb (get_or to k 0) T) t)))))

      go : (J.processors ≤ P) ⊎ (P < J.processors) → get_or B'.arrivals (16 * T + P) 0 ≡ get_or B.arrivals (16 * T + P) 0
      go (inl d) = D.arrivals_spare T P d c
      go (inr d) =
          omega (
            arith,
            D.arrivals_at T P d,
            most_none last (λ k. pick (sent_to to its_first_edge T k) (finish + get_or counts k 0 * get_or row P 0) 0)
                (λ k b. none (finish + get_or counts k 0 * get_or row P 0) k b),
          )

  pub untouched_put : (T x y : ℕ) → T < tasks J → length B'.arrivals ≡ length B.arrivals
      → Untouched A starts₀ processors₀ arrivals₀ (set starts T x) (set processors T y) B'.arrivals
  untouched_put T x y b size = record {
    starts_size = length-set starts T x ∙ N.starts_size;
    processors_size = length-set processors T y ∙ N.processors_size;
    arrivals_size = size ∙ N.arrivals_size;
    starts_past = λ U h. get_or-set_other starts T U x 0 (λ e. absurd (omega arith)) ∙ N.starts_past U h;
    processors_past = λ U h. get_or-set_other processors T U y 0 (λ e. absurd (omega arith)) ∙ N.processors_past U h;
    spare_task = λ U P h c. unsent U P h c ∙ N.spare_task U P h c;
    spare_processor = λ U P h c. D.arrivals_spare U P h c ∙ N.spare_processor U P h c;
  }
