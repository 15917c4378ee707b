-- The invariant of the planner's loop: what each call needs of it, and that it holds again, whether a task is placed or the clock moves.
use Rattle.std.specs.Prelude.{not, ◌⊎◌, ◌≡◌, List, [], ◌∷◌, ℕ, ◌+◌, ◌*◌, ◌≤◌, ◌<◌, max, length, get_or}
use Rattle.std.proofs.Common.{inl, inr, ap, sym, subst, ◌∙◌, arith, add-one, length-set}
use Rattle.std.proofs.Math.Path.{refl}
use Rattle.std.proofs.Math.Dec.{T as Holds}
use Rattle.base.specs.Lists.{◌∈◌, here}
use Rattle.base.specs.Laws.Tests.{not_both, fails, le_or_lt}
use Rattle.graph.specs.Graph.{Runs, edges_to}
use Rattle.etf.specs.Instance.{Instance, tasks, duration}
use Rattle.etf.specs.Schedule.{Placement, placed, finish, arrival}
use Rattle.etf.specs.Rule.{State, begin, run, round, complete, choice, next_moment, ready}
use Rattle.etf.specs.Bounds.{most_finish}
use Rattle.etf.proofs.Laws.Turn.{ready_of, NewPlacement, Tick}
use Rattle.etf.proofs.Laws.Rounds.{enough_rounds, run_last}
use Rattle.etf.proofs.Laws.Sound.{Sound, Opened, sound_start, sound_run}
use Rattle.schedule.specs.declared.planner.Pair.{Pair}
use Rattle.schedule.specs.declared.planner.Choice.{Choice}
use Rattle.schedule.specs.InArrays.{InArrays, instance_in, Plannable}
use Rattle.schedule.specs.Call.{called}
use Rattle.schedule.specs.Pass.{Looked, table_arrival, row_of, row_by, pair_at, never}
use Rattle.schedule.specs.Pass.{Sent, ToSend, ToPlace, Placed, Room, run_call, Tables, marked}
use Rattle.schedule.specs.Laws.Held.{held_tasks, timed, within, edges_there, well}
use Rattle.schedule.specs.Laws.Held.{no_clock_passes, no_finish_passes, no_arrival_passes}
use Rattle.schedule.specs.Laws.Planner.Simulation.{state, never_or, pair_of, InStep, Untouched}
use Rattle.schedule.specs.Laws.Planner.ReadOff.{free_list, next_of, ready_is, arrival_is, incomplete_is}
use Rattle.schedule.specs.Laws.Planner.Search.{search_is, choice_most}
use Rattle.schedule.specs.Laws.Planner.Round.{placing, moving}
use Rattle.schedule.specs.Laws.Planner.EdgesOfTask.{first_edge, last_edge, last_most, first_last}
use Rattle.schedule.specs.Laws.Planner.Placing.{enough, progress, untouched_put}
use Rattle.schedule.specs.Laws.Planner.StartAndEnd.{progress_start, progress_tick, untouched_start, finished}

-- some rounds are done, the tables are in step with the rule, and what is not the plan's is as it was
pub record Invariant (A : InArrays) (starts₀ processors₀ arrivals₀ : List ℕ) (S : Tables) (clock e low rounds : ℕ) : Type 0 where
  pub placements : List Placement
  pub ran : run (instance_in A) rounds begin ≡ state clock placements
  pub few_rounds : rounds ≤ 2 * A.tasks
  pub in_step : InStep A clock placements S low e
  pub untouched : Untouched A starts₀ processors₀ arrivals₀ S.starts S.processors S.inbox.arrivals
  pub waiting_size : length S.inbox.waiting ≡ 256
  pub latest_size : length S.inbox.latest ≡ 256
  pub busy_size : length S.busy ≡ 16

module _ {A : InArrays} (F : Plannable A) {starts₀ processors₀ arrivals₀ : List ℕ} (R : Room A.tasks starts₀ processors₀ arrivals₀) where
  abbrev I : Instance
  I = instance_in A

  abbrev Holding : Tables → ℕ → ℕ → ℕ → ℕ → Type 0
  Holding = Invariant A starts₀ processors₀ arrivals₀

  -- before the first round
  pub holds_first : {S : Tables} → S.starts ≡ starts₀ → S.processors ≡ processors₀ → S.inbox.arrivals ≡ arrivals₀
      → length S.inbox.waiting ≡ 256 → ((T : ℕ) → T < 256 → get_or S.inbox.waiting T 0 ≡ edges_to A.to A.edges T)
      → length S.inbox.latest ≡ 256 → ((T : ℕ) → get_or S.inbox.latest T 0 ≡ 0)
      → length S.busy ≡ 16 → ((P : ℕ) → get_or S.busy P 0 ≡ 0) → Holding S 0 0 0 0
  unfolding run
  holds_first {S} starts_are processors_are arrivals_are waiting_size waiting-all latest_size latest-none busy_size busy-none = record {
    placements = [];
    ran = refl;
    few_rounds = omega arith;
    in_step = progress_start F (rw arrivals_are R.zeros) waiting-all latest-none busy-none;
    untouched = rw (starts_are, processors_are, arrivals_are) untouched_start;
    waiting_size = waiting_size;
    latest_size = latest_size;
    busy_size = busy_size;
  }

  module _ {S : Tables} {clock e low rounds : ℕ} (Y : Holding S clock e low rounds) where
    abbrev ps : List Placement
    ps = Y.placements

    pub sound : Sound I clock ps
    sound = subst (λ (st : State). Sound I st.clock st.placements) Y.ran (sound_run I (well F) rounds begin (sound_start I))

    -- all tasks are placed
    pub holds_last : A.tasks ≤ low
        → called e S.starts S.processors S.inbox.arrivals ≡ run_call I starts₀ processors₀ arrivals₀
    holds_last h =
        finished Y.in_step F sound (omega (arith, Y.few_rounds, held_tasks F)) Y.ran
        (omega (arith, Y.in_step.low_most)) R Y.untouched

    pub arrivals_room : 4096 ≤ length S.inbox.arrivals
    arrivals_room = omega (arith, Y.untouched.arrivals_size, R.for_arrivals)

    pub clock_small : clock < never
    clock_small = omega (arith, no_clock_passes F rounds, ap (λ (st : State). st.clock) Y.ran)

    pub finish_by : (u : Placement) → u ∈ ps → finish I u ≤ most_finish
    finish_by u h = no_finish_passes F rounds u (subst (λ (st : State). u ∈ st.placements) (sym Y.ran) h)

    module _ (more : low < A.tasks) where
      pub incomplete : Holds (not (complete I ps))
      incomplete = incomplete_is F Y.in_step more

      pub more_rounds : rounds < 2 * A.tasks
      more_rounds = go (le_or_lt (2 * tasks I) rounds)
        where
          go : (2 * tasks I ≤ rounds) ⊎ (rounds < 2 * tasks I) → rounds < 2 * A.tasks
          go (inl h) =
              absurd (not_both (complete I ps) incomplete
              (subst (λ (st : State). Holds (complete I st.placements)) Y.ran (enough_rounds I (well F) rounds (omega arith))))
          go (inr h) = omega (arith, held_tasks F)

      -- the next state
      next_run : run I (rounds + 1) begin ≡ round I (state clock ps)
      next_run = rw add-one (run_last I (well F) rounds begin ∙ ap (round I) Y.ran)

      opened_of : (T : ℕ) → T < tasks I → Holds (ready I clock ps T) → Opened I ps T
      opened_of T b r = λ x h. ((ready_of I clock ps T b r).waits x h).0

      start_small : (T P : ℕ) → T < tasks I → Holds (ready I clock ps T) → P < I.processors → max clock (arrival I ps T P) < never
      start_small T P b r p =
          omega (
            arith,
            clock_small,
            ap (λ (st : State). arrival I st.placements T P) Y.ran,
            no_arrival_passes F rounds T P (subst (λ (st : State). Opened I st.placements T) (sym Y.ran) (opened_of T b r)) p,
          )

      in_order : (i : ℕ) → i < A.tasks → A.order i < tasks I
      in_order i h = omega (arith, F.ordered.within i h, held_tasks F)

      module _ {r : Choice}
          (L : Looked clock low A.tasks A.processors A.order (table_arrival S.inbox.arrivals) S.inbox.waiting S.inbox.latest S.busy r) where
        abbrev pair : Pair
        pair = r.pair

        next_is : r.next ≡ never_or (next_moment I clock ps)
        unfolding instance_in
        next_is = L.next ∙ next_of F Y.in_step sound finish_by

        -- the pair that the search found
        choice_is : pair ≡ pair_of (choice I clock ps)
        unfolding instance_in row_of row_by pair_at
        choice_is =
            L.found
            ∙ search_is I clock ps A.tasks A.order refl in_order start_small
            S.inbox.waiting S.inbox.latest S.inbox.arrivals L.free L.count low Y.in_step.low_most
            not_ready (ready_is F Y.in_step) (L.listed ∙ free_list F Y.in_step)
            (λ T P b h p. arrival_is F Y.in_step T P b p (opened_of T b h))
          where
            not_ready : (i : ℕ) → i < low → Holds (not (ready I clock ps (A.order i)))
            not_ready i h =
                let T = A.order i in
                let b = in_order i (omega (arith, Y.in_step.low_most)) in
                fails (ready I clock ps T) (λ t. not_both (placed ps T) (ready_of I clock ps T b t).fresh (Y.in_step.below_low i h))

        choice_soon : (pair_of (choice I clock ps)).start ≤ never
        unfolding instance_in
        choice_soon = choice_most I clock ps A.tasks A.order refl in_order start_small

        -- it starts too late: the clock moves
        module _ (h : r.next < pair.start) where
          ticked : (round I (state clock ps) ≡ state (never_or (next_moment I clock ps)) ps)
              × Tick I clock ps (never_or (next_moment I clock ps))
          ticked =
              moving I (well F) clock ps incomplete finish_by choice_soon
              (subst (λ (x : ℕ). x < (pair_of (choice I clock ps)).start) next_is
              (subst (λ (q : Pair). r.next < q.start) choice_is h))

          pub moved_on : run I (rounds + 1) begin ≡ state r.next ps
          moved_on = next_run ∙ (ticked.0 ∙ ap (λ (x : ℕ). state x ps) (sym next_is))

          pub holds_moved : Holding S r.next e low (rounds + 1)
          holds_moved = record {
            placements = ps;
            ran = moved_on;
            few_rounds = omega (arith, more_rounds);
            in_step = progress_tick Y.in_step r.next (omega (arith, ticked.1.ahead, next_is));
            untouched = Y.untouched;
            waiting_size = Y.waiting_size;
            latest_size = Y.latest_size;
            busy_size = Y.busy_size;
          }

        -- it is placed
        module _ (h : pair.start ≤ r.next) where
          abbrev u : Placement
          u = record { task = pair.task; processor = pair.processor; start = pair.start }

          put_turn : (round I (state clock ps) ≡ state clock (u ∷ ps)) × NewPlacement I clock ps u
          put_turn =
              let t = placing I (well F) clock ps incomplete finish_by
              (subst (λ (x : ℕ). (pair_of (choice I clock ps)).start ≤ x) next_is (subst (λ (q : Pair). q.start ≤ r.next) choice_is h)) in
              let same : u ≡ t.0 =
              ap (λ (q : Pair). record { task = q.task; processor = q.processor; start = q.start }) (choice_is ∙ t.1) in
              (t.2 ∙ ap (λ (v : Placement). state clock (v ∷ ps)) (sym same), subst (NewPlacement I clock ps) (sym same) t.3)

          put_is : NewPlacement I clock ps u
          put_is = put_turn.1

          pub chosen_below : pair.task < A.tasks
          chosen_below = omega (arith, put_is.task_ready.below, held_tasks F)

          pub task_small : pair.task < 256
          task_small = omega (arith, chosen_below, F.few_tasks)

          processor_there : pair.processor < A.processors
          unfolding instance_in
          processor_there = put_is.processor_below

          pub processor_small : pair.processor < 16
          processor_small = omega (arith, processor_there, F.few_processors)

          pub ran_on : run I (rounds + 1) begin ≡ state clock (u ∷ ps)
          ran_on = next_run ∙ put_turn.0

          time_is : get_or A.durations pair.task 0 ≡ duration I pair.task
          time_is = timed F pair.task put_is.task_ready.below

          pub finish_small : pair.start + get_or A.durations pair.task 0 ≤ most_finish
          finish_small =
              let new = subst (λ (st : State). u ∈ st.placements) (sym ran_on) (here refl) in
              omega (arith, time_is, no_finish_passes F (rounds + 1) u new)

          pub finish_is : {f : ℕ} → f ≡ pair.start + get_or A.durations pair.task 0 → f ≡ finish I u
          finish_is f-is = f-is ∙ ap (λ (x : ℕ). pair.start + x) time_is

          module _ {runs : List ℕ} (E : Runs A.from A.tasks A.edges runs) where
            abbrev first : ℕ
            first = first_edge runs pair.task

            abbrev last : ℕ
            last = last_edge runs pair.task

            abbrev row : List ℕ
            row = get_or A.costs pair.processor []

            run_within : last ≤ A.edges
            run_within = last_most E pair.task chosen_below

            module _ {f : ℕ} (f-is : f ≡ pair.start + get_or A.durations pair.task 0) where
              -- what placing asks
              to_send : ToSend first last f A.processors row A.to A.counts (marked pair.task S.inbox)
              to_send = record {
                rises = first_last E pair.task chosen_below;
                has_to = omega (arith, run_within, (edges_there F).1);
                has_counts = omega (arith, run_within, (edges_there F).2);
                few_processors = F.few_processors;
                in_time = omega (arith, f-is, finish_small);
                near = λ k P b. F.near k pair.processor P (omega (arith, run_within));
                enough = λ T. enough F put_is E sound S.inbox.waiting T (Y.in_step.waiting_open T);
                row_size = F.row_size pair.processor processor_small;
                arrivals_room = arrivals_room;
                waiting_size = length-set S.inbox.waiting pair.task _ ∙ Y.waiting_size;
                latest_size = Y.latest_size;
              }

              pub to_place : ToPlace pair f first last low A.tasks A.processors row A.to A.counts S
              to_place = record {
                has_start = omega (arith, chosen_below, R.for_starts, Y.untouched.starts_size);
                has_processor = omega (arith, chosen_below, R.for_processors, Y.untouched.processors_size);
                task_below = task_small;
                processor_below = processor_small;
                low_most = omega arith;
                few_tasks = F.few_tasks;
                busy_size = Y.busy_size;
                sending = to_send;
              }

              -- and what it leaves
              module _ {S' : Tables} {low' : ℕ}
                  (B : Placed pair f first last low A.tasks A.processors A.order row A.to A.counts S S' low') where
                sent : Sent first last (finish I u) I.processors row A.to A.counts (marked pair.task S.inbox) S'.inbox
                unfolding instance_in
                sent = rw (finish_is f-is) at B.sent

                costs_are : (P : ℕ) → P < I.processors → get_or row P 0 ≡ I.cost pair.processor P
                unfolding instance_in
                costs_are P p = refl

                pub holds_placed : {e' : ℕ} → e' ≡ max e f → length S'.inbox.arrivals ≡ length S.inbox.arrivals
                    → length S'.inbox.waiting ≡ length S.inbox.waiting → length S'.inbox.latest ≡ length S.inbox.latest
                    → Holding S' clock e' low' (rounds + 1)
                holds_placed e-is same-arrivals same-waiting same-latest = record {
                  placements = u ∷ ps;
                  ran = ran_on;
                  few_rounds = omega (arith, more_rounds);
                  in_step = rw (B.starts_are, B.processors_are, B.busy_are, e-is, finish_is f-is)
                      (progress F put_is E sound Y.in_step costs_are to_place.has_start to_place.has_processor
                      (omega (arith, task_small, Y.waiting_size)) (omega (arith, processor_small, Y.busy_size)) sent B.skipped);
                  untouched = rw (B.starts_are, B.processors_are)
                      (untouched_put Y.untouched sent (λ k q. (within F k (omega (arith, run_within))).1)
                      pair.task pair.start pair.processor put_is.task_ready.below same-arrivals);
                  waiting_size = same-waiting ∙ Y.waiting_size;
                  latest_size = same-latest ∙ Y.latest_size;
                  busy_size = ap length B.busy_are ∙ (length-set S.busy pair.processor f ∙ Y.busy_size);
                }
