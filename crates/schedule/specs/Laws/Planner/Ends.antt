-- That the planners' loops end: each round marks one task more as placed or moves the clock on, which stays below `never`.
use Rattle.std.specs.Prelude.{◌≡◌, ◌⊎◌, not, List, ◌∷◌, ℕ, ◌+◌, ◌-◌, ◌<◌, eqb, T as Holds, get_or}
use Rattle.std.proofs.Common.{inl, inr, ap, sym, ◌∙◌, arith, add-one}
use Rattle.base.specs.Rows.{sum, one_if}
use Rattle.base.specs.Laws.Tests.{either, not_both, not-not, eq→eqb, ne→neqb}
use Rattle.base.specs.Laws.Sums.{one_if_yes, one_if_no, one_if_most, sum_le, sum_same, sum_each}
use Rattle.etf.specs.Instance.{Instance}
use Rattle.etf.specs.Schedule.{Placement, placed}
use Rattle.etf.specs.Rule.{State, begin, round, complete}
use Rattle.etf.proofs.Laws.Turn.{Turn, rest, put, tick, stuck, turn}
use Rattle.etf.proofs.Laws.Rounds.{left, left_put, none_stuck, run_last}
use Rattle.schedule.specs.InArrays.{InArrays, instance_in, Plannable}
use Rattle.schedule.specs.Pass.{never, placed_mark, Room, Tables}
use Rattle.schedule.specs.Laws.Held.{held_tasks, well}
use Rattle.schedule.specs.Laws.Planner.Simulation.{state, awaited, InStep}
use Rattle.schedule.specs.Laws.Planner.Invariant.{Invariant, clock_small, incomplete}

-- 1 for a task that is not marked as placed
unfoldable pub unmarked : List ℕ → ℕ → ℕ
unmarked waiting T = one_if (not (eqb (get_or waiting T 0) placed_mark))

-- what is left to do: the tasks that are not marked, and the ticks ahead of the clock
unfoldable pub to_go : ℕ → List ℕ → ℕ → ℕ
to_go m waiting clock = sum m (unmarked waiting) + (never - clock)

module _ {A : InArrays} (F : Plannable A) where
  abbrev I : Instance
  I = instance_in A

  module _ {clock : ℕ} {ps : List Placement} {S : Tables} {low e : ℕ} (Y : InStep A clock ps S low e) where
    -- fewer edges go to a task than the mark says
    waits_few : (T : ℕ) → sum A.edges (awaited A.from A.to ps T) < placed_mark
    unfolding awaited
    waits_few T =
        omega (
          arith,
          F.few_edges,
          sum_each A.edges 1,
          sum_le A.edges (awaited A.from A.to ps T) (λ k. 1) (λ k h. one_if_most _),
        )

    -- the marks are on the placed tasks
    mark_is : (T : ℕ) → T < A.tasks → unmarked S.inbox.waiting T ≡ one_if (not (placed ps T))
    unfolding unmarked
    mark_is T h = go (either (placed ps T))
      where
        go : Holds (placed ps T) ⊎ Holds (not (placed ps T)) → one_if (not (eqb (get_or S.inbox.waiting T 0) placed_mark))
            ≡ one_if (not (placed ps T))
        go (inl k) =
            let m = eq→eqb (get_or S.inbox.waiting T 0) placed_mark (Y.waiting_placed T k) in
            one_if_no (not (eqb (get_or S.inbox.waiting T 0) placed_mark)) (not-not (eqb (get_or S.inbox.waiting T 0) placed_mark) m)
            ∙ sym (one_if_no (not (placed ps T)) (not-not (placed ps T) k))
        go (inr k) =
            let open_now = Y.waiting_open T (omega (arith, h, held_tasks F)) k in
            let m = ne→neqb (get_or S.inbox.waiting T 0) placed_mark (λ z. absurd (omega (arith, z, open_now, waits_few T))) in
            one_if_yes (not (eqb (get_or S.inbox.waiting T 0) placed_mark)) m ∙ sym (one_if_yes (not (placed ps T)) k)

    unmarked_is : sum A.tasks (unmarked S.inbox.waiting) ≡ left I ps
    unfolding left
    unmarked_is =
        sum_same A.tasks (unmarked S.inbox.waiting) (λ T. one_if (not (placed ps T))) mark_is
        ∙ ap (λ (m : ℕ). sum m (λ T. one_if (not (placed ps T)))) (sym (held_tasks F))

  module _ {starts₀ processors₀ arrivals₀ : List ℕ} (R : Room A.tasks starts₀ processors₀ arrivals₀) {S S' : Tables}
      {clock clock' e e' low low' rounds : ℕ} (Y : Invariant A starts₀ processors₀ arrivals₀ S clock e low rounds)
      (Y' : Invariant A starts₀ processors₀ arrivals₀ S' clock' e' low' (rounds + 1)) (more : low < A.tasks) where
    abbrev ps : List Placement
    ps = Y.placements

    -- a round brings it down
    pub goes_down : to_go A.tasks S'.inbox.waiting clock' < to_go A.tasks S.inbox.waiting clock
    unfolding to_go
    goes_down = go (round I (state clock ps)) (turn I (well F) clock ps) after
      where
        after : round I (state clock ps) ≡ state clock' Y'.placements
        after = sym (rw add-one (run_last I (well F) rounds begin ∙ ap (round I) Y.ran)) ∙ Y'.ran

        open_still : Holds (complete I ps) → ⊥
        open_still c = not_both (complete I ps) (incomplete F R Y more) c

        counted : sum A.tasks (unmarked S.inbox.waiting) ≡ left I ps
        counted = unmarked_is Y.in_step

        counted' : sum A.tasks (unmarked S'.inbox.waiting) ≡ left I Y'.placements
        counted' = unmarked_is Y'.in_step

        go : (s : State) → Turn I clock ps s → s ≡ state clock' Y'.placements
            → sum A.tasks (unmarked S'.inbox.waiting) + (never - clock') < sum A.tasks (unmarked S.inbox.waiting) + (never - clock)
        go s (rest c) q = absurd (open_still c)
        go s (put v K) q =
            let same : v ∷ ps ≡ Y'.placements = ap (λ (t : State). t.placements) q in
            let still : clock ≡ clock' = ap (λ (t : State). t.clock) q in
            omega (arith, counted, counted', left_put I clock ps v K, ap (left I) same, still)
        go s (tick x K) q =
            let same : ps ≡ Y'.placements = ap (λ (t : State). t.placements) q in
            let on : x ≡ clock' = ap (λ (t : State). t.clock) q in
            omega (arith, counted, counted', K.ahead, ap (left I) same, on, clock_small F R Y)
        go s (stuck y z) q = absurd (open_still (none_stuck I (well F) clock ps y z))
