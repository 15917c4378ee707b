-- The walk of the planner's schedule, read off the arrays: what the moves back from its last task take is the cover.
use Rattle.std.specs.Prelude.{◌≡◌, ◌⊎◌, List, length, get_or}
use Rattle.std.proofs.Math.Path.{refl, ap}
use Rattle.std.proofs.Common.{◌∙◌, inl, inr, arith}
use Rattle.std.proofs.Math.Option.{Option, none, some, bind}
use Prim.Native.Nat.{ℕ, zero, suc, ◌+◌, ◌≤◌, ◌<◌}
use borrow.Author.Tests.{lt-ltb}
use Rattle.std.specs.Int.Count.{count_trailing_zeros, trailing_of_zero}
use Rattle.base.specs.Rows.{most}
use Rattle.base.specs.Slices.{filled}
use Rattle.base.specs.Laws.Tests.{le_or_lt}
use Rattle.base.specs.Laws.Filled.{filled_at, filled-length}
use Rattle.etf.specs.Instance.{Instance, tasks}
use Rattle.etf.specs.Schedule.{Placement, placement_of, message_time_to}
use Rattle.etf.specs.Rule.{planned}
use Rattle.etf.specs.Cover.{Back, latest_idle_tick, lowest_idle, latest_into, back, walk, cover}
use Rattle.etf.specs.Bounds.{most_message_time}
use Rattle.etf.proofs.Laws.Back.{walk_enough}
use Rattle.schedule.specs.Call.{start_of, processor_of}
use Rattle.schedule.specs.InArrays.{InArrays, instance_in, Plannable}
use Rattle.graph.specs.Graph.{edges_to}
use Rattle.schedule.specs.CoverPass.{lowest_in, FirstMost, ShortBefore, ShortTicks, HoldsPlan}
use Rattle.schedule.specs.CoverPass.{reach_into, MovesBack, Moves, along_back}
use Rattle.schedule.specs.Laws.Held.{held_tasks, well}
use Rattle.schedule.specs.Laws.Walk.ShortTicks.{no_short, lowest_small, latest_short, lowest_idle_lem}
use Rattle.schedule.specs.Laws.Walk.LatestEdge.{no_edge_no_latest, stops_there, goes_along, last_is}

-- slices that were filled with the planner's schedule hold it
pub holds_plan : {I : Instance} {m : ℕ} {starts' processors' : List ℕ} (starts processors : List ℕ)
    → m ≤ length starts → m ≤ length processors
    → starts' ≡ filled (start_of I) m starts → processors' ≡ filled (processor_of I) m processors → HoldsPlan I m starts' processors'
holds_plan {I} {m} starts processors s p d e = record {
  has_starts = rw d (omega (arith, filled-length (start_of I) m starts s));
  has_processors = rw e (omega (arith, filled-length (processor_of I) m processors p));
  starts_are = λ T h. rw d (filled_at (start_of I) m starts T h);
  processors_are = λ T h. rw e (filled_at (processor_of I) m processors T h);
}

module _ {A : InArrays} (F : Plannable A) {starts processors : List ℕ} (H : HoldsPlan (instance_in A) A.tasks starts processors)
    {latest sets back' time : List ℕ}
    (R : ShortTicks A.tasks A.durations starts processors A.processors (edges_to A.to A.edges) latest sets)
    (M : Moves 256 A.edges A.durations A.from A.to A.counts A.costs starts processors (lowest_in sets) back' time) where
  abbrev I : Instance
  I = instance_in A

  abbrev ps : List Placement
  ps = planned I

  abbrev m : ℕ
  m = A.tasks

  -- when the messages of an edge to task T are at P
  abbrev into_at : ℕ → ℕ → ℕ → ℕ
  into_at = reach_into A.durations A.from A.to A.counts A.costs starts processors

  small : (T : ℕ) → T < m → T < 256
  small T b = omega (arith, F.few_tasks)

  -- the move back from a task, by the walk and by the arrays
  data BackAt (T : ℕ) : Type 0 where
    stays : back I ps T ≡ none → get_or back' T 0 ≡ 256 → BackAt T
    goes : (b : Back) → back I ps T ≡ some b → get_or back' T 0 ≡ b.edge.from → get_or back' T 0 < T
        → get_or time T 0 ≡ message_time_to I ps b.through b.edge → get_or time T 0 ≤ most_message_time → BackAt T

  module _ (T : ℕ) (b : T < m) where
    -- the task's set is empty: the walk stays, ..
    empty : get_or sets T 0 ≡ 0 → get_or back' T 0 ≡ 256
    unfolding lowest_in
    empty e = M.stays T (small T b) (rw (e, trailing_of_zero 32) (omega arith))

    -- .. as the task has no predecessor, ..
    no_predecessor : edges_to A.to A.edges T ≡ 0 → BackAt T
    unfolding back bind
    no_predecessor p = stays (go (latest_idle_tick I ps (placement_of ps T).start)) (empty (R.none T b p))
      where
        along : ℕ → Option Back
        along P = bind (latest_into I ps T P) (λ e. some (record { edge = e; through = P }))

        none_along : (P : ℕ) → along P ≡ none
        none_along P = rw (no_edge_no_latest F T P ps p)

        through_any : (o : Option ℕ) → bind o along ≡ none
        through_any none = refl
        through_any (some P) = none_along P

        go : (o : Option ℕ) → bind {B = Back} o (λ t. bind (lowest_idle I ps t) along) ≡ none
        go none = refl
        go (some t) = through_any (lowest_idle I ps t)

    module _ (B : ShortBefore m A.durations starts processors A.processors (get_or starts T 0) (get_or latest T 0) (get_or sets T 0)) where
      -- .. or no tick is short
      none_short : get_or sets T 0 ≡ 0 → BackAt T
      unfolding back bind
      none_short e = stays (rw (no_short F H T b B e)) (empty e)

      -- a tick is short: the walk goes along an edge, or there is no edge
      at_short : 0 < get_or sets T 0 → BackAt T
      unfolding back bind lowest_in
      at_short k = go (le_or_lt (most A.edges (into_at T P)) 0)
        where
          P : ℕ
          P = count_trailing_zeros 32 (get_or sets T 0)

          W : MovesBack A.durations A.from A.to A.counts A.costs starts processors A.edges T P
              (get_or back' T 0) (get_or time T 0)
          W = M.moves T (small T b) (lowest_small F H T b B k)

          go : (most A.edges (into_at T P) ≤ 0) ⊎ (0 < most A.edges (into_at T P)) → BackAt T
          go (inl z) =
              let w : most A.edges (into_at T P) ≡ 0 = omega (arith, z) in
              stays (rw (latest_short F H T b B k, lowest_idle_lem F H T b B k, stops_there F H P T w)) (W.stops w)
          go (inr z) =
              let w = goes_along F H P T _ _ W z in
              goes (record { edge = w.0; through = P }) (rw (latest_short F H T b B k, lowest_idle_lem F H T b B k, w.1))
              w.2 w.3 w.4 w.5

    back_at : BackAt T
    back_at = go (le_or_lt (edges_to A.to A.edges T) 0) (le_or_lt (get_or sets T 0) 0)
      where
        go : (edges_to A.to A.edges T ≤ 0) ⊎ (0 < edges_to A.to A.edges T) → (get_or sets T 0 ≤ 0) ⊎ (0 < get_or sets T 0) → BackAt T
        go (inl p) z = no_predecessor (omega arith)
        go (inr p) (inl h) = none_short (R.found T b p) (omega arith)
        go (inr p) (inr h) = at_short (R.found T b p) h

  -- the moves go down, and none takes long
  pub goes_down : {last : ℕ} → last < m → (T : ℕ) → T ≤ last → get_or back' T 0 < 256
      → (get_or back' T 0 < T) × (get_or time T 0 ≤ most_message_time)
  goes_down k T b h = go (back_at T (omega arith))
    where
      go : BackAt T → (get_or back' T 0 < T) × (get_or time T 0 ≤ most_message_time)
      go (stays e z) = absurd (omega arith)
      go (goes w e f d t u) = (d, u)

  -- move by move, the arrays give what the walk adds
  along_is : (k T : ℕ) → T < m → along_back back' time k T ≡ walk I ps k T
  unfolding along_back walk
  along_is zero T b = refl
  along_is (suc k) T b = go (back_at T b) (λ U h. along_is k U h)
    where
      go : BackAt T → ((U : ℕ) → U < m → along_back back' time k U ≡ walk I ps k U) → along_back back' time (suc k) T ≡ walk I ps (suc k) T
      go (stays e z) r = rw (e, walk, z)
      go (goes w e f d t u) r =
          rw (e, walk, lt-ltb (get_or back' T 0) 256 (omega (arith, small T b)), t)
          (ap (λ (x : ℕ). message_time_to I ps w.through w.edge + x) (r _ (omega arith) ∙ ap (walk I ps k) f))

  -- from the last task they give the cover
  pub cover_is : {last : ℕ} → FirstMost 0 m (λ T. get_or starts T 0 + get_or A.durations T 0) last
      → along_back back' time 256 last ≡ cover I
  unfolding cover
  cover_is {last} L =
      let z = last_is F H last L in
      let b : last < tasks I = omega (arith, z.0, held_tasks F) in
      rw (z.1, cover) (along_is 256 last z.0 ∙ walk_enough I (well F) 256 (tasks I) last (small last z.0) b b)
