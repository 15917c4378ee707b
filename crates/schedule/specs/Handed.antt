-- What the parts of the planner are handed: an instance in arrays. A reader of the public contracts needs nothing of this file.
use Rattle.std.specs.Prelude.{◌≡◌, ◌⊎◌, List, ℕ, ◌≤◌, ◌<◌, refl}
use Rattle.std.proofs.Common.{inl, inr, arith}
use Rattle.job.specs.declared.Reading.{Reading}
use Rattle.job.specs.Write.{edge_held}
use Rattle.base.specs.Laws.Tests.{le_or_lt}
use Rattle.schedule.specs.declared.instance.Instance.{Instance}
use Rattle.schedule.specs.InArrays.{InArrays, in_number_order, Plannable, Ready}

-- the arrays of an instance, the tasks by number
abbrev pub in_arrays : Instance → InArrays
in_arrays x = in_number_order x.processors x.tasks x.edges x.durations.now x.from.now x.to.now x.counts.now x.costs.now

-- those of a job that was read, with its square of costs
abbrev pub read_in_arrays : Reading → ℕ → ℕ → List (List ℕ) → InArrays
read_in_arrays x m l costs =
    in_number_order x.platform.processors m l x.arrays.durations x.arrays.from x.arrays.to x.arrays.counts costs

-- edges that rise in the one form rise in the other
rises_as : (a b c d : ℕ) → (a ≤ b) × (a ≡ b → c < d) → (a < b) ⊎ ((a ≡ b) × (c < d))
rises_as a b c d h = go (le_or_lt b a)
  where
    go : (b ≤ a) ⊎ (a < b) → (a < b) ⊎ ((a ≡ b) × (c < d))
    go (inl p) = let e : a ≡ b = omega (arith, h.0) in inr (e, h.1 e)
    go (inr p) = inl p

rises_by : (a b c d : ℕ) → (a < b) ⊎ ((a ≡ b) × (c < d)) → (a ≤ b) × (a ≡ b → c < d)
rises_by a b c d (inl p) = (omega arith, λ e. let z : ⊥ = omega arith in absurd z)
rises_by a b c d (inr p) = (omega (arith, p.0), λ e. p.1)

-- an instance that is handed on can be planned
pub plannable : (x : Instance) → Plannable (in_arrays x)
unfolding edge_held
plannable x = record {
  some_processor = x.ready.some_processor;
  few_processors = x.ready.few_processors;
  some_task = x.ready.some_task;
  few_tasks = x.ready.few_tasks;
  few_edges = x.ready.few_edges;
  takes_time = x.ready.takes_time;
  short = x.ready.short;
  forward = x.ready.forward;
  within = x.ready.within;
  rising = λ k h. rises_as _ _ _ _ (x.ready.rising k h);
  near = x.ready.near;
  ordered = record { within = λ i h. h; each = λ T h. (T, h, refl) };
  durations_size = x.ready.durations_size;
  from_size = x.ready.from_size;
  to_size = x.ready.to_size;
  counts_size = x.ready.counts_size;
  row_size = x.ready.row_size;
}

-- and one whose arrays can be planned may be handed on
pub may_be_handed : {A : InArrays} → Plannable A → Ready A
unfolding edge_held
may_be_handed P = record {
  some_processor = P.some_processor;
  few_processors = P.few_processors;
  some_task = P.some_task;
  few_tasks = P.few_tasks;
  few_edges = P.few_edges;
  takes_time = P.takes_time;
  short = P.short;
  forward = P.forward;
  within = P.within;
  rising = λ k h. rises_by _ _ _ _ (P.rising k h);
  near = P.near;
  durations_size = P.durations_size;
  from_size = P.from_size;
  to_size = P.to_size;
  counts_size = P.counts_size;
  row_size = P.row_size;
}
