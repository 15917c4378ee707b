-- The end of the planner's schedule, read off the arrays: the last finish and the arrivals of the results, by task.
use Rattle.std.specs.Prelude.{◌≡◌, List, ℕ, ◌+◌, ◌*◌, ◌≤◌, ◌<◌, max, get_or}
use Rattle.std.proofs.Common.{ap, ◌∙◌, arith}
use Rattle.base.specs.Rows.{most}
use Rattle.base.specs.Laws.Most.{most_same, greatest-upto}
use Rattle.base.specs.Laws.Lists.{greatest_ge}
use Rattle.etf.specs.Instance.{Instance, tasks, duration}
use Rattle.etf.specs.Schedule.{Placement, placement_of, finish, last_finish, end}
use Rattle.etf.specs.Rule.{planned}
use Rattle.etf.specs.Topology.{entry}
use Rattle.etf.specs.Bounds.{most_message_time}
use Rattle.etf.proofs.Results.{end_before, by_task_lem}
use Rattle.etf.proofs.Laws.Planned.{home}
use Rattle.schedule.specs.InArrays.{InArrays, instance_in, Plannable}
use Rattle.schedule.specs.Call.{start_of, processor_of}
use Rattle.schedule.specs.Plan.{last_of}
use Rattle.schedule.specs.Pass.{delivered_at, ToDeliver}
use Rattle.schedule.specs.CoverPass.{HoldsPlan}
use Rattle.schedule.specs.Laws.Held.{held_tasks, timed, well, no_last_passes}
use Rattle.schedule.specs.Laws.Walk.ShortTicks.{finish_is, scheduled}

module _ {A : InArrays} (F : Plannable A) {starts processors : List ℕ} (H : HoldsPlan (instance_in A) A.tasks starts processors)
    {last : ℕ} (last_is : last ≡ last_of (instance_in A)) (results : List ℕ) where
  abbrev I : Instance
  I = instance_in A

  abbrev ps : List Placement
  ps = planned I

  no_later : (T : ℕ) → T < A.tasks → get_or starts T 0 + get_or A.durations T 0 ≤ last
  unfolding last_of last_finish
  no_later T h =
      let u = (home I (well F) T (omega (arith, held_tasks F))).0 in
      omega (arith, finish_is F H T h, greatest_ge (finish I) ps (placement_of ps T) u, last_is)

  -- what is asked of the arrays
  pub deliverable : ((T p : ℕ) → T < 256 → get_or results T 0 * entry A.costs p 0 ≤ most_message_time)
      → ToDeliver A.tasks last A.durations results A.costs starts processors
  unfolding last_of
  deliverable near =
      let S = scheduled F H in
      record {
        few = F.few_tasks;
        has_starts = H.has_starts;
        has_processors = H.has_processors;
        on_processor = λ T h. omega (arith, S.on_processor T h, F.few_processors);
        finished = no_later;
        in_time = omega (arith, last_is, no_last_passes F);
        near = λ T h. near T (get_or processors T 0) (omega (arith, h, F.few_tasks));
      }

  module _ (result : ℕ → ℕ) (results_are : (T : ℕ) → T < 256 → get_or results T 0 ≡ result T) where
    -- what stands at a task of the schedule
    abbrev at : ℕ → ℕ
    at T = (placement_of ps T).start + duration I T + result T * I.cost (placement_of ps T).processor 0

    same_at : (T : ℕ) → T < A.tasks → delivered_at A.durations results A.costs starts processors T ≡ at T
    unfolding delivered_at instance_in start_of processor_of
    same_at T h =
        rw (
          H.starts_are T h,
          H.processors_are T h,
          results_are T (omega (arith, F.few_tasks)),
          ← timed F T (omega (arith, held_tasks F)),
        )

    by_place : end I result ps ≡ most A.tasks (delivered_at A.durations results A.costs starts processors)
    by_place =
        by_task_lem I (well F) result ∙ greatest-upto at (tasks I) ∙ ap (λ (m : ℕ). most m at) (held_tasks F)
        ∙ most_same A.tasks at (delivered_at A.durations results A.costs starts processors) (λ T h. omega (arith, same_at T h))

    -- so what is found is the end
    pub end_found : {r : ℕ} → r ≡ max last (most A.tasks (delivered_at A.durations results A.costs starts processors))
        → r ≡ end I result ps
    unfolding last_of
    end_found e = omega (arith, e, by_place, last_is, end_before I result ps)
