-- A call that lays the plan out accepts every job that the reader accepts, where its slices have room: one law for planner and cover call.
use Rattle.std.specs.Prelude.{◌≡◌, List, ℕ, ◌<◌, length, get_or}
use Rattle.std.proofs.Common.{ap, ◌∙◌, arith}
use Rattle.base.specs.Laws.Filled.{filled_at, filled-length}
use Rattle.job.specs.Limits.{most_tasks}
use Rattle.job.specs.Job.{Job}
use Rattle.job.specs.Read.{accepted, read_job}
use Rattle.job.specs.Accepted.{accepted_job}
use Rattle.etf.specs.Instance.{Instance, tasks}
use Rattle.etf.specs.OfJob.{instance}
use Rattle.schedule.specs.Call.{Call, called, start_of, processor_of, scratch_at, arrival_places, laid_out_call, plan_by, call_for}
use Rattle.schedule.specs.Lent.{HasRoom}
use Rattle.schedule.specs.Answered.{call_taken}

-- room for the plan of every job, in the three slices that are lent
pub record Roomy (starts processors scratch : List ℕ) : Type 0 where
  pub for_starts : length starts ≡ most_tasks
  pub for_processors : length processors ≡ most_tasks
  pub for_arrivals : length scratch ≡ arrival_places

-- what a call did that returned r and left these slices: it answered about the job, and the plan is in the slices, with room as before
pub record LaidOut {R : Type 0} (answer : Job → R) (j : Job) (r : R) (starts processors scratch : List ℕ) : Type 0 where
  pub answer_is : r ≡ answer j
  pub start_at_lem : (T : ℕ) → T < tasks (instance j) → get_or starts T 0 ≡ start_of (instance j) T
  pub processor_at_lem : (T : ℕ) → T < tasks (instance j) → get_or processors T 0 ≡ processor_of (instance j) T
  pub room : Roomy starts processors scratch

pub lays_out : {R : Type 0} (refuse : ℕ → R) (answer : Job → R) (file : List ℕ) (j : Job) → read_job file ≡ accepted j
    → {s p t s' p' t' : List ℕ} {r : R} → Roomy s p t
    → called r s' p' t' ≡ call_for arrival_places refuse (plan_by instance answer) (read_job file) s p t → LaidOut answer j r s' p' t'
unfolding laid_out_call instance
lays_out {R} refuse answer file j says {s} {p} {t} {s'} {p'} {t'} {r} room h = record {
  answer_is = ap (λ (c : Call R). c.answer) accepts;
  start_at_lem = λ T k. ap (λ (c : Call R). get_or c.starts T 0) accepts ∙ filled_at (start_of I) (tasks I) s T k;
  processor_at_lem = λ T k. ap (λ (c : Call R). get_or c.processors T 0) accepts ∙ filled_at (processor_of I) (tasks I) p T k;
  room = record {
    for_starts =
        ap (λ (c : Call R). length c.starts) accepts ∙ filled-length (start_of I) (tasks I) s fits.for_starts ∙ room.for_starts;
    for_processors =
        ap (λ (c : Call R). length c.processors) accepts
        ∙ filled-length (processor_of I) (tasks I) p fits.for_processors ∙ room.for_processors;
    for_arrivals =
        ap (λ (c : Call R). length c.scratch) accepts
        ∙ filled-length (scratch_at I) arrival_places t fits.for_scratch ∙ room.for_arrivals;
  };
}
  where
    I : Instance
    I = instance j

    fits : HasRoom (tasks I) s p t
    fits =
        let few = (accepted_job file j says).few_tasks in record {
          for_starts = omega (arith, room.for_starts, few);
          for_processors = omega (arith, room.for_processors, few);
          for_scratch = omega (arith, room.for_arrivals);
        }

    accepts : called r s' p' t' ≡ plan_by instance answer j s p t
    accepts = h ∙ call_taken file s p t instance refuse answer (j, says, fits)
