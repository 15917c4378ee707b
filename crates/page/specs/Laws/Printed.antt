-- What is printed, from what the planner's call answers and leaves: a refusal's line, or the page of the planner's plan.
use Rattle.std.proofs.Math.Bool.{true, false}
use Rattle.std.proofs.Common.{inl, ◌∙◌, arith}
use Rattle.std.specs.Prelude.{◌≡◌, List, ◌++◌, ℕ, ◌*◌, ◌≤◌, length, Result, Ok, Err}
use Rattle.std.proofs.Math.Path.{refl, ap, sym}
use borrow.Author.Tests.{le-ltb}
use Rattle.std.proofs.Math.ListN.{drop}
use Rattle.base.specs.Lists.{upto}
use Rattle.base.specs.Laws.Tests.{impossible}
use Rattle.base.specs.Laws.Lists.{upto_of, map_same}
use Rattle.job.specs.declared.table.Refusal.{Refusal}
use Rattle.job.specs.Table.{number_of}
use Rattle.job.specs.Limits.{most_tasks}
use Rattle.job.specs.Job.{Job}
use Rattle.job.specs.Read.{Answer, accepted, refused, read_job}
use Rattle.job.specs.Accepted.{accepted_job}
use Rattle.etf.specs.Instance.{Instance, tasks}
use Rattle.etf.specs.Schedule.{schedule_of, by_task}
use Rattle.etf.specs.Rule.{planned}
use Rattle.etf.specs.OfJob.{instance}
use Rattle.etf.proofs.Jobs.{by_number}
use Rattle.schedule.specs.declared.Outcome.{Outcome}
use Rattle.schedule.specs.Answers.Planned.{Planned, Plan, Refused as NotPlanned, as_planned}
use Rattle.schedule.specs.Answers.Checked.{Yes}
use Rattle.schedule.specs.Call.{Call, called, start_of, processor_of, arrival_places}
use Rattle.schedule.specs.Plan.{outcome, plan_call, plan_call_by}
use Rattle.schedule.specs.Check.{check_for, check_call}
use Rattle.schedule.specs.Verdict.{plan_in}
use Rattle.schedule.specs.Answered.{call_refused}
use Rattle.schedule.specs.OwnPlan.{slices_accepted}
use Rattle.gantt.specs.Answer.{as_drawn}
use Rattle.gantt.specs.Page.{page}
use Rattle.gantt.specs.Draw.{DrawCall, drawn, page_of, drawn_by, draw_for, draw_call}
use Rattle.gantt.specs.Marked.{page_length_lem}
use Rattle.listing.specs.Listing.{refusal_line, ListingCall, listed, put_first}
use Rattle.listing.specs.Printed.{put_within}
use Rattle.listing.specs.Laws.Calls.{LaidOut, lays_out}
use Rattle.page.specs.Printed.{plan_page, printed_for, printed, print_call}

-- what is printed stands in the buffer
pub printed_within : (file out : List ℕ) {n : ℕ} {out' : List ℕ} → listed n out' ≡ print_call file out → n ≤ length out'
unfolding print_call
printed_within file out e = put_within (printed file) out e

-- the planner's call, on slices with room for every job
module _ (file s p t : List ℕ) (r : Result Outcome Refusal) {s' p' t' : List ℕ}
    (a : length s ≡ most_tasks) (b : length p ≡ most_tasks) (c : length t ≡ arrival_places)
    (plans : called (as_planned r) s' p' t' ≡ plan_call file s p t) where
  -- what it left and answered for an accepted job
  laid : (j : Job) → read_job file ≡ accepted j → LaidOut (λ j. Plan (outcome j)) j (as_planned r) s' p' t'
  unfolding plan_call_by
  laid j says =
      lays_out NotPlanned (λ j. Plan (outcome j)) file j says (record { for_starts = a; for_processors = b; for_arrivals = c }) plans

  -- what it answered for a refused one
  number_is : (k : ℕ) → read_job file ≡ refused k → as_planned r ≡ NotPlanned k
  unfolding plan_call_by
  number_is k says =
      ap (λ (c : Call Planned). c.answer) (plans ∙ call_refused file s p t instance NotPlanned (λ j. Plan (outcome j)) k (inl says))

  -- ---- a refusal

  pub refusal_printed : (out : List ℕ) {e : Refusal} {k : ℕ} {said : ListingCall} → r ≡ Err e → k ≡ number_of e
      → said ≡ put_first (refusal_line k) out → said ≡ print_call file out
  unfolding print_call printed printed_for
  refusal_printed out {e} {k} {said} is tells put = go (read_job file) refl
    where
      told : as_planned r ≡ NotPlanned k
      told = ap as_planned is ∙ ap NotPlanned (sym tells)

      go : (x : Answer) → read_job file ≡ x → said ≡ put_first (printed_for (read_job file)) out
      go (accepted j) says = let e = sym told ∙ (laid j says).answer_is in let z : false ≡ true = cc in impossible z
      go (refused i) says = let e : k ≡ i = let z = sym told ∙ number_is i says in cc in put ∙ rw (says, e)

  -- ---- the page

  module _ (j : Job) (says : read_job file ≡ accepted j) where
    abbrev I : Instance
    I = instance j

    -- the plan that it left is the planner's
    plan_is : plan_in I s' p' ≡ by_task I (planned I)
    unfolding by_task schedule_of start_of processor_of
    plan_is =
        let L = laid j says in
        map_same _ _ (upto (tasks I)) (λ T h. rw (L.start_at_lem T (upto_of (tasks I) T h), L.processor_at_lem T (upto_of (tasks I) T h)))

    -- the checker accepts it
    checks : check_for (accepted j) s' p' ≡ Yes
    unfolding check_call
    checks =
        let yes =
        slices_accepted by_number file s p t (outcome j) (ap (λ (c : Call Planned). c.answer) (sym plans) ∙ (laid j says).answer_is) in
        let e : check_call file s' p' ≡ Yes = rw (← plans) at yes in
        ap (λ a. check_for a s' p') (sym says) ∙ e

    -- its page fits and is drawn
    drawn_is : (out : List ℕ) → length out ≡ 12288
        → draw_call file s' p' out ≡ drawn_by Yes I.processors (page I (by_task I (planned I))) out
    unfolding draw_call draw_for page_of instance
    drawn_is out size =
        rw (
          says,
          le-ltb (length out) (70 * j.platform.processors) (omega (arith, size, (accepted_job file j says).few_processors)),
          checks,
          plan_is,
        )

    -- the call that draws, on a buffer of this length
    module _ (out : List ℕ) (d : Result ℕ Refusal) {out' : List ℕ} (size : length out ≡ 12288)
        (draws : drawn (as_drawn d) out' ≡ draw_call file s' p' out) where
      drew : drawn (as_drawn d) out' ≡ drawn_by Yes I.processors (page I (by_task I (planned I))) out
      drew = draws ∙ drawn_is out size

      takes : {e : Refusal} → d ≡ Err e → ⊥
      unfolding drawn_by
      takes is = let z = ap as_drawn is in let w = ap (λ (c : DrawCall). c.answer) drew in cc

      prints : {n : ℕ} → d ≡ Ok n → listed n out' ≡ print_call file out
      unfolding print_call printed printed_for plan_page put_first drawn_by
      prints {n} is =
          let full = page_length_lem I (by_task I (planned I)) in
          let z = ap as_drawn is in
          let w = ap (λ (c : DrawCall). c.answer) drew in
          let long : n ≡ 70 * I.processors = cc in
          let put : out' ≡ page I (by_task I (planned I)) ++ drop (70 * I.processors) out = ap (λ (c : DrawCall). c.buffer) drew in
          rw (says, long, put, full)

  -- where it plans, the reader accepts the file
  job_of : {o : Outcome} → r ≡ Ok o → (j : Job) × (read_job file ≡ accepted j)
  job_of is = go (read_job file) refl
    where
      go : (x : Answer) → read_job file ≡ x → (j : Job) × (read_job file ≡ accepted j)
      go (accepted j) says = (j, says)
      go (refused k) says = let e = sym (ap as_planned is) ∙ number_is k says in let z : false ≡ true = cc in impossible z

  pub draws_all : (out : List ℕ) {o : Outcome} (d : Result ℕ Refusal) {out' : List ℕ} {e : Refusal} → r ≡ Ok o → length out ≡ 12288
      → drawn (as_drawn d) out' ≡ draw_call file s' p' out → d ≡ Err e → ⊥
  draws_all out d is size draws refuses = let j = job_of is in takes j.0 j.1 out d size draws refuses

  pub page_printed : (out : List ℕ) {o : Outcome} (d : Result ℕ Refusal) {out' : List ℕ} {n : ℕ} → r ≡ Ok o → length out ≡ 12288
      → drawn (as_drawn d) out' ≡ draw_call file s' p' out → d ≡ Ok n → listed n out' ≡ print_call file out
  page_printed out d is size draws answers = let j = job_of is in prints j.0 j.1 out d size draws answers
