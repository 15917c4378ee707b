-- Demand 2 of the notice: the plan is the planning rule's and C the walk's, the checker accepts exactly the plans that keep the rules, and
-- no file loses anything.
use Rattle.std.specs.Prelude.{◌↔◌, ◌≡◌, refl, List, ◌++◌, ℕ, ◌+◌, ◌*◌, ◌≤◌, ◌<◌, length, get_or, take, drop}
use Rattle.std.proofs.Common.{ap, sym, ◌∙◌, arith}
use Rattle.base.specs.Number.{Bytes}
use Rattle.base.specs.Lists.{greatest}
use Rattle.base.specs.Slices.{filled}
use Rattle.job.specs.declared.Arrays.{Arrays}
use Rattle.job.specs.declared.Platform.{Platform}
use Rattle.job.specs.Write.{Length}
use Rattle.job.specs.Job.{Edge, Job}
use Rattle.job.specs.Read.{accepted, read_job, reading_of}
use Rattle.job.specs.Write.{held_job, Held, write_answer, write_out}
use Rattle.job.specs.Accepted.{accepted_job}
use Rattle.job.specs.RoundTrip.{written_read, read_held, read_written}
use Rattle.etf.specs.Instance.{Instance, tasks, duration, out_of}
use Rattle.etf.specs.Schedule.{Placement, placement_of, schedule_of, end}
use Rattle.etf.specs.Rule.{choice, planned}
use Rattle.etf.specs.Cover.{Walk, FinishesLast, cover}
use Rattle.etf.specs.Dearest.{Chain, price, dearest}
use Rattle.etf.specs.Checker.{Keeps}
use Rattle.etf.specs.Walks.{CoverWalk}
use Rattle.etf.proofs.Walks.{cover_walk}
use Rattle.etf.proofs.WorstCase.{walk_within}
use Rattle.etf.proofs.LeastWalks.{one_has, none_less, at_most_cover}
use Rattle.etf.specs.Weight.{weight}
use Rattle.etf.specs.OfJob.{instance, instance_by_weight, TieRule, result_of}
use Rattle.etf.specs.Priority.{HeavierFirst, ChoiceIs}
use Rattle.etf.proofs.Weights.{weight_rule, weight_only}
use Rattle.etf.proofs.Choices.{choice_by_number, choice_of_job}
use Rattle.etf.proofs.Jobs.{by_number, by_weight, well_formed}
use Rattle.schedule.specs.Answers.Planned.{Plan}
use Rattle.schedule.specs.Answers.Covered.{Cover}
use Rattle.schedule.specs.Answers.Checked.{Yes}
use Rattle.schedule.specs.declared.Outcome.{Outcome}
use Rattle.schedule.specs.declared.Figures.{Figures}
use Rattle.schedule.specs.Plan.{end_by, outcome_by, plan_call_by, plan_call, weight_call}
use Rattle.schedule.specs.Small.{small_call}
use Rattle.schedule.specs.SmallPlan.{same_plan, larger_scratch, as_larger, scratch_zero, small_accepted}
use Rattle.schedule.specs.Cover.{cover_call_by, cover_call, weight_cover_call}
use Rattle.schedule.specs.Cover.{figures as figures_of}
use Rattle.schedule.specs.Check.{check_call}
use Rattle.schedule.specs.OwnPlan.{slices_accepted}
use Rattle.kelvrist.specs.PlanBytes.{processor_in, start_in, plan_bytes_call_by, plan_bytes_call, weight_bytes_call, check_bytes_call}
use Rattle.kelvrist.specs.OwnPlan.{bytes_accepted}
use Rattle.demands.specs.Laws.Answers.{planned_as, outcome_is, covered_as, figures_is}
use Rattle.listing.specs.Listing.{header, task_lines, figures, listing}
use Rattle.demands.specs.Laws.Printed.{prints_calls}
use Rattle.demands.specs.Laws.Kept.{slices_hold, leaves_plan, measured, bytes_as, yes_keeps, zero_keeps}

-- ---- 00: "The plan is the one that Algorithm ETF of Hwang, Chow, Anger and Lee gives with document 01's tie rule .."

-- the plan of a file as the planning rule gives it: m tasks, the end E, and the start and the processor of each task; `by` is the job's
-- instance with its tie rule, document 01's (`instance`) or request §6's (`instance_by_weight`)
pub record ByTheRule (by : Job → Instance) (file : List ℕ) (m E : ℕ) (start processor : ℕ → ℕ) : Type 0 where
  pub job : Job
  pub of_file : read_job file ≡ accepted job
  pub tasks_are : m ≡ tasks (instance job)
  pub end_is : E ≡ end (by job) (result_of job) (planned (by job))
  pub starts_are : (T : ℕ) → T < m → start T ≡ (placement_of (planned (by job)) T).start
  pub processors_are : (T : ℕ) → T < m → processor T ≡ (placement_of (planned (by job)) T).processor

-- is what a planner's call reports and leaves in the slices, by any tie rule
pub plan_by_the_rule : {by : Job → Instance} → TieRule by → (file starts processors scratch : List ℕ) (o : Outcome)
    → (plan_call_by by file starts processors scratch).answer ≡ Plan o
    → ByTheRule by file o.tasks o.end
    (λ T. get_or (plan_call_by by file starts processors scratch).starts T 0)
    (λ T. get_or (plan_call_by by file starts processors scratch).processors T 0)
unfolding outcome_by end_by
plan_by_the_rule {by} rule file starts processors scratch o h =
    let P = planned_as by file starts processors scratch o h in
    let reported = outcome_is by file starts processors scratch P in
    let m-is : o.tasks ≡ tasks (instance P.job) = ap (λ (x : Outcome). x.tasks) reported in
    record {
      job = P.job;
      of_file = P.says;
      tasks_are = m-is;
      end_is = ap (λ (x : Outcome). x.end) reported;
      starts_are = λ T b. (slices_hold rule P T (omega (arith, m-is))).0;
      processors_are = λ T b. (slices_hold rule P T (omega (arith, m-is))).1;
    }

-- so of document 01's
pub plan_is_etf : (file starts processors scratch : List ℕ) (o : Outcome) → (plan_call file starts processors scratch).answer ≡ Plan o
    → ByTheRule instance file o.tasks o.end
    (λ T. get_or (plan_call file starts processors scratch).starts T 0)
    (λ T. get_or (plan_call file starts processors scratch).processors T 0)
plan_is_etf = plan_by_the_rule by_number

-- whose choice is, in every round, 01: "Take the smallest start; ties go to the lowest step number, then the lowest board"
pub choice_is : (j : Job) (cm : ℕ) (ps : List Placement) → ChoiceIs (instance j) (λ S T. S < T) cm ps (choice (instance j) cm ps)
choice_is = choice_by_number

-- 02 §4: "For each job it gives the same starts, boards and refusals as the larger entry": the planner for small controllers and the
-- planner, each with room in its scratch, whatever the other slices are
pub small_as_planner : (file starts processors scratch larger : List ℕ) → 512 ≤ length scratch → 4096 ≤ length larger
    → ((small_call file starts processors scratch).answer ≡ (plan_call file starts processors larger).answer)
    × ((small_call file starts processors scratch).starts ≡ (plan_call file starts processors larger).starts)
    × ((small_call file starts processors scratch).processors ≡ (plan_call file starts processors larger).processors)
small_as_planner file starts processors scratch larger a b =
    let same = same_plan file starts processors scratch larger a b in
    (same.answers, same.starts_are, same.processors_are)

-- so its plan is the planning rule's, too, with nothing said of a larger scratch; its own is 0 in 512 places and else as it was
module _ (file starts processors scratch : List ℕ) (o : Outcome) (h : (small_call file starts processors scratch).answer ≡ Plan o) where
  pub small_is_etf : ByTheRule instance file o.tasks o.end
      (λ T. get_or (small_call file starts processors scratch).starts T 0)
      (λ T. get_or (small_call file starts processors scratch).processors T 0)
  small_is_etf =
      let same = as_larger file starts processors scratch o h in
      rw (same.starts_are, same.processors_are)
      (plan_is_etf file starts processors larger_scratch o (sym same.answers ∙ h))

  pub small_scratch : (small_call file starts processors scratch).scratch ≡ filled (λ x. 0) 512 scratch
  small_scratch = scratch_zero file starts processors scratch o h

-- and what a call from C leaves in the plan's bytes, by any tie rule
pub bytes_by_the_rule : {by : Job → Instance} → TieRule by → (file plan : List ℕ) → (plan_bytes_call_by by file plan).number ≡ 0
    → (m E : ℕ)
    × ByTheRule by file m E (start_in (plan_bytes_call_by by file plan).plan) (processor_in (plan_bytes_call_by by file plan).plan)
bytes_by_the_rule {by} rule file plan h =
    let P = bytes_as rule file plan h in (
      tasks (instance P.job),
      end (by P.job) (result_of P.job) (planned (by P.job)),
      record {
        job = P.job;
        of_file = P.says;
        tasks_are = refl;
        end_is = refl;
        starts_are = P.starts_hold;
        processors_are = P.processors_hold;
      },
    )

-- so of the two from C that give document 01's plan, which are one call
pub bytes_are_etf : (file plan : List ℕ) → (plan_bytes_call file plan).number ≡ 0
    → (m E : ℕ) × ByTheRule instance file m E (start_in (plan_bytes_call file plan).plan) (processor_in (plan_bytes_call file plan).plan)
bytes_are_etf = bytes_by_the_rule by_number

-- ---- 02 §6: the new entry "breaks ties in start by greater weight, then lower step number, then lower board; the old entry and its
-- listings remain"

-- what it reports and leaves in the slices is the planning rule's, with the tasks by weight
pub weight_is_etf : (file starts processors scratch : List ℕ) (o : Outcome) → (weight_call file starts processors scratch).answer ≡ Plan o
    → ByTheRule instance_by_weight file o.tasks o.end
    (λ T. get_or (weight_call file starts processors scratch).starts T 0)
    (λ T. get_or (weight_call file starts processors scratch).processors T 0)
weight_is_etf = plan_by_the_rule by_weight

-- and what its call from C leaves in the plan's bytes
pub weight_bytes_are_etf : (file plan : List ℕ) → (weight_bytes_call file plan).number ≡ 0
    → (m E : ℕ)
    × ByTheRule instance_by_weight file m E (start_in (weight_bytes_call file plan).plan) (processor_in (weight_bytes_call file plan).plan)
weight_bytes_are_etf = bytes_by_the_rule by_weight

-- whose choice is, in every round, the smallest start, ties going "by greater weight, then lower step number, then lower board"
pub weight_choice_is : (j : Job) (cm : ℕ) (ps : List Placement)
    → ChoiceIs (instance_by_weight j) (HeavierFirst (weight (instance j))) cm ps (choice (instance_by_weight j) cm ps)
weight_choice_is = choice_of_job

-- 02 §6: "A step's weight is its duration plus the greatest weight among its successors, 0 if none", of every accepted job, ..
pub weight_is : (file : List ℕ) (j : Job) → read_job file ≡ accepted j → (T : ℕ) → T < tasks (instance j)
    → weight (instance j) T ≡ duration (instance j) T + greatest (λ e. weight (instance j) e.to) (out_of (instance j) T)
weight_is file j e = weight_rule (instance j) (well_formed by_number j (accepted_job file j e))

-- .. and nothing else is
pub weight_alone : (file : List ℕ) (j : Job) → read_job file ≡ accepted j → (w : ℕ → ℕ)
    → ((T : ℕ) → T < tasks (instance j) → w T ≡ duration (instance j) T + greatest (λ e. w e.to) (out_of (instance j) T))
    → (T : ℕ) → T < tasks (instance j) → w T ≡ weight (instance j) T
weight_alone file j e = weight_only (instance j) (well_formed by_number j (accepted_job file j e))

-- ---- 00: ".. and the cover C is the one found by document 01's walk."

-- C and D of a file: the walk over the plan, by the tie rule of `by`, begins with the last task and adds up to C; no chain of the job's
-- edges is dearer than D, and one is as dear
pub record ByTheWalk (by : Job → Instance) (file : List ℕ) (C D : ℕ) : Type 0 where
  pub job : Job
  pub of_file : read_job file ≡ accepted job
  pub cover_is : C ≡ cover (by job)
  pub walk : CoverWalk (by job)
  pub dearest_is : D ≡ dearest (instance job)
  pub none_dearer : (es : List Edge) → Chain (instance job) es → price (instance job) es ≤ D
  pub one_as_dear : (es : List Edge) × Chain (instance job) es × (price (instance job) es ≡ D)

pub cover_by_the_walk : {by : Job → Instance} → TieRule by → (file starts processors scratch : List ℕ) (f : Figures)
    → (cover_call_by by file starts processors scratch).answer ≡ Cover f → ByTheWalk by file f.cover f.dearest
unfolding figures_of
cover_by_the_walk {by} rule file starts processors scratch f h =
    let Q = covered_as by file starts processors scratch f h in
    let reported = figures_is by file starts processors scratch Q in
    let M = measured rule Q in
    record {
      job = Q.job;
      of_file = Q.says;
      cover_is = ap (λ (x : Figures). x.cover) reported;
      walk = M.walk_is;
      dearest_is = M.dearest_is;
      none_dearer = M.no_chain_dearer;
      one_as_dear = M.a_chain_as_dear;
    }

pub cover_is_walk : (file starts processors scratch : List ℕ) (f : Figures) → (cover_call file starts processors scratch).answer ≡ Cover f
    → ByTheWalk instance file f.cover f.dearest
cover_is_walk = cover_by_the_walk by_number

-- 02 §6: ".. and a cover call of its own": document 01's walk over the plan with the tasks by weight
pub weight_cover_is_walk : (file starts processors scratch : List ℕ) (f : Figures)
    → (weight_cover_call file starts processors scratch).answer ≡ Cover f → ByTheWalk instance_by_weight file f.cover f.dearest
weight_cover_is_walk = cover_by_the_walk by_weight

-- the plan that each measures is its planner's: the slices hold what that planner leaves
pub cover_leaves_plan : (file starts processors scratch : List ℕ)
    → ((cover_call file starts processors scratch).starts ≡ (plan_call file starts processors scratch).starts)
    × ((cover_call file starts processors scratch).processors ≡ (plan_call file starts processors scratch).processors)
    × ((cover_call file starts processors scratch).scratch ≡ (plan_call file starts processors scratch).scratch)
cover_leaves_plan = leaves_plan instance

pub weight_cover_leaves_plan : (file starts processors scratch : List ℕ)
    → ((weight_cover_call file starts processors scratch).starts ≡ (weight_call file starts processors scratch).starts)
    × ((weight_cover_call file starts processors scratch).processors ≡ (weight_call file starts processors scratch).processors)
    × ((weight_cover_call file starts processors scratch).scratch ≡ (weight_call file starts processors scratch).scratch)
weight_cover_leaves_plan = leaves_plan instance_by_weight

-- ---- 02 §7: "Sales wants the least C over all such walks, each begun with any step that finishes last. Each cover call gives it after C,
-- and the printed line `least` follows `cover`"

-- L, beside C and D, of a file's plan by the tie rule of `by`; the walks are those that §7 allows (`Walk` in crate etf's Cover)
pub record TheLeast (by : Job → Instance) (file : List ℕ) (L C D : ℕ) : Type 0 where
  pub job : Job
  pub of_file : read_job file ≡ accepted job
  -- "No walk of that kind has a smaller sum, one has this sum"
  pub none_smaller : (T C' : ℕ) → FinishesLast (by job) (planned (by job)) T → Walk (by job) (planned (by job)) T C' → L ≤ C'
  pub one_has : (T : ℕ) × FinishesLast (by job) (planned (by job)) T × Walk (by job) (planned (by job)) T L
  -- so it is at most C, which is at most the dearest chain
  pub at_most_cover : L ≤ C
  pub cover_at_most_dearest : C ≤ D

pub least_by_the_walks : {by : Job → Instance} → TieRule by → (file starts processors scratch : List ℕ) (f : Figures)
    → (cover_call_by by file starts processors scratch).answer ≡ Cover f → TheLeast by file f.least f.cover f.dearest
unfolding figures_of
least_by_the_walks {by} rule file starts processors scratch f h =
    let Q = covered_as by file starts processors scratch f h in
    let I = by Q.job in
    let W = well_formed rule Q.job (accepted_job file Q.job Q.says) in
    let c = cover_walk I W in
    rw (figures_is by file starts processors scratch Q)
    (record {
      job = Q.job;
      of_file = Q.says;
      none_smaller = none_less I W;
      one_has = one_has I W;
      at_most_cover = at_most_cover I W;
      cover_at_most_dearest = walk_within I W c.task (cover I) c.finishes_last.below c.walked;
    })

pub least_of_walks : (file starts processors scratch : List ℕ) (f : Figures) → (cover_call file starts processors scratch).answer ≡ Cover f
    → TheLeast instance file f.least f.cover f.dearest
least_of_walks = least_by_the_walks by_number

-- and of the plan with the tasks by weight
pub weight_least_of_walks : (file starts processors scratch : List ℕ) (f : Figures)
    → (weight_cover_call file starts processors scratch).answer ≡ Cover f → TheLeast instance_by_weight file f.least f.cover f.dearest
weight_least_of_walks = least_by_the_walks by_weight

-- what the program prints for the file is what the two calls, with any slices, leave and report
pub printed_as_called : (file starts processors scratch : List ℕ) (o : Outcome) → (plan_call file starts processors scratch).answer ≡ Plan o
    → (starts₂ processors₂ scratch₂ : List ℕ) (f : Figures) → (cover_call file starts₂ processors₂ scratch₂).answer ≡ Cover f
    → (j : Job) × (read_job file ≡ accepted j)
    × (listing file ≡ header j.platform.processors o.tasks (length j.edges)
    ++ (task_lines o.tasks (λ T. get_or (plan_call file starts processors scratch).processors T 0)
    (λ T. get_or (plan_call file starts processors scratch).starts T 0) (λ T. get_or j.tasks T 0)
    ++ figures o.end f.cover f.least f.dearest))
printed_as_called = prints_calls

-- ---- 00: "A plan brought in by anybody for an accepted job is accepted if it keeps the rules of the graph, the boards and the links and
-- starts nothing after tick 600,000,000, and refused if it breaks one."

module _ (file : List ℕ) (j : Job) (e : read_job file ≡ accepted j) where
  pub checker_exactly : (starts processors : List ℕ) → tasks (instance j) ≤ length starts → tasks (instance j) ≤ length processors
      → check_call file starts processors ≡ Yes
      ↔ Keeps (instance j) (schedule_of (instance j) (λ T. get_or processors T 0) (λ T. get_or starts T 0))
  checker_exactly = yes_keeps file j e

  -- from C, by the plan's bytes
  pub checker_exactly_bytes : (plan : List ℕ) → 5 * tasks (instance j) ≤ length plan
      → check_bytes_call file plan ≡ 0 ↔ Keeps (instance j) (schedule_of (instance j) (processor_in plan) (start_in plan))
  checker_exactly_bytes = zero_keeps file j e

-- so it accepts the planner's own plan, whatever the slices or the bytes held before
pub own_plan_accepted : (file starts processors scratch : List ℕ) (o : Outcome) → (plan_call file starts processors scratch).answer ≡ Plan o
    → check_call file (plan_call file starts processors scratch).starts (plan_call file starts processors scratch).processors ≡ Yes
own_plan_accepted = slices_accepted by_number

-- 02 §6: and the plan of the new entry
pub weight_plan_accepted : (file starts processors scratch : List ℕ) (o : Outcome)
    → (weight_call file starts processors scratch).answer ≡ Plan o
    → check_call file (weight_call file starts processors scratch).starts (weight_call file starts processors scratch).processors ≡ Yes
weight_plan_accepted = slices_accepted by_weight

pub small_plan_accepted : (file starts processors scratch : List ℕ) (o : Outcome)
    → (small_call file starts processors scratch).answer ≡ Plan o
    → check_call file (small_call file starts processors scratch).starts (small_call file starts processors scratch).processors ≡ Yes
small_plan_accepted = small_accepted

pub own_bytes_accepted : (file plan : List ℕ) → (plan_bytes_call file plan).number ≡ 0
    → check_bytes_call file (plan_bytes_call file plan).plan ≡ 0
own_bytes_accepted = bytes_accepted by_number

pub weight_bytes_accepted : (file plan : List ℕ) → (weight_bytes_call file plan).number ≡ 0
    → check_bytes_call file (weight_bytes_call file plan).plan ≡ 0
weight_bytes_accepted = bytes_accepted by_weight

-- ---- 00: "A job that the writer takes, written out and read, is the same job .."

pub written_and_read : (p : Platform) (m l : ℕ) (a : Arrays) (out : List ℕ) (n : ℕ) → Held a
    → write_answer m l (held_job p m l a) out ≡ Length n
    → read_job (take n (write_out (Length n) (held_job p m l a) out)) ≡ accepted (held_job p m l a)
written_and_read = written_read

-- ---- 00: ".. and an accepted file written out is the same bytes."

-- what the reader returns holds the job, the writer takes it where there is room, and what it writes is the file
pub read_and_written : (file : List ℕ) (j : Job) (out : List ℕ) → Bytes file → read_job file ≡ accepted j → length file ≤ length out →
    (held_job (reading_of (read_job file)).platform (length j.tasks) (length j.edges) (reading_of (read_job file)).arrays ≡ j)
    × (write_answer (length j.tasks) (length j.edges) j out ≡ Length (length file))
    × (write_out (Length (length file)) j out ≡ file ++ drop (length file) out)
read_and_written file j out b e h = let w = read_written file j out b e h in (rw e (read_held j (accepted_job file j e)), w.0, w.1)
