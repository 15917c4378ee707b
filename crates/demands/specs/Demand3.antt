-- Demand 3 of the notice: how far from the best a planner's plan can be, by the numbers that its two calls return.
-- 02 §6: "The distance from the rival is shown over an arbitrary priority order, and both entries draw on that."
use Rattle.std.specs.Prelude.{◌≡◌, refl, List, [], ℕ, ◌+◌, ◌*◌, ◌-◌, ◌≤◌, length}
use Rattle.std.proofs.Common.{ap, sym, ◌∙◌, add-zero}
use Rattle.job.specs.Job.{Job}
use Rattle.job.specs.Read.{accepted, read_job}
use Rattle.job.specs.Accepted.{Accepted, accepted_job}
use Rattle.etf.specs.Instance.{Instance}
use Rattle.etf.specs.Ideal.{Ideal, makespan}
use Rattle.etf.specs.Schedule.{end, dearest_result}
use Rattle.etf.specs.Rule.{planned}
use Rattle.etf.specs.Dearest.{dearest}
use Rattle.etf.specs.OfJob.{instance, instance_by_weight, TieRule, result_of}
use Rattle.etf.proofs.Jobs.{by_number, by_weight, well_formed, within, least_within}
use Rattle.etf.proofs.Jobs.{without_results as without}
use Rattle.etf.proofs.WorstCase.{some_ideal}
use Rattle.etf.specs.Results.{WithinResults}
use Rattle.schedule.specs.Answers.Planned.{Plan}
use Rattle.schedule.specs.Answers.Covered.{Cover}
use Rattle.schedule.specs.declared.Outcome.{Outcome}
use Rattle.schedule.specs.declared.Figures.{Figures}
use Rattle.schedule.specs.Plan.{end_by, outcome_by, plan_call_by, plan_call, weight_call}
use Rattle.schedule.specs.Small.{small_call}
use Rattle.schedule.specs.SmallPlan.{larger_scratch, as_larger}
use Rattle.schedule.specs.Cover.{figures, cover_call_by, cover_call, weight_cover_call}
use Rattle.schedule.specs.Lent.{HasRoom}
use Rattle.schedule.specs.Answered.{one_job}
use Rattle.demands.specs.Laws.Answers.{planned_as, outcome_is, covered_as, figures_is, plan_taken, cover_taken}
use Rattle.demands.specs.Laws.Kept.{same_dearest}

-- 02 §2: "the dearest result time (a count times that cost) of our plan"; in those words: `result_time_right` of crate etf's Jobs; `by` is
-- the job's instance, with its tie rule
abbrev pub dearest_result_time : (Job → Instance) → Job → ℕ
dearest_result_time by j = dearest_result (by j) (result_of j) (planned (by j))

-- what is promised of the numbers E, C and D that the calls report for a file, of a plan by the tie rule of `by`: document 01's
-- (`instance`) or request §6's (`instance_by_weight`)
pub record Promised (by : Job → Instance) (file : List ℕ) (E C D : ℕ) : Type 0 where
  -- the file is that of a job
  pub job : Job
  pub of_file : read_job file ≡ accepted job
  -- for every ideal schedule of the job (01: a rival plan), whose messages take no time and whose starts are any natural numbers; F is its
  -- makespan, and it knows of no order. 02 §2: "C plus the dearest result time .. of our plan where C stood"; it is 0 for a job without
  -- results
  pub end_within : (S : Ideal (instance job))
      → job.platform.processors * E
      ≤ (2 * job.platform.processors - 1) * makespan (instance job) S + job.platform.processors * (C + dearest_result_time by job)
  -- 02 §2: "it is C alone, without the result time, that is at most the dearest chain"
  pub cover_within : C ≤ D
  -- a job without results: document 00's own inequality
  pub without_results : job.results ≡ [] → (S : Ideal (instance job))
      → job.platform.processors * E ≤ (2 * job.platform.processors - 1) * makespan (instance job) S + job.platform.processors * C
  -- and there is an ideal schedule
  pub some_schedule : Ideal (instance job)

-- the comparison with every rival, with a figure that the cover call gives in the place of C
abbrev Compared : (Job → Instance) → (Figures → ℕ) → Type 0
Compared by figure = ((j : Job) → Accepted j → (S : Ideal (instance j))
    → WithinResults j.platform.processors (end (by j) (result_of j) (planned (by j))) (makespan (instance j) S)
    (figure (figures (by j))) (dearest_result_time by j) (dearest (by j)))

-- where it holds, it is promised of what the two calls report
promised_of : {by : Job → Instance} → TieRule by → (figure : Figures → ℕ) → Compared by figure → (file : List ℕ) (o : Outcome) (f : Figures)
    → (starts processors scratch : List ℕ) → (plan_call_by by file starts processors scratch).answer ≡ Plan o
    → (starts₂ processors₂ scratch₂ : List ℕ) → (cover_call_by by file starts₂ processors₂ scratch₂).answer ≡ Cover f
    → Promised by file o.end (figure f) f.dearest
unfolding outcome_by end_by figures
promised_of {by} rule figure holds file o f starts processors scratch p starts₂ processors₂ scratch₂ c =
    let P = planned_as by file starts processors scratch o p in
    let Q = covered_as by file starts₂ processors₂ scratch₂ f c in
    let same = ap (λ (i : Job). figures (by i)) (one_job Q.says P.says) in
    bounds P.job P.says (outcome_is by file starts processors scratch P) (figures_is by file starts₂ processors₂ scratch₂ Q ∙ same)
  where
    bounds : {o : Outcome} {f : Figures} (j : Job) → read_job file ≡ accepted j → o ≡ outcome_by by j → f ≡ figures (by j)
        → Promised by file o.end (figure f) f.dearest
    bounds j a e g =
        let sound = accepted_job file j a in
        let ideal = (some_ideal (instance j) (well_formed by_number j sound)).0 in
        let each = holds j sound in
        record {
          job = j;
          of_file = a;
          end_within = λ S. rw (e, g) (each S).end_within;
          cover_within = rw g (each ideal).cover_within;
          without_results = λ n S. rw (e, g) (rw ((without rule j sound n).1, add-zero (figure (figures (by j)))) at (each S).end_within);
          some_schedule = ideal;
        }

-- 02 §6: "The distance from the rival is shown over an arbitrary priority order": of a planner by any tie rule, and of its cover call
pub worst_case_by : {by : Job → Instance} → TieRule by → (file : List ℕ) (o : Outcome) (f : Figures)
    -- the planner's call on the file reports o, with any slices; its end is E
    → (starts processors scratch : List ℕ) → (plan_call_by by file starts processors scratch).answer ≡ Plan o
    -- the cover call on it reports f, with any slices; its cover is C and its dearest chain D
    → (starts₂ processors₂ scratch₂ : List ℕ) → (cover_call_by by file starts₂ processors₂ scratch₂).answer ≡ Cover f
    → Promised by file o.end f.cover f.dearest
unfolding figures
worst_case_by rule = promised_of rule (λ f. f.cover) (within rule)

-- 00: "Whatever job is accepted, and whatever plan a rival makes for it on the same n boards: if our plan ends at E, as the planner
-- reports, and his greatest finish is F, then n times E is at most (2n - 1) times F plus n times C, where C is the cover of our plan, as
-- the cover call reports it; and C is at most the dearest chain of messages in the job, reported beside it."
pub worst_case : (file : List ℕ) (o : Outcome) (f : Figures)
    → (starts processors scratch : List ℕ) → (plan_call file starts processors scratch).answer ≡ Plan o
    → (starts₂ processors₂ scratch₂ : List ℕ) → (cover_call file starts₂ processors₂ scratch₂).answer ≡ Cover f
    → Promised instance file o.end f.cover f.dearest
worst_case = worst_case_by by_number

-- the planner for small controllers reports what the planner does
by_larger : (file starts processors scratch : List ℕ) (o : Outcome) → (small_call file starts processors scratch).answer ≡ Plan o
    → (plan_call file starts processors larger_scratch).answer ≡ Plan o
by_larger file starts processors scratch o p = sym (as_larger file starts processors scratch o p).answers ∙ p

-- 02 §4: the same of the end that the planner for small controllers reports
pub small_worst_case : (file : List ℕ) (o : Outcome) (f : Figures)
    → (starts processors scratch : List ℕ) → (small_call file starts processors scratch).answer ≡ Plan o
    → (starts₂ processors₂ scratch₂ : List ℕ) → (cover_call file starts₂ processors₂ scratch₂).answer ≡ Cover f
    → Promised instance file o.end f.cover f.dearest
small_worst_case file o f starts processors scratch p =
    worst_case file o f starts processors larger_scratch (by_larger file starts processors scratch o p)

-- 02 §6: ".. and both entries draw on that": the same of the new entry and its cover call, ..
pub weight_worst_case : (file : List ℕ) (o : Outcome) (f : Figures)
    → (starts processors scratch : List ℕ) → (weight_call file starts processors scratch).answer ≡ Plan o
    → (starts₂ processors₂ scratch₂ : List ℕ) → (weight_cover_call file starts₂ processors₂ scratch₂).answer ≡ Cover f
    → Promised instance_by_weight file o.end f.cover f.dearest
weight_worst_case = worst_case_by by_weight

-- .. whose D, "the dearest chain of messages in the job", is the number that the other cover call reports
pub weight_same_dearest : (file : List ℕ) (f g : Figures)
    → (starts processors scratch : List ℕ) → (weight_cover_call file starts processors scratch).answer ≡ Cover f
    → (starts₂ processors₂ scratch₂ : List ℕ) → (cover_call file starts₂ processors₂ scratch₂).answer ≡ Cover g
    → f.dearest ≡ g.dearest
weight_same_dearest = same_dearest by_weight by_number

-- 02 §7: "the rival comparison holds with it in place of C (plus the result time where a job has one)": with the least C over all walks, as
-- the cover call reports it after C, of a planner by any tie rule, ..
pub least_worst_case_by : {by : Job → Instance} → TieRule by → (file : List ℕ) (o : Outcome) (f : Figures)
    → (starts processors scratch : List ℕ) → (plan_call_by by file starts processors scratch).answer ≡ Plan o
    → (starts₂ processors₂ scratch₂ : List ℕ) → (cover_call_by by file starts₂ processors₂ scratch₂).answer ≡ Cover f
    → Promised by file o.end f.least f.dearest
unfolding figures
least_worst_case_by rule = promised_of rule (λ f. f.least) (least_within rule)

-- .. so of document 01's, ..
pub least_worst_case : (file : List ℕ) (o : Outcome) (f : Figures)
    → (starts processors scratch : List ℕ) → (plan_call file starts processors scratch).answer ≡ Plan o
    → (starts₂ processors₂ scratch₂ : List ℕ) → (cover_call file starts₂ processors₂ scratch₂).answer ≡ Cover f
    → Promised instance file o.end f.least f.dearest
least_worst_case = least_worst_case_by by_number

-- .. of the one for small controllers, ..
pub small_least_worst_case : (file : List ℕ) (o : Outcome) (f : Figures)
    → (starts processors scratch : List ℕ) → (small_call file starts processors scratch).answer ≡ Plan o
    → (starts₂ processors₂ scratch₂ : List ℕ) → (cover_call file starts₂ processors₂ scratch₂).answer ≡ Cover f
    → Promised instance file o.end f.least f.dearest
small_least_worst_case file o f starts processors scratch p =
    least_worst_case file o f starts processors larger_scratch (by_larger file starts processors scratch o p)

-- .. and of request §6's
pub weight_least_worst_case : (file : List ℕ) (o : Outcome) (f : Figures)
    → (starts processors scratch : List ℕ) → (weight_call file starts processors scratch).answer ≡ Plan o
    → (starts₂ processors₂ scratch₂ : List ℕ) → (weight_cover_call file starts₂ processors₂ scratch₂).answer ≡ Cover f
    → Promised instance_by_weight file o.end f.least f.dearest
weight_least_worst_case = least_worst_case_by by_weight

-- what both calls answer for a file of m tasks, each with slices of its own
pub record Reported (by : Job → Instance) (file : List ℕ) (m : ℕ) (starts processors scratch starts₂ processors₂ scratch₂ : List ℕ)
    : Type 0 where
  pub reported : Outcome
  pub measured : Figures
  pub of_tasks : reported.tasks ≡ m
  pub planner_reports : (plan_call_by by file starts processors scratch).answer ≡ Plan reported
  pub cover_reports : (cover_call_by by file starts₂ processors₂ scratch₂).answer ≡ Cover measured
  pub promised : Promised by file reported.end measured.cover measured.dearest
  -- 02 §7: ".. with it in place of C"
  pub promised_least : Promised by file reported.end measured.least measured.dearest

-- with room in the slices both calls report, and what is promised holds of what they report, by any tie rule
pub accepted_job_within_by : {by : Job → Instance} → TieRule by → (file : List ℕ) (j : Job) → read_job file ≡ accepted j
    → (starts processors scratch : List ℕ) → HasRoom (length j.tasks) starts processors scratch
    → (starts₂ processors₂ scratch₂ : List ℕ) → HasRoom (length j.tasks) starts₂ processors₂ scratch₂
    → Reported by file (length j.tasks) starts processors scratch starts₂ processors₂ scratch₂
unfolding instance outcome_by
accepted_job_within_by {by} rule file j e starts processors scratch r starts₂ processors₂ scratch₂ r₂ =
    let p = plan_taken by file starts processors scratch (j, e, r) in
    let c = cover_taken by file starts₂ processors₂ scratch₂ (j, e, r₂) in
    record {
      reported = outcome_by by j;
      measured = figures (by j);
      of_tasks = refl;
      planner_reports = p;
      cover_reports = c;
      promised = worst_case_by rule file _ _ starts processors scratch p starts₂ processors₂ scratch₂ c;
      promised_least = least_worst_case_by rule file _ _ starts processors scratch p starts₂ processors₂ scratch₂ c;
    }

-- 00: "Whatever job is accepted ..": of document 01's planner and cover call, ..
pub accepted_job_within : (file : List ℕ) (j : Job) → read_job file ≡ accepted j
    → (starts processors scratch : List ℕ) → HasRoom (length j.tasks) starts processors scratch
    → (starts₂ processors₂ scratch₂ : List ℕ) → HasRoom (length j.tasks) starts₂ processors₂ scratch₂
    → Reported instance file (length j.tasks) starts processors scratch starts₂ processors₂ scratch₂
accepted_job_within = accepted_job_within_by by_number

-- .. and, 02 §6, of the new entry "and a cover call of its own"
pub weight_accepted_job_within : (file : List ℕ) (j : Job) → read_job file ≡ accepted j
    → (starts processors scratch : List ℕ) → HasRoom (length j.tasks) starts processors scratch
    → (starts₂ processors₂ scratch₂ : List ℕ) → HasRoom (length j.tasks) starts₂ processors₂ scratch₂
    → Reported instance_by_weight file (length j.tasks) starts processors scratch starts₂ processors₂ scratch₂
weight_accepted_job_within = accepted_job_within_by by_weight
