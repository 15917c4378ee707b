-- What the program prints for a file, by the reader's answer and by the two calls' answers.
use Rattle.std.specs.Prelude.{◌⊎◌, ◌≡◌, List, ◌++◌, ℕ}
use Rattle.std.proofs.Common.{inl, inr, ◌∙◌}
use Rattle.std.proofs.Math.Path.{refl, ap, sym}
use Rattle.std.proofs.Math.ListN.{length, get_or}
use Rattle.job.specs.Job.{Job}
use Rattle.job.specs.Read.{Answer, accepted, refused, read_job}
use Rattle.job.specs.Cause.{ReaderNumber}
use Rattle.job.specs.Refusal.{read_numbers}
use Rattle.etf.specs.Instance.{duration}
use Rattle.etf.specs.OfJob.{instance}
use Rattle.etf.proofs.Jobs.{by_number}
use Rattle.schedule.specs.Answers.Planned.{Plan}
use Rattle.schedule.specs.Answers.Covered.{Cover}
use Rattle.schedule.specs.declared.Outcome.{Outcome}
use Rattle.schedule.specs.declared.Figures.{Figures}
use Rattle.schedule.specs.Call.{start_of, processor_of}
use Rattle.schedule.specs.Plan.{outcome_by, plan_call}
use Rattle.schedule.specs.Cover.{cover_call}
use Rattle.schedule.specs.Cover.{figures as figures_of}
use Rattle.listing.specs.Listing.{refusal_line, header, task_lines, figures, plan_listing, listing_for, listing}
use Rattle.listing.specs.Laws.Listed.{header_same, lines_same, listing_same}
use Rattle.schedule.specs.Answered.{one_job}
use Rattle.demands.specs.Laws.Answers.{planned_as, outcome_is, covered_as, figures_is}
use Rattle.demands.specs.Laws.Kept.{slices_hold}

pub prints : (file : List ℕ) → ((j : Job) × (read_job file ≡ accepted j) × (listing file ≡ plan_listing j))
    ⊎ ((k : ℕ) × (read_job file ≡ refused k) × ReaderNumber k × (listing file ≡ refusal_line k))
unfolding listing listing_for
prints file = go (read_job file) refl (λ k e. read_numbers file k e)
  where
    go : (a : Answer) → read_job file ≡ a → ((k : ℕ) → read_job file ≡ refused k → ReaderNumber k)
        → ((j : Job) × (read_job file ≡ accepted j) × (listing_for a ≡ plan_listing j))
        ⊎ ((k : ℕ) × (read_job file ≡ refused k) × ReaderNumber k × (listing_for a ≡ refusal_line k))
    go (accepted j) e n = inl (j, e, refl)
    go (refused k) e n = inr (k, e, n k e, refl)

module _ (file starts processors scratch : List ℕ) (o : Outcome) (p : (plan_call file starts processors scratch).answer ≡ Plan o) where
  abbrev start : ℕ → ℕ
  start T = get_or (plan_call file starts processors scratch).starts T 0

  abbrev processor : ℕ → ℕ
  processor T = get_or (plan_call file starts processors scratch).processors T 0

  pub prints_calls : (starts₂ processors₂ scratch₂ : List ℕ) (f : Figures) → (cover_call file starts₂ processors₂ scratch₂).answer ≡ Cover f
      → (j : Job) × (read_job file ≡ accepted j)
      × (listing file ≡ header j.platform.processors o.tasks (length j.edges)
      ++ (task_lines o.tasks processor start (λ T. get_or j.tasks T 0) ++ figures o.end f.cover f.least f.dearest))
  unfolding listing listing_for plan_listing instance duration start_of processor_of outcome_by figures_of
  prints_calls starts₂ processors₂ scratch₂ f c =
      let P = planned_as instance file starts processors scratch o p in
      let Q = covered_as instance file starts₂ processors₂ scratch₂ f c in
      let j = P.job in
      let planned_so = outcome_is instance file starts processors scratch P in
      let covered_so = figures_is instance file starts₂ processors₂ scratch₂ Q in
      let same : figures_of (instance Q.job) ≡ figures_of (instance j) =
      ap (λ (i : Job). figures_of (instance i)) (one_job Q.says P.says) in
      let m-is : o.tasks ≡ length j.tasks = ap (λ (x : Outcome). x.tasks) planned_so in
      let first : header j.platform.processors o.tasks (length j.edges)
      ≡ header j.platform.processors (length j.tasks) (length j.edges) = header_same refl m-is refl in
      let lines : task_lines o.tasks processor start (λ T. get_or j.tasks T 0)
      ≡ task_lines (length j.tasks) (processor_of (instance j)) (start_of (instance j)) (duration (instance j)) =
      lines_same _ _ _ _ _ _ m-is (λ T h. (slices_hold by_number P T h).1) (λ T h. (slices_hold by_number P T h).0) (λ T h. refl) in (
        j,
        P.says,
        ap listing_for P.says
            ∙ sym (listing_same first lines (ap (λ (x : Outcome). x.end) planned_so) (covered_so ∙ same)),
      )
