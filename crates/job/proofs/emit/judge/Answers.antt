-- `emit::judge`: each return is how the reader meets the job's file, in the rack, in the wires, where a step is due,
-- in the steps, in the links, in the results.
use Rattle.std.proofs.Common.{◌≡◌, ◌⊎◌, inl, inr, ℕ, zero, suc, ◌+◌, ◌^◌, ◌≤◌, ◌<◌, Bool, List, [], ◌∷◌, refl, ap, sym, ◌∙◌, arith}
use Rattle.std.proofs.Common.{length, get_or, get_or-take, take}
use Rattle.std.proofs.lemmas.List.{length-take, length-take-le}
use Rattle.std.proofs.lemmas.Result.{err_from_is_err_and}
use Rattle.base.specs.Choice.{pick}
use Rattle.base.specs.Lists.{values}
use Rattle.base.specs.Laws.Tests.{same_or_not}
use Rattle.base.specs.Laws.Values.{length-values, values-take, values_same, each_value}
use Rattle.job.specs.declared.Arrays.{Arrays}
use Rattle.job.specs.declared.Platform.{Platform}
use Rattle.job.specs.Job.{Edge, Result}
use Rattle.job.specs.Table.{is_trouble}
use Rattle.job.specs.Record.{empty, wire_pairs}
use Rattle.job.specs.Read.{accepted, refused_or}
use Rattle.job.specs.Write.{edge_held, results_held, held_job}
use Rattle.job.specs.Pass.{edge, platform_trouble, wires_trouble, steps_trouble, links_trouble, results_trouble, job_trouble}
use Rattle.job.specs.Pass.{StepsJudged, LinksJudged, ResultsJudged, Met}
use Rattle.job.specs.Laws.Judged.{first_none}
use Rattle.job.specs.Laws.Due.{in_ranges}
use Rattle.job.specs.Laws.Lists.{empty_not}
use Rattle.job.specs.Laws.Met.{Writable, met, met_rack, met_wire, met_none, met_step, met_link}
use Rattle.job.specs.Laws.Results.{held_few, held_first, held_with, held_without, held_rise, held_within, sends_are}
use Rattle.job.specs.Laws.Wires.{held_ends}
use Rattle.job.proofs.emit.judge.Goals as goal

some_task : (f : ℕ → ℕ) (m : ℕ) → (m ≡ 0 → ⊥) → ◌≡◌ {A = ℕ} (pick (empty (values f 0 m)) 3 0) 0
unfolding values
some_task f zero n = absurd (n refl)
some_task f (suc m) n = refl

same_trouble : (f g : ℕ → Bool) → ((T : ℕ) → f T ≡ g T) → (rs : List Result) → results_trouble f rs ≡ results_trouble g rs
unfolding results_trouble
same_trouble f g h [] = refl
same_trouble f g h (r ∷ rs) = rw (h r.task, same_trouble f g h rs) refl

-- the results of the first tasks are those of the front of the array
held_front : (rs : List ℕ) (m k : ℕ) → k ≤ m → results_held (take m rs) k ≡ results_held rs k
held_front rs m zero h = held_first (take m rs) ∙ sym (held_first rs)
held_front rs m (suc k) h = go (same_or_not (get_or rs k 0) 0) (held_front rs m k (omega arith))
  where
    more : suc k ≡ k + 1
    more = omega arith

    own : get_or (take m rs) k 0 ≡ get_or rs k 0
    own = get_or-take m rs k 0 h

    go : (get_or rs k 0 ≡ 0) ⊎ (get_or rs k 0 ≡ 0 → ⊥) → results_held (take m rs) k ≡ results_held rs k
        → results_held (take m rs) (suc k) ≡ results_held rs (suc k)
    go (inl e) r = rw more (held_without (take m rs) k (own ∙ e) ∙ r ∙ sym (held_without rs k e))
    go (inr d) r = rw more (held_with (take m rs) k (λ e. d (sym own ∙ e)) ∙ rw (own, r) (sym (held_with rs k d)))

held_all : (rs : List ℕ) (m : ℕ) → m ≤ length rs → results_held (take m rs) (length (take m rs)) ≡ results_held rs m
held_all rs m h = rw (length-take-le m rs h) (held_front rs m m (omega arith))

-- and the edges of the fronts of three arrays are the first ones
module _ (from to counts : List ℕ) (l : ℕ) (few : l ≤ length from) where
  edges_are : values (edge_held (take l from) (take l to) (take l counts)) 0 (length (take l from)) ≡ values (edge_held from to counts) 0 l
  unfolding edge_held
  edges_are =
      rw (length-take-le l from few) (values_same _ _ 0 l
      (λ n a b. let h : n < l = omega arith in rw (get_or-take l from n 0 h, get_or-take l to n 0 h, get_or-take l counts n 0 h) refl))

module _ (p : Platform) (m l : ℕ) (a : Arrays) where
  bad_rack : (r : ℕ) → r ≡ platform_trouble p → (r ≡ 0 → ⊥) → Met (held_job p m l a) r
  unfolding held_job
  bad_rack r e n = met_rack (held_job p m l a) r e n

  module _ (rack : 0 ≡ platform_trouble p) where
    bad_wire : (r : ℕ) → r ≡ wires_trouble (held_job p m l a).wires → (r ≡ 0 → ⊥) → Met (held_job p m l a) r
    unfolding held_job
    bad_wire r e n = met_wire (held_job p m l a) (sym rack) (held_ends a.wires (wire_pairs p)) r e n

    module _ (wires : 0 ≡ wires_trouble (held_job p m l a).wires) where
      no_step : m ≡ 0 → Met (held_job p m l a) 3
      unfolding held_job values
      no_step h = met_none (held_job p m l a) (sym rack) (held_ends a.wires (wire_pairs p)) (sym wires) (rw h)

      module _ (few : m ≤ 256) (long : m ≤ length a.durations) (s : ℕ) (steps : StepsJudged (take m a.durations) s) where
        abbrev tasks : List ℕ
        tasks = values (λ t. get_or a.durations t 0) 0 m

        tasks_are : tasks ≡ take m a.durations
        tasks_are = values-take a.durations m long

        size : length tasks ≡ m
        size = length-values (λ t. get_or a.durations t 0) 0 m

        step_fits : (i : ℕ) → get_or tasks i 0 < 2 ^ 32
        step_fits i = rw tasks_are (steps.fits i).fits

        step_first : s ≡ steps_trouble tasks
        step_first = rw tasks_are steps.first

        bad_step : (s ≡ 0 → ⊥) → Met (held_job p m l a) s
        unfolding held_job
        bad_step n =
            met_step (held_job p m l a) (sym rack) (held_ends a.wires (wire_pairs p)) (sym wires) step_fits (omega (arith, size)) s
            step_first n

        module _ (none : s ≡ 0) (some : m ≡ 0 → ⊥) (few' : l ≤ 1024) (long' : l ≤ length a.from)
            (k : ℕ) (links : LinksJudged (take l a.from) (take l a.to) (take l a.counts) m k) where
          abbrev edges : List Edge
          edges = values (edge_held a.from a.to a.counts) 0 l

          link_first : k ≡ links_trouble (length tasks) 0 edges
          link_first = rw (size, ← edges_are a.from a.to a.counts l long') links.first

          edge_fits : (i : ℕ) → ((get_or edges i (edge 0 0 0)).to < 256) × ((get_or edges i (edge 0 0 0)).count < 2 ^ 16)
          unfolding edge_held
          edge_fits =
              rw (← edges_are a.from a.to a.counts l long')
              (each_value (edge_held (take l a.from) (take l a.to) (take l a.counts)) (λ e. (e.to < 256) × (e.count < 2 ^ 16)) (edge 0 0 0)
              (omega arith, omega arith) (λ i. ((links.to_fits i).fits, (links.count_fits i).fits)) 0 (length (take l a.from)))

          edge_size : length edges ≡ l
          edge_size = length-values (edge_held a.from a.to a.counts) 0 l

          bad_link : (k ≡ 0 → ⊥) → Met (held_job p m l a) k
          unfolding held_job
          bad_link n =
              met_link (held_job p m l a) (sym rack) (held_ends a.wires (wire_pairs p)) (sym wires) step_fits (omega (arith, size))
              (sym step_first ∙ none) (empty_not tasks (λ z. some (omega (arith, size)))) edge_fits (omega (arith, edge_size)) k
              link_first n

          module _ (free : k ≡ 0) (long'' : m ≤ length a.results) (r : ℕ)
              (results : ResultsJudged a.from (take m a.results) l r) where
            writable : Writable (held_job p m l a)
            unfolding held_job
            writable = record {
              wires_stand = held_ends a.wires (wire_pairs p);
              few_tasks = omega (arith, size);
              few_edges = omega (arith, edge_size);
              duration_fits = step_fits;
              edge_fits = edge_fits;
              results_rise = held_rise a.results m;
              result_fits = λ x h. let f = held_within a.results m x h in
                  (omega (arith, f.0, size), rw (f.2, ← get_or-take m a.results x.task 0 f.0) (results.fits x.task).fits);
            }

            last : Met (held_job p m l a) r
            unfolding held_job job_trouble
            last =
                let is : job_trouble (held_job p m l a) ≡ r =
                first_none _ _ (sym rack) ∙ first_none _ _ (sym wires) ∙ first_none _ _ (some_task (λ t. get_or a.durations t 0) m some)
                ∙ first_none _ _ (sym step_first ∙ none) ∙ first_none _ _ (sym link_first ∙ free)
                ∙ same_trouble _ _ (sends_are a.from a.to a.counts l) (results_held a.results m)
                ∙ rw (← held_all a.results m long'') (sym results.first) in
                met (held_job p m l a) writable ∙ ap (λ (n : ℕ). refused_or n (accepted (held_job p m l a))) is

pub returns-in_err-judge_platform-clause-met : goal.returns-in_err-judge_platform-clause-met
returns-in_err-judge_platform-clause-met c =
    let p = err_from_is_err_and c.from_residual.result c.from_residual.ensures.1 in
    rw (p.1, p.2) (bad_rack _ _ _ _ _ c.in_err-judge_platform.ensures (is_trouble _))

pub judge_wires-requires : goal.judge_wires-requires
judge_wires-requires c = in_ranges _ (sym c.in_ok-judge_platform.ensures)

pub returns-in_err-judge_wires-clause-met : goal.returns-in_err-judge_wires-clause-met
returns-in_err-judge_wires-clause-met c =
    let p = err_from_is_err_and c.from_residual-in_err-judge_wires.result c.from_residual-in_err-judge_wires.ensures.1 in
    rw (p.1, p.2) (bad_wire _ _ _ _ c.in_ok-judge_platform.ensures _ c.in_err-judge_wires.ensures (is_trouble _))

pub returns-then-tasks-eq0-clause-met : goal.returns-then-tasks-eq0-clause-met
returns-then-tasks-eq0-clause-met c = no_step _ _ _ _ c.in_ok-judge_platform.ensures c.in_ok-judge_wires.ensures c.if-tasks-eq0.true

pub returns-in_err-judge_steps-clause-met : goal.returns-in_err-judge_steps-clause-met
returns-in_err-judge_steps-clause-met c =
    let p = err_from_is_err_and c.from_residual-in_err-judge_steps.result c.from_residual-in_err-judge_steps.ensures.1 in
    rw (p.1, p.2) (bad_step _ _ _ _ c.in_ok-judge_platform.ensures c.in_ok-judge_wires.ensures c.requires.0
    (omega (arith, length-take {A = ℕ})) _ c.in_err-judge_steps.ensures (is_trouble _))

pub returns-in_err-judge_links-clause-met : goal.returns-in_err-judge_links-clause-met
returns-in_err-judge_links-clause-met c =
    let p = err_from_is_err_and c.from_residual-in_err-judge_links.result c.from_residual-in_err-judge_links.ensures.1 in
    rw (p.1, p.2) (bad_link _ _ _ _ c.in_ok-judge_platform.ensures c.in_ok-judge_wires.ensures c.requires.0
    (omega (arith, length-take {A = ℕ})) _ c.in_ok-judge_steps.ensures refl c.if-tasks-eq0.false c.requires.1
    (omega (arith, length-take {A = ℕ})) _ c.in_err-judge_links.ensures (is_trouble _))

pub returns-in_err-results-clause-met : goal.returns-in_err-results-clause-met
returns-in_err-results-clause-met c =
    let p = err_from_is_err_and c.from_residual-in_err-results.result c.from_residual-in_err-results.ensures.1 in
    rw (p.1, p.2) (last _ _ _ _ c.in_ok-judge_platform.ensures c.in_ok-judge_wires.ensures c.requires.0
    (omega (arith, length-take {A = ℕ})) _ c.in_ok-judge_steps.ensures refl c.if-tasks-eq0.false c.requires.1
    (omega (arith, length-take {A = ℕ})) _ c.in_ok-judge_links.ensures refl (omega (arith, length-take {A = ℕ})) _
    c.in_err-results.ensures.judged)

pub returns-clause-met : goal.returns-clause-met
returns-clause-met c =
    last _ _ _ _ c.in_ok-judge_platform.ensures c.in_ok-judge_wires.ensures c.requires.0
    (omega (arith, length-take {A = ℕ})) _ c.in_ok-judge_steps.ensures refl c.if-tasks-eq0.false c.requires.1
    (omega (arith, length-take {A = ℕ})) _ c.in_ok-judge_links.ensures refl (omega (arith, length-take {A = ℕ})) _
    c.in_ok-results.ensures.judged

counted : (rs : List ℕ) (m n : ℕ) → m ≤ length rs → m ≤ 256 → n ≡ length (results_held (take m rs) (length (take m rs)))
    → (n ≤ 256) × (n ≡ length (results_held rs m))
counted rs m n long few e =
    let h : n ≡ length (results_held rs m) = rw (← held_all rs m long) e in
    (omega (arith, h, held_few rs m), h)

pub invariant_of-result : goal.invariant_of-result
invariant_of-result c =
    let n =
    counted c.args.job.now.arrays.now.results c.args.job.now.tasks _ (omega (arith, length-take {A = ℕ})) c.requires.0
    c.in_ok-results.ensures.counted in
    record {
      rack = in_ranges _ (sym c.in_ok-judge_platform.ensures);
      few_tasks = c.requires.0;
      few_edges = c.requires.1;
      few_results = n.0;
      counted = n.1;
    }
