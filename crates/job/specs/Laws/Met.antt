-- How the reader meets the file of a job: with the job's first trouble, or it accepts the job as it is (`met`); so the numbers are 3 to 7
-- and 15.
use Rattle.std.specs.Prelude.{Bool, not, ◌⊎◌, ◌≡◌, ℕ, zero, suc, ◌+◌, ◌^◌, ◌≤◌, ◌<◌, leb, T as Holds, length, get_or}
use Rattle.std.proofs.Math.Bool.{true, false}
use Rattle.std.proofs.Common.{inl, inr, ⊎_elim, ◌∙◌, arith}
use Rattle.std.proofs.Math.Path.{refl, ap, sym}
use mathlib.Core.List.{List, [], ◌∷◌, ◌++◌, append-nil, map, flat_map}
use Rattle.std.proofs.lemmas.List.{length-map}
use Rattle.base.specs.Choice.{pick}
use Rattle.base.specs.Lists.{◌∈◌}
use Rattle.base.specs.Laws.Tests.{impossible, when_true, when_false}
use Rattle.base.specs.Laws.Values.{length-values, each_value}
use Rattle.job.specs.declared.Arrays.{Arrays}
use Rattle.job.specs.declared.Platform.{Platform}
use Rattle.job.specs.Job.{Edge, Wire, Result, RiseByTask, ends, Job, blank, with_rack, with_wires, with_tasks, with_edges}
use Rattle.job.specs.Record.{kind_of, empty, stands, platform_in_range, duration_in_range, count_in_range, cost_in_range, joins}
use Rattle.job.specs.Record.{wire_pairs, too_early_number, has_successor, past_results}
use Rattle.job.specs.Read.{accepted, refused, refused_or, judged, records, read_job}
use Rattle.job.specs.Write.{Refused}
use Rattle.job.specs.Write.{wire_bytes, step_bytes, link_bytes, result_bytes, file_of, edge_held, held_job, Held, room_for, is_too_many}
use Rattle.job.specs.Write.{write_answer, WriterNumber}
use Rattle.job.specs.Pass.{edge, key, first_of, platform_trouble, cost_trouble, step_trouble, link_trouble, wires_trouble, steps_trouble}
use Rattle.job.specs.Pass.{links_trouble, delivery_trouble, results_trouble, job_trouble, Met, LinkDue}
use Rattle.job.specs.Laws.Judged.{under, passes, stops}
use Rattle.job.specs.Laws.Due.{racked, first_wire, all_due, due_after, wired_up, first_step, first_link}
use Rattle.job.specs.Laws.Encoded.{first_met, read_rack, read_wires, read_steps, read_links, read_results, read_end}
use Rattle.job.specs.Laws.Results.{held_rise, held_within}
use Rattle.job.specs.Laws.Wires.{held_ends, by_wires}
use Rattle.job.specs.Laws.Lists.{empty_nil, some_in}
use Rattle.job.specs.Laws.Halt.{few_counts, room_refused}

-- a trouble's number: none, 3 to 7, or 15
abbrev Number : ℕ → Type 0
Number n = (n ≡ 0) ⊎ (((3 ≤ n) × (n ≤ 7)) ⊎ (n ≡ 15))

first_number : (a b : ℕ) → Number a → Number b → Number (first_of a b)
first_number zero b x y = y
first_number (suc a) b x y = x

range_number : (t : Bool) → Number (pick (not t) 4 0)
range_number true = inl refl
range_number false = inr (inl (omega arith))

wires_number : (ws : List Wire) → Number (wires_trouble ws)
unfolding wires_trouble cost_trouble
wires_number [] = inl refl
wires_number (w ∷ ws) = first_number (cost_trouble w.cost) (wires_trouble ws) (range_number (cost_in_range w.cost)) (wires_number ws)

steps_number : (ds : List ℕ) → Number (steps_trouble ds)
unfolding steps_trouble step_trouble
steps_number [] = inl refl
steps_number (d ∷ ds) = first_number (step_trouble d) (steps_trouble ds) (range_number (duration_in_range d)) (steps_number ds)

links_number : (m least : ℕ) (es : List Edge) → Number (links_trouble m least es)
unfolding links_trouble link_trouble
links_number m least [] = inl refl
links_number m least (e ∷ es) =
    first_number (link_trouble m least e) (links_trouble m (key e + 1) es) (go (count_in_range e.count) (joins m e) (leb least (key e)))
    (links_number m (key e + 1) es)
  where
    go : (c j b : Bool) → Number (pick (not c) 4 (pick (not j) 6 (pick (not b) 7 0)))
    go false j b = inr (inl (omega arith))
    go true false b = inr (inl (omega arith))
    go true true false = inr (inl (omega arith))
    go true true true = inl refl

results_number : (sent : ℕ → Bool) (rs : List Result) → Number (results_trouble sent rs)
unfolding results_trouble delivery_trouble
results_number sent [] = inl refl
results_number sent (r ∷ rs) =
    first_number (delivery_trouble (sent r.task) r.count) (results_trouble sent rs) (go (count_in_range r.count) (sent r.task))
    (results_number sent rs)
  where
    go : (c s : Bool) → Number (pick (not c) 4 (pick s 15 0))
    go false s = inr (inl (omega arith))
    go true true = inr (inr refl)
    go true false = inl refl

none_number : (b : Bool) → Number (pick b 3 0)
none_number true = inr (inl (omega arith))
none_number false = inl refl

job_number : (j : Job) → Number (job_trouble j)
unfolding job_trouble platform_trouble
job_number j =
    first_number _ _ (range_number (platform_in_range j.platform))
    (first_number _ _ (wires_number j.wires)
    (first_number _ _ (none_number (empty j.tasks))
    (first_number _ _ (steps_number j.tasks)
    (first_number _ _ (links_number (length j.tasks) 0 j.edges) (results_number (has_successor j.edges) j.results)))))

-- a job whose numbers have as many bytes as a file has for them, and that has as many records as a file can have
pub record Writable (j : Job) : Type 0 where
  pub few_tasks : length j.tasks ≤ 256
  pub few_edges : length j.edges ≤ 1024
  pub wires_stand : map ends j.wires ≡ wire_pairs j.platform
  pub duration_fits : (t : ℕ) → get_or j.tasks t 0 < 2 ^ 32
  pub edge_fits : (i : ℕ) → ((get_or j.edges i (edge 0 0 0)).to < 256) × ((get_or j.edges i (edge 0 0 0)).count < 2 ^ 16)
  pub results_rise : RiseByTask j.results
  pub result_fits : (r : Result) → r ∈ j.results → (r.task < length j.tasks) × (r.count < 2 ^ 16)

-- a job without tasks: the reader meets a link, a result or the end where a step is due
untasked : (p : Platform) (ws : List Wire) (es : List Edge) (rs : List Result)
    → records (flat_map link_bytes es ++ (flat_map result_bytes rs ++ (4 ∷ []))) 0 (with_wires (with_rack blank p) ws) ≡ refused 3
unfolding records kind_of judged stands flat_map link_bytes result_bytes blank
untasked p ws [] [] = refl
untasked p ws [] (r ∷ rs) = refl
untasked p ws (e ∷ es) rs = refl

-- the rack's wires, those of its pairs: they are met, and then a step is due
module _ (p : Platform) (ws : List Wire) (n : 1 ≤ p.processors) (stand : map ends ws ≡ wire_pairs p) where
  met_wires : (tail : List ℕ)
      → records (flat_map wire_bytes ws ++ tail) 0 (with_rack blank p)
      ≡ refused_or (wires_trouble ws) (records tail 0 (with_wires (with_rack blank p) ws))
  met_wires tail =
      read_wires (with_rack blank p) ws tail (λ h. first_wire p n (by_wires p (rw (← stand, length-map ws ends) h))) (all_due p ∙ sym stand)

  all_wired : too_early_number (with_wires (with_rack blank p) ws) ≡ 0
  unfolding blank
  all_wired = wired_up (with_wires (with_rack blank p) ws)
      (due_after (with_wires (with_rack blank p) ws) [] (append-nil (map ends ws) ∙ stand))

module _ (j : Job) (w : Writable j) where
  abbrev results : List ℕ
  results = flat_map result_bytes j.results ++ (4 ∷ [])

  abbrev links : List ℕ
  links = flat_map link_bytes j.edges ++ results

  -- the trouble of the links and the results
  abbrev joined : ℕ
  joined = first_of (links_trouble (length j.tasks) 0 j.edges) (results_trouble (has_successor j.edges) j.results)

  -- the rack and its wires
  abbrev platformed : Job
  platformed = with_wires (with_rack blank j.platform) j.wires

  -- what is left after the steps: links and results
  after-steps : Holds (not (empty j.tasks)) → records links 0 (with_tasks platformed j.tasks) ≡ refused_or joined (accepted j)
  unfolding blank stands past_results
  after-steps some =
      let i : Job = with_tasks platformed j.tasks in
      let d : LinkDue i (length j.tasks) 0 0 = first_link i (length j.tasks) (some_in j.tasks some) refl refl refl in
      read_links i (length j.tasks) 0 0 j.edges results d w.edge_fits (omega (arith, w.few_edges))
      ∙ ap (refused_or (links_trouble (length j.tasks) 0 j.edges))
      (read_results (with_edges i j.edges) j.results (4 ∷ []) some w.results_rise
      (λ r h. ((w.result_fits r h).0, tt, (w.result_fits r h).1))
      ∙ ap (refused_or (results_trouble (has_successor j.edges) j.results)) (read_end j some))
      ∙ sym (first_met (links_trouble (length j.tasks) 0 j.edges) _ (accepted j))

  -- what is left after the wires: no task, or steps, links and results
  after-wires : 1 ≤ j.platform.processors → records (flat_map step_bytes j.tasks ++ links) 0 platformed ≡
      refused_or (first_of (pick (empty j.tasks) 3 0) (first_of (steps_trouble j.tasks) joined)) (accepted j)
  unfolding flat_map
  after-wires n = go (empty j.tasks) refl
    where
      go : (b : Bool) → empty j.tasks ≡ b → records (flat_map step_bytes j.tasks ++ links) 0 platformed ≡
          refused_or (first_of (pick b 3 0) (first_of (steps_trouble j.tasks) joined)) (accepted j)
      go true e = rw (empty_nil j.tasks (when_true e)) (untasked j.platform j.wires j.edges j.results)
      go false e =
          read_steps platformed 0 j.tasks links (first_step j.platform j.wires n)
          (all_wired j.platform j.wires n w.wires_stand) w.duration_fits (omega (arith, w.few_tasks))
          ∙ ap (refused_or (steps_trouble j.tasks)) (after-steps (when_false e))
          ∙ sym (first_met (steps_trouble j.tasks) joined (accepted j))

  -- what is left after the rack
  after-rack : 1 ≤ j.platform.processors
      → records (flat_map wire_bytes j.wires ++ (flat_map step_bytes j.tasks ++ links)) 0 (with_rack blank j.platform) ≡
      refused_or (first_of (wires_trouble j.wires) (first_of (pick (empty j.tasks) 3 0) (first_of (steps_trouble j.tasks) joined)))
      (accepted j)
  after-rack n =
      met_wires j.platform j.wires n w.wires_stand (flat_map step_bytes j.tasks ++ links)
      ∙ ap (refused_or (wires_trouble j.wires)) (after-wires n)
      ∙ sym (first_met (wires_trouble j.wires) _ (accepted j))

  pub met : Met j (job_trouble j)
  unfolding read_job file_of job_trouble
  met =
      read_rack j.platform (flat_map wire_bytes j.wires ++ (flat_map step_bytes j.tasks ++ links))
      ∙ under (platform_trouble j.platform) _ _ (λ e. after-rack (racked j.platform e))
      ∙ sym (first_met (platform_trouble j.platform) _ (accepted j))

-- a trouble that is met before all records are read: in the rack, in a wire, for want of a step, in a step, in a link
module _ (j : Job) where
  abbrev joining : List ℕ
  joining = flat_map link_bytes j.edges ++ (flat_map result_bytes j.results ++ (4 ∷ []))

  abbrev steps : List ℕ
  steps = flat_map step_bytes j.tasks ++ joining

  pub met_rack : (r : ℕ) → r ≡ platform_trouble j.platform → (r ≡ 0 → ⊥) → Met j r
  unfolding read_job file_of
  met_rack r is n = read_rack j.platform (flat_map wire_bytes j.wires ++ steps) ∙ rw (← is) (stops r _ n ∙ sym (stops r (accepted j) n))

  module _ (e : platform_trouble j.platform ≡ 0) (stand : map ends j.wires ≡ wire_pairs j.platform) where
    past_rack : read_job (file_of j)
        ≡ refused_or (wires_trouble j.wires) (records steps 0 (with_wires (with_rack blank j.platform) j.wires))
    unfolding read_job file_of
    past_rack =
        read_rack j.platform (flat_map wire_bytes j.wires ++ steps) ∙ passes (platform_trouble j.platform) _ e
        ∙ met_wires j.platform j.wires (racked j.platform e) stand steps

    pub met_wire : (r : ℕ) → r ≡ wires_trouble j.wires → (r ≡ 0 → ⊥) → Met j r
    met_wire r is n = past_rack ∙ rw (← is) (stops r _ n ∙ sym (stops r (accepted j) n))

    module _ (f : wires_trouble j.wires ≡ 0) where
      pub met_none : j.tasks ≡ [] → Met j 3
      unfolding flat_map
      met_none h = past_rack ∙ passes (wires_trouble j.wires) _ f ∙ rw h (untasked j.platform j.wires j.edges j.results)

      module _ (fits : (i : ℕ) → get_or j.tasks i 0 < 2 ^ 32) (few : length j.tasks ≤ 256) where
        past_wires_lem : read_job (file_of j)
            ≡ refused_or (steps_trouble j.tasks)
            (records joining 0 (with_tasks (with_wires (with_rack blank j.platform) j.wires) j.tasks))
        past_wires_lem =
            past_rack ∙ passes (wires_trouble j.wires) _ f
            ∙ read_steps (with_wires (with_rack blank j.platform) j.wires) 0 j.tasks joining
            (first_step j.platform j.wires (racked j.platform e))
            (all_wired j.platform j.wires (racked j.platform e) stand) fits (omega arith)

        pub met_step : (r : ℕ) → r ≡ steps_trouble j.tasks → (r ≡ 0 → ⊥) → Met j r
        met_step r is n = past_wires_lem ∙ rw (← is) (stops r _ n ∙ sym (stops r (accepted j) n))

        pub met_link : steps_trouble j.tasks ≡ 0 → Holds (not (empty j.tasks))
            → ((i : ℕ) → ((get_or j.edges i (edge 0 0 0)).to < 256) × ((get_or j.edges i (edge 0 0 0)).count < 2 ^ 16))
            → length j.edges ≤ 1024 → (r : ℕ) → r ≡ links_trouble (length j.tasks) 0 j.edges → (r ≡ 0 → ⊥) → Met j r
        unfolding blank
        met_link y some edge_fits few_edges r is n =
            let i : Job = with_tasks (with_wires (with_rack blank j.platform) j.wires) j.tasks in
            past_wires_lem ∙ passes (steps_trouble j.tasks) _ y
            ∙ read_links i (length j.tasks) 0 0 j.edges (flat_map result_bytes j.results ++ (4 ∷ []))
            (first_link i (length j.tasks) (some_in j.tasks some) refl refl refl) edge_fits (omega arith)
            ∙ rw (← is) (stops r _ n ∙ sym (stops r (accepted j) n))

-- an accepted file of a job is accepted as this job
pub met_accepted : (n : ℕ) (j i : Job) → refused_or n (accepted j) ≡ accepted i → i ≡ j
met_accepted zero j i e = cc
met_accepted (suc n) j i e = let z : false ≡ true = cc in impossible z

met_refused : (t n : ℕ) (j : Job) → Number t → refused_or t (accepted j) ≡ refused n → ((3 ≤ n) × (n ≤ 7)) ⊎ (n ≡ 15)
met_refused t n j (inl z) e =
    let q : accepted j ≡ refused n = sym (passes t (accepted j) z) ∙ e in
    let f : false ≡ true = cc in impossible f
met_refused t n j (inr h) e =
    let some : t ≡ 0 → ⊥ = λ z. ⊎_elim (λ (b : (3 ≤ t) × (t ≤ 7)). omega arith) (λ (b : t ≡ 15). omega arith) h in
    let q : refused t ≡ refused n = sym (stops t (accepted j) some) ∙ e in
    let s : t ≡ n = cc in
    rw s at h

-- a job held in arrays can be written down
pub held_writable : (p : Platform) (m l : ℕ) (a : Arrays) → (m ≤ 256) × (l ≤ 1024) → Held a → Writable (held_job p m l a)
unfolding held_job edge_held
held_writable p m l a few h = record {
  wires_stand = held_ends a.wires (wire_pairs p);
  few_tasks = omega (arith, length-values (λ t. get_or a.durations t 0) 0 m);
  few_edges = omega (arith, length-values (edge_held a.from a.to a.counts) 0 l);
  duration_fits = each_value (λ t. get_or a.durations t 0) (λ d. d < 2 ^ 32) 0 (omega arith) h.duration_fits 0 m;
  edge_fits = each_value (edge_held a.from a.to a.counts) (λ e. (e.to < 256) × (e.count < 2 ^ 16)) (edge 0 0 0)
      (omega arith, omega arith)
      (λ i. (h.to_fits i, h.count_fits i)) 0 l;
  results_rise = held_rise a.results m;
  result_fits = λ r k. let f = held_within a.results m r k in (
    omega (arith, f.0, length-values (λ t. get_or a.durations t 0) 0 m),
    rw f.2 (h.result_fits r.task),
  );
}

-- and so the writer's numbers are 3 to 7, 9 and 15
pub writer_numbers : (p : Platform) (m l : ℕ) (a : Arrays) (out : List ℕ) (n : ℕ) → Held a →
    write_answer m l (held_job p m l a) out ≡ Refused n → WriterNumber n
unfolding write_answer WriterNumber
writer_numbers p m l a out n h e = go (is_too_many m l) refl e
  where
    j : Job
    j = held_job p m l a

    go : (b : Bool) → is_too_many m l ≡ b → pick b (Refused 5) (room_for (file_of j) out (read_job (file_of j))) ≡ Refused n →
        WriterNumber n
    go true hb q = let z : 5 ≡ n = cc in inl (omega arith)
    go false hb q =
        let w = held_writable p m l a (few_counts m l (when_false hb)) h in
        ⊎_elim (λ r. ⊎_elim inl (λ z. inr (inr z)) (met_refused (job_trouble j) n j (job_number j) (sym (met j w) ∙ r)))
        (λ r. inr (inl r.0)) (room_refused n (file_of j) out (read_job (file_of j)) q)
