-- How the reader meets written records, after any job so far: a record's bytes give its values back, so a run of records comes to its
-- first trouble or to the job with all of them.
use Rattle.std.specs.Prelude.{Bool, true, false, not, ◌&&◌, ◌≡◌, refl, ℕ, zero, suc, ◌+◌, ◌^◌, ◌<◌, ◌≤◌, T as Holds, length, get_or, take}
use Rattle.std.proofs.Common.{ap, ◌∙◌, sym, arith, eq-eqb, lt-ltb, le→leb, length-append, take_at, drop_at}
use mathlib.Core.List.{List, [], ◌∷◌, ◌++◌, append_assoc, map, flat_map}
use Rattle.base.specs.Choice.{pick}
use Rattle.base.specs.Lists.{◌∈◌, here, there}
use Rattle.base.specs.Number.{number, bytes}
use Rattle.base.specs.Laws.Tests.{is_true}
use Rattle.base.specs.Laws.Number.{length_bytes, number_bytes}
use Rattle.job.specs.declared.Platform.{Platform}
use Rattle.job.specs.Job.{Edge, Wire, Result, RiseByTask, ends, Job, blank, with_rack, with_wires, with_tasks, with_edges, job_with_results}
use Rattle.job.specs.Record.{rack, step, link, end, wire, result, kind_of, body_length, no_rack, stands, full, in_range, misfit, added}
use Rattle.job.specs.Record.{platform_in, duration_in, edge_in, wire_in, result_in, pairs_due, is_due, too_early_number, has_successor}
use Rattle.job.specs.Record.{past_results, may_deliver}
use Rattle.job.specs.Read.{Answer, accepted, refused_or, after, judged, records}
use Rattle.job.specs.Write.{rack_bytes, wire_bytes, step_bytes, link_bytes, result_bytes}
use Rattle.job.specs.Pass.{key, edge, first_of, platform_trouble, cost_trouble, step_trouble, link_trouble, wires_trouble, steps_trouble}
use Rattle.job.specs.Pass.{links_trouble, delivery_trouble, results_trouble, StepDue, LinkDue}
use Rattle.job.specs.Laws.Judged.{whole_at}
use Rattle.job.specs.Laws.Due.{wires_then, tasks_then, edges_then, no_wires, no_tasks, no_edges, due_then, next_step, next_link}
use Rattle.job.specs.Laws.Due.{results_then, nothing_delivered, steps_room, links_room}
use Rattle.job.specs.Laws.Results.{past_more}

-- the first of two troubles is met first
pub first_met : (a b : ℕ) (x : Answer) → refused_or (first_of a b) x ≡ refused_or a (refused_or b x)
first_met zero b x = refl
first_met (suc a) b x = refl

-- the number is the one whose bytes stand there
number_read : (k x : ℕ) (tail : List ℕ) → x < 256 ^ k → number (take k (bytes k x ++ tail)) ≡ x
number_read k x tail h = rw (take_at (bytes k x) tail k (length_bytes k x)) (number_bytes k x h)

pub read_rack : (p : Platform) (tail : List ℕ) →
    records (rack_bytes p ++ tail) 0 blank ≡ refused_or (platform_trouble p) (records tail 0 (with_rack blank p))
unfolding rack_bytes kind_of stands no_rack full body_length in_range misfit added platform_in platform_trouble blank
read_rack p tail = whole_at (rack_bytes p ++ tail) 0 blank rack (omega arith) refl tt tt (omega arith) (omega arith)

-- one wire, of the next pair due
read_wire : (j : Job) (w : Wire) (xs : List (ℕ × ℕ)) (tail : List ℕ) → Holds (stands j wire) → pairs_due j ≡ ends w ∷ xs →
    records (wire_bytes w ++ tail) 0 j ≡ refused_or (cost_trouble w.cost) (records tail 0 (with_wires j (w ∷ [])))
unfolding wire_bytes kind_of body_length full in_range misfit added wire_in is_due cost_trouble
read_wire j w xs tail s due =
    rw (due, eq-eqb w.from w.from refl, eq-eqb w.to w.to refl) at
    (whole_at (wire_bytes w ++ tail) 0 j wire (omega arith) refl s tt (omega arith) (omega arith))

pub read_wires : (j : Job) (ws : List Wire) (tail : List ℕ) → (1 ≤ length ws → Holds (stands j wire)) → pairs_due j ≡ map ends ws →
    records (flat_map wire_bytes ws ++ tail) 0 j ≡ refused_or (wires_trouble ws) (records tail 0 (with_wires j ws))
unfolding flat_map wires_trouble stands no_rack
read_wires j [] tail s due = ap (records tail 0) (sym (no_wires j))
read_wires j (w ∷ ws) tail s due =
    let i : Job = with_wires j (w ∷ []) in
    let rec : records (flat_map wire_bytes ws ++ tail) 0 i ≡ refused_or (wires_trouble ws) (records tail 0 (with_wires i ws)) =
    read_wires i ws tail (λ h. s (omega arith)) (due_then j (ends w) (map ends ws) w due) in
    rw (append_assoc (wire_bytes w) (flat_map wire_bytes ws) tail)
    (read_wire j w (map ends ws) (flat_map wire_bytes ws ++ tail) (s (omega arith)) due
    ∙ rw (rec, wires_then j (w ∷ []) ws)
    (sym (first_met (cost_trouble w.cost) (wires_trouble ws) (records tail 0 (with_wires j (w ∷ ws))))))

-- one step
read_step : (j : Job) (m d : ℕ) (tail : List ℕ) → StepDue j m → too_early_number j ≡ 0 → m < 256 → d < 2 ^ 32 →
    records (step_bytes d ++ tail) 0 j ≡ refused_or (step_trouble d) (records tail 0 (with_tasks j (d ∷ [])))
unfolding step_bytes kind_of body_length in_range misfit added duration_in step_trouble
read_step j m d tail s wired few h =
    let l : length (bytes 4 d) ≡ 4 = length_bytes 4 d in
    rw (number_read 4 d tail h, drop_at (bytes 4 d) tail 4 l, wired) at
    (whole_at (step_bytes d ++ tail) 0 j step (omega arith) refl s.placed (steps_room s few) (omega arith)
    (rw (length-append (bytes 4 d) tail) (omega arith)))

pub read_steps : (j : Job) (m : ℕ) (ds tail : List ℕ) → StepDue j m → too_early_number j ≡ 0 → ((i : ℕ) → get_or ds i 0 < 2 ^ 32)
    → m + length ds ≤ 256 →
    records (flat_map step_bytes ds ++ tail) 0 j ≡ refused_or (steps_trouble ds) (records tail 0 (with_tasks j ds))
unfolding flat_map steps_trouble too_early_number pairs_due
read_steps j m [] tail s wired h few = ap (records tail 0) (sym (no_tasks j))
read_steps j m (d ∷ ds) tail s wired h few =
    let rec : records (flat_map step_bytes ds ++ tail) 0 (with_tasks j (d ∷ [])) ≡
    refused_or (steps_trouble ds) (records tail 0 (with_tasks (with_tasks j (d ∷ [])) ds)) =
    read_steps (with_tasks j (d ∷ [])) (m + 1) ds tail (next_step s (d ∷ []) (m + 1) refl) wired (λ i. h (suc i)) (omega arith) in
    rw (append_assoc (step_bytes d) (flat_map step_bytes ds) tail)
    (read_step j m d (flat_map step_bytes ds ++ tail) s wired (omega arith) (h 0)
    ∙ rw (rec, tasks_then j (d ∷ []) ds) (sym (first_met (step_trouble d) (steps_trouble ds) (records tail 0 (with_tasks j (d ∷ ds))))))

-- one link
read_link : (j : Job) (m l least : ℕ) (e : Edge) (tail : List ℕ) → LinkDue j m l least → l < 1024 → e.to < 256 → e.count < 2 ^ 16 →
    records (link_bytes e ++ tail) 0 j ≡ refused_or (link_trouble m least e) (records tail 0 (with_edges j (e ∷ [])))
unfolding link_bytes kind_of body_length in_range misfit added edge_in link_trouble
read_link j m l least e tail s few h c =
    let k : length (bytes 2 e.count) ≡ 2 = length_bytes 2 e.count in
    rw (number_read 2 e.count tail c, drop_at (bytes 2 e.count) tail 2 k, s.tasks_are, s.above e h) at
    (whole_at (link_bytes e ++ tail) 0 j link (omega arith) refl s.placed (links_room s few) (omega arith)
    (rw (length-append (bytes 2 e.count) tail) (omega arith)))

pub read_links : (j : Job) (m l least : ℕ) (es : List Edge) (tail : List ℕ) → LinkDue j m l least →
    ((i : ℕ) → ((get_or es i (edge 0 0 0)).to < 256) × ((get_or es i (edge 0 0 0)).count < 2 ^ 16)) → l + length es ≤ 1024 →
    records (flat_map link_bytes es ++ tail) 0 j ≡ refused_or (links_trouble m least es) (records tail 0 (with_edges j es))
unfolding flat_map links_trouble
read_links j m l least [] tail s h few = ap (records tail 0) (sym (no_edges j))
read_links j m l least (e ∷ es) tail s h few =
    let rec : records (flat_map link_bytes es ++ tail) 0 (with_edges j (e ∷ [])) ≡
    refused_or (links_trouble m (key e + 1) es) (records tail 0 (with_edges (with_edges j (e ∷ [])) es)) =
    read_links (with_edges j (e ∷ [])) m (l + 1) (key e + 1) es tail (next_link s e (h 0).0) (λ i. h (suc i)) (omega arith) in
    rw (append_assoc (link_bytes e) (flat_map link_bytes es) tail)
    (read_link j m l least e (flat_map link_bytes es ++ tail) s (omega arith) (h 0).0 (h 0).1
    ∙ rw (rec, edges_then j (e ∷ []) es)
    (sym (first_met (link_trouble m least e) (links_trouble m (key e + 1) es) (records tail 0 (with_edges j (e ∷ es))))))

-- where a task is below m and above that of the last result, it may deliver one unless it has a successor
unless : (sent : Bool) → ◌≡◌ {A = ℕ} (pick (not (not sent && true)) 15 0) (pick sent 15 0)
unless true = refl
unless false = refl

-- one result, of a task below m that stands above that of the last one
read_result : (j : Job) (r : Result) (tail : List ℕ) → Holds (stands j result) → r.task < length j.tasks
    → Holds (past_results j.results r.task) → r.count < 2 ^ 16 →
    records (result_bytes r ++ tail) 0 j
    ≡ refused_or (delivery_trouble (has_successor j.edges r.task) r.count) (records tail 0 (job_with_results j (r ∷ [])))
unfolding result_bytes kind_of body_length full in_range misfit added result_in may_deliver delivery_trouble
read_result j r tail s low past c =
    let k : length (bytes 2 r.count) ≡ 2 = length_bytes 2 r.count in
    rw (
      number_read 2 r.count tail c,
      drop_at (bytes 2 r.count) tail 2 k,
      lt-ltb r.task (length j.tasks) low,
      is_true (past_results j.results r.task) past,
      unless (has_successor j.edges r.task),
    ) at
    (whole_at (result_bytes r ++ tail) 0 j result (omega arith) refl s tt (omega arith)
    (rw (length-append (bytes 2 r.count) tail) (omega arith)))

pub read_results : (j : Job) (rs : List Result) (tail : List ℕ) → Holds (stands j result) → RiseByTask rs
    → ((r : Result) → r ∈ rs → (r.task < length j.tasks) × Holds (past_results j.results r.task) × (r.count < 2 ^ 16)) →
    records (flat_map result_bytes rs ++ tail) 0 j
    ≡ refused_or (results_trouble (has_successor j.edges) rs) (records tail 0 (job_with_results j rs))
unfolding flat_map results_trouble stands
read_results j [] tail s up h = ap (records tail 0) (sym (nothing_delivered j))
read_results j (r ∷ rs) tail s up h =
    let sent = has_successor j.edges in
    let i : Job = job_with_results j (r ∷ []) in
    let f = h r (here refl) in
    let rec : records (flat_map result_bytes rs ++ tail) 0 i
    ≡ refused_or (results_trouble sent rs) (records tail 0 (job_with_results i rs)) =
    read_results i rs tail s up.1 (λ x k. (
      (h x (there k)).0,
      rw (past_more j.results r x.task) (le→leb (r.task + 1) x.task (omega (arith, up.0 x k))),
      (h x (there k)).2,
    )) in
    rw (append_assoc (result_bytes r) (flat_map result_bytes rs) tail)
    (read_result j r (flat_map result_bytes rs ++ tail) s f.0 f.1 f.2
    ∙ rw (rec, results_then j (r ∷ []) rs)
    (sym (first_met (delivery_trouble (sent r.task) r.count) (results_trouble sent rs) (records tail 0 (job_with_results j (r ∷ rs))))))

pub read_end : (j : Job) → Holds (stands j end) → records (4 ∷ []) 0 j ≡ accepted j
unfolding records kind_of judged full body_length in_range misfit after
read_end j s = simp (is_true (stands j end) s)
