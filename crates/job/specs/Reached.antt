-- The two lengths of RoundTrip.antt are the least ones: a file of 8,369 bytes is accepted, and a file's first 8,371 bytes do not settle its
-- answer. Both by one job, whose links leave five of its 256 tasks and whose results are those of the others.
use Rattle.std.specs.Prelude.{not, ◌&&◌, ◌≡◌, refl, ℕ, zero, suc, ◌+◌, ◌*◌, ◌-◌, ◌^◌, ◌≤◌, ◌<◌, ltb, eqb, T as Holds, length, get_or, take}
use Rattle.std.proofs.Common.{ap, sym, ◌∙◌, arith, ltb→lt, eqb→eq, length-append, take_at}
use mathlib.Core.List.{List, [], ◌∷◌, ◌++◌, append_assoc, append-nil, map, flat_map}
use Rattle.base.specs.Lists.{◌∈◌, here, there, upto, any, all, filter, values}
use Rattle.base.specs.Number.{number, bytes, Bytes, none, more}
use Rattle.base.specs.Laws.Tests.{parts, fails, is_not}
use Rattle.base.specs.Laws.Lists.{any_one, all_at}
use Rattle.base.specs.Laws.Values.{each_value, for_values}
use Rattle.base.specs.Laws.Stored.{flat_size}
use Rattle.job.specs.declared.Platform.{Platform}
use Rattle.job.specs.Job.{Edge, Wire, Result, RiseByTask, ends, Job, blank, with_rack, with_wires, with_tasks, with_edges}
use Rattle.job.specs.Record.{kind_of, body_length, result_in, empty, stands, full, platform_in_range, duration_in_range, count_in_range}
use Rattle.job.specs.Record.{cost_in_range, in_range, joins, pairs, wire_pairs, has_successor, past_results, may_deliver, misfit}
use Rattle.job.specs.Read.{accepted, refused, judged, records, read_job}
use Rattle.job.specs.Write.{rack_bytes, wire_bytes, step_bytes, link_bytes, result_bytes, wire_held, greatest_length, settling_length}
use Rattle.job.specs.Pass.{key, edge, result_of, platform_trouble, step_trouble, link_trouble, cost_trouble, delivery_trouble}
use Rattle.job.specs.Pass.{wires_trouble, steps_trouble, links_trouble, results_trouble}
use Rattle.job.specs.Laws.Judged.{passes, first_none}
use Rattle.job.specs.Laws.Due.{first_wire, all_due, due_after, wired_up, first_step, first_link}
use Rattle.job.specs.Laws.Encoded.{read_rack, read_wires, read_steps, read_links, read_results, read_end}
use Rattle.job.specs.Laws.Sizes.{wire_size, step_size, link_size, result_size}
use Rattle.job.specs.Laws.Wires.{held_ends}

-- ---- the job

-- k links from task a, to the tasks after it
abbrev fan : ℕ → ℕ → List Edge
fan a k = values (λ b. edge a b 1) (a + 1) k

-- all that can leave tasks 0 to 3, and 10 from task 4
links : List Edge
unfolding values
links = fan 0 255 ++ (fan 1 254 ++ (fan 2 253 ++ (fan 3 252 ++ fan 4 10)))

-- k results, of task T and the tasks after it
abbrev results_of : ℕ → ℕ → List Result
results_of T k = values (λ S. result_of S 1) T k

results : List Result
unfolding values
results = results_of 5 251

tasks : List ℕ
unfolding values
tasks = values (λ i. 1) 0 256

-- 16 processors by their wires, each of cost 0
abbrev platform : Platform
platform = record { processors = 16; topology = 3; unit = 0 }

wires : List Wire
unfolding wire_pairs pairs upto filter flat_map wire_held
wires = map (wire_held []) (wire_pairs platform)

abbrev greatest : Job
greatest = record { platform = platform; wires = wires; tasks = tasks; edges = links; results = results }

-- ---- it has no trouble

wires-fine : wires_trouble wires ≡ 0
unfolding wires wires_trouble cost_trouble cost_in_range
wires-fine = refl

tasks_fine : steps_trouble tasks ≡ 0
unfolding tasks steps_trouble step_trouble duration_in_range
tasks_fine = refl

links_fine : links_trouble 256 0 links ≡ 0
unfolding links links_trouble link_trouble count_in_range joins key
links_fine = refl

-- each link leaves one of the first five tasks, and its numbers have as many bytes as a file has for them
links_low : (e : Edge) → e ∈ links → (e.from < 5) × (e.to < 256) × (e.count < 2 ^ 16)
unfolding links all
links_low e h =
    let a = parts (ltb e.from 5) (ltb e.to 256 && ltb e.count 65536)
    (all_at (λ d. ltb d.from 5 && (ltb d.to 256 && ltb d.count 65536)) links tt e h) in
    let b = parts (ltb e.to 256) (ltb e.count 65536) a.1 in
    (ltb→lt e.from 5 a.0, ltb→lt e.to 256 b.0, ltb→lt e.count 65536 b.1)

-- so the others have no successor
unsent : (T : ℕ) → 5 ≤ T → Holds (not (has_successor links T))
unfolding has_successor
unsent T h =
    fails (any (λ e. eqb e.from T) links)
    (λ k. let z = any_one (λ e. eqb e.from T) links k in
    absurd (omega (arith, links_low z.0 z.1, eqb→eq z.0.from T z.2)))

results_fine : (T k : ℕ) → 5 ≤ T → results_trouble (has_successor links) (results_of T k) ≡ 0
unfolding values results_trouble delivery_trouble count_in_range
results_fine T zero h = refl
results_fine T (suc k) h =
    first_none (delivery_trouble (has_successor links T) 1) _ (rw (is_not (has_successor links T) (unsent T h)) refl)
    ∙ results_fine (suc T) k (omega arith)

-- ---- it can be written down

sizes : (length wires ≡ 240) × (length tasks ≡ 256) × (length links ≡ 1024) × (length results ≡ 251)
unfolding wires tasks links results
sizes = (refl, refl, refl, refl)

wires_stand : map ends wires ≡ wire_pairs platform
unfolding wires
wires_stand = held_ends [] (wire_pairs platform)

some_tasks : Holds (not (empty tasks))
unfolding tasks
some_tasks = tt

tasks_fit : (i : ℕ) → get_or tasks i 0 < 2 ^ 32
unfolding tasks
tasks_fit = each_value (λ i. 1) (λ d. d < 2 ^ 32) 0 (omega arith) (λ n. omega arith) 0 256

links_fit : (i : ℕ) → ((get_or links i (edge 0 0 0)).to < 256) × ((get_or links i (edge 0 0 0)).count < 2 ^ 16)
links_fit i = go links links_low i
  where
    go : (l : List Edge) → ((e : Edge) → e ∈ l → (e.from < 5) × (e.to < 256) × (e.count < 2 ^ 16)) → (i : ℕ)
        → ((get_or l i (edge 0 0 0)).to < 256) × ((get_or l i (edge 0 0 0)).count < 2 ^ 16)
    go [] h i = (omega arith, omega arith)
    go (e ∷ l) h zero = let f = h e (here refl) in (f.1, f.2)
    go (e ∷ l) h (suc i) = go l (λ d k. h d (there k)) i

results_rise : (T k : ℕ) → RiseByTask (results_of T k)
unfolding values
results_rise T zero = tt
results_rise T (suc k) = (for_values (λ S. result_of S 1) (λ r. T < r.task) (suc T) k (λ n a b. omega arith), results_rise (suc T) k)

results_fit : (r : Result) → r ∈ results → (r.task < length tasks) × Holds (past_results [] r.task) × (r.count < 2 ^ 16)
unfolding results past_results
results_fit =
    for_values (λ S. result_of S 1) (λ r. (r.task < length tasks) × Holds (past_results [] r.task) × (r.count < 2 ^ 16)) 5 251
    (λ n a b. (omega (arith, sizes), tt, omega arith))

-- ---- its records, and then a tail

abbrev file_with : List ℕ → List ℕ
file_with tail =
    rack_bytes platform
    ++ (flat_map wire_bytes wires ++ (flat_map step_bytes tasks ++ (flat_map link_bytes links ++ (flat_map result_bytes results ++ tail))))

-- the reader comes to the tail with all of the job
comes : (tail : List ℕ) → read_job (file_with tail) ≡ records tail 0 greatest
unfolding read_job blank platform_trouble platform_in_range stands results
comes tail =
    let racked : Job = with_rack blank platform in
    let wired : Job = with_wires racked wires in
    let placed : Job = with_tasks wired tasks in
    read_rack platform _
    ∙ read_wires racked wires _ (λ h. first_wire platform (omega arith) refl) (all_due platform ∙ sym wires_stand)
    ∙ passes (wires_trouble wires) _ wires-fine
    ∙ read_steps wired 0 tasks _ (first_step platform wires (omega arith))
    (wired_up wired (due_after wired [] (append-nil (map ends wires) ∙ wires_stand))) tasks_fit (omega (arith, sizes))
    ∙ passes (steps_trouble tasks) _ tasks_fine
    ∙ read_links placed 256 0 0 links _ (first_link placed 256 (omega arith) sizes.1 refl refl) links_fit (omega (arith, sizes))
    ∙ passes (links_trouble 256 0 links) _ links_fine
    ∙ read_results (with_edges placed links) results tail some_tasks (results_rise 5 251) results_fit
    ∙ passes (results_trouble (has_successor links) results) _ (results_fine 5 251 (omega arith))

size : (tail : List ℕ) → length (file_with tail) ≡ 8368 + length tail
unfolding rack_bytes
size tail =
    let w : length (flat_map wire_bytes wires) ≡ 4 * length wires = flat_size wire_bytes 4 wire_size wires in
    let s : length (flat_map step_bytes tasks) ≡ 5 * length tasks = flat_size step_bytes 5 step_size tasks in
    let l : length (flat_map link_bytes links) ≡ 5 * length links = flat_size link_bytes 5 link_size links in
    let r : length (flat_map result_bytes results) ≡ 4 * length results = flat_size result_bytes 4 result_size results in
    simp length-append (omega (arith, sizes))

-- a part of the tail, and the rest
parted : (s t : List ℕ) → file_with (s ++ t) ≡ file_with s ++ t
parted s t = simp append_assoc

-- each entry is a byte
bytes_then : (l tail : List ℕ) → Holds (all (λ b. ltb b 256) l) → Bytes tail → Bytes (l ++ tail)
unfolding all
bytes_then [] tail h t = t
bytes_then (b ∷ l) tail h t =
    let p = parts (ltb b 256) (all (λ b. ltb b 256) l) h in more (ltb→lt b 256 p.0) (bytes_then l tail p.1 t)

file_bytes : (tail : List ℕ) → Bytes tail → Bytes (file_with tail)
unfolding all rack_bytes wire_bytes step_bytes link_bytes result_bytes bytes wires tasks links results
file_bytes tail t = bytes_then (file_with []) tail tt t

-- ---- the theorems

-- a file of the greatest length is accepted
pub reached : (file : List ℕ) × (j : Job) × Bytes file × (length file ≡ greatest_length) × (read_job file ≡ accepted j)
unfolding stands
reached = (
  file_with (4 ∷ []),
  greatest,
  file_bytes (4 ∷ []) (more (omega arith) none),
  size (4 ∷ []),
  comes (4 ∷ []) ∙ read_end greatest some_tasks,
)

-- the last result once again, without its last byte: too short; with it: out of order
abbrev begun : List ℕ
begun = 6 ∷ 255 ∷ 1 ∷ []

too_short : records begun 0 greatest ≡ refused 1
unfolding records judged kind_of stands full body_length tasks
too_short = refl

out_of_order : records (begun ++ (0 ∷ [])) 0 greatest ≡ refused 15
unfolding records judged kind_of stands full body_length in_range count_in_range result_in number misfit may_deliver has_successor any
    past_results
    tasks links results
out_of_order = refl

-- with a byte less than those that settle an answer it can be another
pub all_needed : (file : List ℕ) × Bytes file × (read_job (take (settling_length - 1) file) ≡ refused 1) × (read_job file ≡ refused 15)
all_needed = (
  file_with (begun ++ (0 ∷ [])),
  file_bytes (begun ++ (0 ∷ [])) (more (omega arith) (more (omega arith) (more (omega arith) (more (omega arith) none)))),
  ap (λ l. read_job (take 8371 l)) (parted begun (0 ∷ [])) ∙ ap read_job (take_at (file_with begun) (0 ∷ []) 8371 (size begun))
      ∙ comes begun ∙ too_short,
  comes (begun ++ (0 ∷ [])) ∙ out_of_order,
)
