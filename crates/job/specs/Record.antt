-- The records of a job file, in the order of document 01's section "The job file": one definition each for the kinds,
-- the length of a body, where a kind may stand, how many there may be, ranges, what else a record must fit.
-- A `body` is what follows the kind byte; only the bytes that belong to it are looked at.
use Rattle.std.specs.Prelude.{Bool, true, false, not, ◌&&◌, ◌||◌, ℕ, leb, ltb, eqb, length, get_or, take, drop}
use mathlib.Core.List.{List, [], ◌∷◌, map, flat_map}
use Rattle.std.proofs.Math.Option.{Option, none, some}
use Rattle.base.specs.Choice.{pick}
use Rattle.base.specs.Number.{number}
use Rattle.base.specs.Lists.{upto, any, filter}
use Rattle.job.specs.declared.Platform.{Platform}
use Rattle.job.specs.Job.{Edge, Wire, Result, Job, with_rack, with_wires, with_tasks, with_edges, job_with_results}
use Rattle.job.specs.Limits.{most_processors, most_unit, most_wire_cost, most_duration, most_count, most_tasks, most_edges}

-- 01: "kind | name"; 02 §1: wire; 02 §2: result
pub data Kind : Type 0 where
  rack step link end wire result : Kind

-- the kind that a byte names
unfoldable pub kind_of : ℕ → Option Kind
kind_of b =
    pick (eqb b 1) (some rack)
    (pick (eqb b 2) (some step)
    (pick (eqb b 3) (some link)
    (pick (eqb b 4) (some end)
    (pick (eqb b 5) (some wire)
    (pick (eqb b 6) (some result)
    none)))))

-- 01: "a body whose length the kind fixes"
unfoldable pub body_length : Kind → ℕ
body_length rack = 3
body_length step = 4
body_length link = 4
body_length end = 0
body_length wire = 3
body_length result = 3

-- 01: "boards n (1 byte), wiring (1 byte), unit cost c (1 byte)"
unfoldable pub platform_in : List ℕ → Platform
platform_in body = record { processors = get_or body 0 0; topology = get_or body 1 0; unit = get_or body 2 0 }

-- 01: "duration (4 bytes)"
unfoldable pub duration_in : List ℕ → ℕ
duration_in body = number (take 4 body)

-- 01: "from (1 byte), to (1 byte), message count (2 bytes)"
unfoldable pub edge_in : List ℕ → Edge
edge_in body = record { from = get_or body 0 0; to = get_or body 1 0; count = number (take 2 (drop 2 body)) }

-- 02 §1: "from board, to board, cost (1 byte each)"
unfoldable pub wire_in : List ℕ → Wire
wire_in body = record { from = get_or body 0 0; to = get_or body 1 0; cost = get_or body 2 0 }

-- 02 §2: "step (1 byte), count (2 bytes)"
unfoldable pub result_in : List ℕ → Result
result_in body = record { task = get_or body 0 0; count = number (take 2 (drop 1 body)) }

abbrev pub empty : {A : Type 0} → List A → Bool
empty [] = true
empty (x ∷ xs) = false

-- no rack has been read yet
unfoldable pub no_rack : Job → Bool
no_rack j = eqb j.platform.processors 0

-- 01: "One rack, then 1 to 256 steps, then 0 to 1,024 links, then the end record": may the kind stand after what j holds;
-- 02 §1: "kind 5 under another wiring or after a step is 3"; 02 §2: results stand "after the links", and so after at least one step
unfoldable pub stands : Job → Kind → Bool
stands j rack = no_rack j
stands j step = not (no_rack j) && empty j.edges && empty j.results
stands j link = not (empty j.tasks) && empty j.results
stands j end = not (empty j.tasks)
stands j wire = not (no_rack j) && eqb j.platform.topology 3 && empty j.tasks
stands j result = not (empty j.tasks)

-- 01: "a step past 256 or a link past 1,024"
unfoldable pub full : Job → Kind → Bool
full j rack = false
full j step = leb most_tasks (length j.tasks)
full j link = leb most_edges (length j.edges)
full j end = false
full j wire = false
full j result = false

-- 01: "n (1 to 16), wiring (0 flat, 1 cube, 2 ring), c (0 to 100)"; 02 §1: "Wiring 3 is added"
unfoldable pub platform_in_range : Platform → Bool
platform_in_range p = leb 1 p.processors && leb p.processors most_processors && leb p.topology 3 && leb p.unit most_unit

-- 01: "duration (1 to 1,000,000)"
unfoldable pub duration_in_range : ℕ → Bool
duration_in_range d = leb 1 d && leb d most_duration

-- 01: "message count (1 to 1,000)"; 02 §2: a result's "count (2 bytes, 1 to 1,000)"
unfoldable pub count_in_range : ℕ → Bool
count_in_range c = leb 1 c && leb c most_count

-- 02 §1: "cost 0 to 250"
unfoldable pub cost_in_range : ℕ → Bool
cost_in_range c = leb c most_wire_cost

-- each value of a record in its range
unfoldable pub in_range : Kind → List ℕ → Bool
in_range rack body = platform_in_range (platform_in body)
in_range step body = duration_in_range (duration_in body)
in_range link body = count_in_range (edge_in body).count
in_range end body = true
in_range wire body = cost_in_range (wire_in body).cost
in_range result body = count_in_range (result_in body).count

-- 01: "A link has from below to and to below m"
unfoldable pub joins : ℕ → Edge → Bool
joins m e = ltb e.from e.to && ltb e.to m

-- 01: "Links rise strictly by from, then by to"
unfoldable pub rises : Edge → Edge → Bool
rises a b = ltb a.from b.from || (eqb a.from b.from && ltb a.to b.to)

-- the link stands above the last one so far
unfoldable pub above_last : List Edge → Edge → Bool
above_last [] e = true
above_last (a ∷ []) e = rises a e
above_last (a ∷ b ∷ es) e = above_last (b ∷ es) e

-- 02 §1: "each ordered pair of different boards below n, rising by from, then to"
unfoldable pub pairs : ℕ → List (ℕ × ℕ)
pairs n = flat_map (λ p. map (λ q. (p, q)) (filter (λ q. not (eqb p q)) (upto n))) (upto n)

-- the pairs of a rack that have a wire: all under wiring 3, none under another
unfoldable pub wire_pairs : Platform → List (ℕ × ℕ)
wire_pairs p = pick (eqb p.topology 3) (pairs p.processors) []

-- the pairs whose wires do not stand yet, the next one due first
unfoldable pub pairs_due : Job → List (ℕ × ℕ)
pairs_due j = drop (length j.wires) (wire_pairs j.platform)

-- the wire is that of the next pair due
unfoldable pub is_due : List (ℕ × ℕ) → Wire → Bool
is_due [] w = false
is_due (x ∷ xs) w = eqb w.from x.0 && eqb w.to x.1

-- 02 §1: 14 "a step before all pairs stand"; 0 where they stand
unfoldable pub too_early_number : Job → ℕ
too_early_number j = pick (not (empty (pairs_due j))) 14 0

-- task T has a successor
unfoldable pub has_successor : List Edge → ℕ → Bool
has_successor es T = any (λ e. eqb e.from T) es

-- task T stands above that of the last result so far (02 §2: "rising strictly by step")
unfoldable pub past_results : List Result → ℕ → Bool
past_results [] T = true
past_results (r ∷ []) T = ltb r.task T
past_results (r ∷ s ∷ rs) T = past_results (s ∷ rs) T

-- 02 §2: "rising strictly by step, only for steps below m with no successor"
unfoldable pub may_deliver : Job → ℕ → Bool
may_deliver j T = ltb T (length j.tasks) && not (has_successor j.edges T) && past_results j.results T

-- 01: 6 "from not below to, or to not below m", 7 "a link not above the one before"; 02 §1: 14 "a wire record that is not the next
-- pair due or comes past the last, or a step before all pairs stand"; 02 §2: 15 "a result for a step that is absent, has a successor or is
-- out of order"; 0 where the record fits in the job so far
unfoldable pub misfit : Job → Kind → List ℕ → ℕ
misfit j rack body = 0
misfit j step body = too_early_number j
misfit j link body =
    pick (not (joins (length j.tasks) (edge_in body))) 6
    (pick (not (above_last j.edges (edge_in body))) 7
    0)
misfit j end body = 0
misfit j wire body = pick (not (is_due (pairs_due j) (wire_in body))) 14 0
misfit j result body = pick (not (may_deliver j (result_in body).task)) 15 0

-- the job with one record more
unfoldable pub added : Job → Kind → List ℕ → Job
added j rack body = with_rack j (platform_in body)
added j step body = with_tasks j (duration_in body ∷ [])
added j link body = with_edges j (edge_in body ∷ [])
added j end body = j
added j wire body = with_wires j (wire_in body ∷ [])
added j result body = job_with_results j (result_in body ∷ [])
