-- The worked cases of document 01 ("Ticks worked out") in one table, held to the definitions by computing them; after them cases that its
-- words settle and its list does not have, cases of document 02 §1, §2, §6 and §7, and the small inputs of the refusal table that are the
-- checker's. In the documents' words.
use Rattle.std.proofs.Math.Option.{Option, none, some, bind, or_else}
use Rattle.std.specs.Prelude.{◌≡◌, ℕ, get_or}
use mathlib.Core.List.{List, [], ◌∷◌, ◌++◌, map, flat_map}
use Rattle.base.specs.Lists.{upto, any, all, filter, greatest, smallest, keep, best}
use Rattle.job.specs.declared.Platform.{Platform}
use Rattle.job.specs.Job.{Edge, Wire, Result, wire_cost, result_count, Job, blank, with_rack, with_wires, with_tasks, with_edges}
use Rattle.job.specs.Job.{job_with_results}
use Rattle.etf.specs.Instance.{Instance, ordered, tasks, duration, into, out_of, message_time}
use Rattle.etf.specs.Schedule.{Placement, placed, placement_of, finish, message_time_to, arrival, last_finish, schedule_of, by_task}
use Rattle.etf.specs.Schedule.{result_time, end, dearest_result}
use Rattle.etf.specs.Rule.{at_most, move, settle, next_moment, free, finished, ready, pair, pairs, choice, complete, round, run}
use Rattle.etf.specs.Rule.{planned, rounds_in, rounds}
use Rattle.etf.specs.Cover.{running, busy, idle, some_idle, latest_idle_tick, lowest_idle, later, latest_into, back, walk, last_task, cover}
use Rattle.etf.specs.Dearest.{greatest_cost, dearest_to, dearest}
use Rattle.etf.specs.Least.{serving, moves, least_from, last_tasks, least}
use Rattle.etf.specs.Checker.{first_answer, misplaced, overlap, early, check}
use Rattle.etf.specs.Topology.{hypercube_hops, difference, ring_hops, hops, cost, square}
use Rattle.etf.specs.OfJob.{costs_of, instance, instance_by_weight, result_of}
use Rattle.etf.specs.Weight.{put, inserted, weight_in, weight, tasks_by_weight}

-- what a case asks: the plan of a job, its plan with another priority order, the hops between two boards, the planner's rounds,
-- the checker's answer to a plan's boards and starts, the last finish and the dearest result time of a job's plan, or its tasks' weights
-- and the tasks by weight, and its plan by them
pub data Question : Type 0 where
  plan_of : Job → Question
  plan_by : List ℕ → Job → Question
  hops_of : Platform → ℕ → ℕ → Question
  rounds_of : Job → Question
  answer_to : Job → List ℕ → List ℕ → Question
  result_time_of : Job → Question
  weights_of : Job → Question
  plan_by_weight : Job → Question

-- the numbers that program `plan` prints after its header:
-- of each task its number, processor, start and finish, then the end, C, the least cover and the dearest chain
pub printed : Instance → (ℕ → ℕ) → List (List ℕ)
printed I result =
    map (λ (u : Placement). u.task ∷ u.processor ∷ u.start ∷ finish I u ∷ []) (by_task I (planned I))
    ++ ((end I result (planned I) ∷ []) ∷ (cover I ∷ []) ∷ (least I ∷ []) ∷ (dearest I ∷ []) ∷ [])

-- 0 for a yes, else the number
abbrev refusal : Option ℕ → ℕ
refusal none = 0
refusal (some k) = k

-- the lines that answer a question; all definitions are opened, so that they compute, also where another crate opens this one name
unfoldable pub answer : Question → List (List ℕ)
unfolding printed instance instance_by_weight ordered out_of weight_in weight put inserted tasks_by_weight
    upto any all filter greatest smallest keep best duration into message_time
    placed placement_of message_time_to arrival last_finish result_count result_time end dearest_result schedule_of by_task
    at_most move settle next_moment free finished ready pair pairs choice complete round run planned rounds_in rounds
    running busy idle some_idle latest_idle_tick lowest_idle later latest_into back walk last_task cover greatest_cost dearest_to dearest
    serving moves least_from last_tasks least
    first_answer misplaced overlap early check hypercube_hops difference ring_hops hops cost wire_cost square costs_of blank bind or_else
    flat_map
answer (plan_of j) = printed (instance j) (result_of j)
answer (plan_by order j) = printed (ordered order (instance j)) (result_of j)
answer (result_time_of j) =
    (last_finish (instance j) (planned (instance j)) ∷ []) ∷ (dearest_result (instance j) (result_of j) (planned (instance j)) ∷ []) ∷ []
answer (weights_of j) = map (weight (instance j)) (upto (tasks (instance j))) ∷ tasks_by_weight (instance j) ∷ []
answer (plan_by_weight j) = printed (instance_by_weight j) (result_of j)
answer (hops_of r p q) = (hops r p q ∷ []) ∷ []
answer (rounds_of j) = (rounds (instance j) ∷ []) ∷ []
answer (answer_to j boards starts) =
    (refusal (check (instance j) (schedule_of (instance j) (λ T. get_or boards T 0) (λ T. get_or starts T 0))) ∷ []) ∷ []

-- a question and the lines that answer it
pub record Case : Type 0 where
  pub question : Question
  pub lines : List (List ℕ)

abbrev rack : ℕ → ℕ → ℕ → Platform
rack n wiring c = record { processors = n; topology = wiring; unit = c }

abbrev link : ℕ → ℕ → ℕ → Edge
link a b k = record { from = a; to = b; count = k }

abbrev wire : ℕ → ℕ → ℕ → Wire
wire p q c = record { from = p; to = q; cost = c }

-- the job of a rack, its wires, steps and links
abbrev job : Platform → List Wire → List ℕ → List Edge → Job
job r wires steps links = with_edges (with_tasks (with_wires (with_rack blank r) wires) steps) links

abbrev plan : Platform → List ℕ → List Edge → List (List ℕ) → Case
plan r steps links lines = record { question = plan_of (job r [] steps links); lines = lines }

abbrev between : Platform → ℕ → ℕ → ℕ → Case
between r p q h = record { question = hops_of r p q; lines = (h ∷ []) ∷ [] }

-- the checker's answer to a plan for a job on two boards, flat, c = 2
abbrev checked : List ℕ → List Edge → List ℕ → List ℕ → ℕ → Case
checked steps links boards starts number = record {
  question = answer_to (job (rack 2 0 2) [] steps links) boards starts;
  lines = (number ∷ []) ∷ [];
}

-- cases D, E, G and H: steps 3, 2, 2, links 0 to 1 and 0 to 2, on two processors wired flat
abbrev fork : ℕ → List (List ℕ) → Case
fork c lines = plan (rack 2 0 c) (3 ∷ 2 ∷ 2 ∷ []) (link 0 1 1 ∷ link 0 2 1 ∷ []) lines

abbrev row : ℕ → ℕ → ℕ → ℕ → List ℕ
row T P s f = T ∷ P ∷ s ∷ f ∷ []

abbrev totals : ℕ → ℕ → ℕ → ℕ → List (List ℕ)
totals e c l d = (e ∷ []) ∷ (c ∷ []) ∷ (l ∷ []) ∷ (d ∷ []) ∷ []

-- document 01's worked cases
unfoldable pub worked : List Case
worked =
    -- A
    plan (rack 2 0 2) (4 ∷ 3 ∷ 2 ∷ []) (link 0 2 1 ∷ link 1 2 3 ∷ []) (row 0 0 0 4 ∷ row 1 1 0 3 ∷ row 2 1 6 8 ∷ totals 8 6 2 6)
    -- B
    ∷ plan (rack 1 0 0) (1 ∷ []) [] (row 0 0 0 1 ∷ totals 1 0 0 0)
    -- D, c = 1: step 2 on board 1 at 4
    ∷ fork 1 (row 0 0 0 3 ∷ row 1 0 3 5 ∷ row 2 1 4 6 ∷ totals 6 1 1 1)
    -- E, c = 2: board 1 at 5, since 5 is not above NM 5
    ∷ fork 2 (row 0 0 0 3 ∷ row 1 0 3 5 ∷ row 2 1 5 7 ∷ totals 7 2 2 2)
    -- G, c = 3: board 0 at 5
    ∷ fork 3 (row 0 0 0 3 ∷ row 1 0 3 5 ∷ row 2 0 5 7 ∷ totals 7 3 3 3)
    -- H, c = 5: board 0 at 5
    ∷ fork 5 (row 0 0 0 3 ∷ row 1 0 3 5 ∷ row 2 0 5 7 ∷ totals 7 5 5 5)
    -- J: cube, boards 5 and 10
    ∷ between (rack 16 1 1) 5 10 4
    -- K: ring of 5, 0 and 4
    ∷ between (rack 5 2 1) 0 4 1
    -- L: ring of 6, 0 and 3
    ∷ between (rack 6 2 1) 0 3 3
    ∷ []

-- document 02 §1: a job on two boards with a wire each way, wiring 3; c = 7 is unused
abbrev wires_2 : ℕ → ℕ → List ℕ → List Edge → Job
wires_2 there back steps links = job (rack 2 3 7) (wire 0 1 there ∷ wire 1 0 back ∷ []) steps links

-- two steps of 5 with a link, on wires of 5 there and 1 back
abbrev sent : List ℕ → List ℕ → ℕ → Case
sent boards starts number = record {
  question = answer_to (wires_2 5 1 (5 ∷ 5 ∷ []) (link 0 1 1 ∷ [])) boards starts;
  lines = (number ∷ []) ∷ [];
}

-- the two ways between a pair differ
unfoldable pub unequal : List Case
unequal =
    -- A with counts of 1: step 2 goes to board 0 where the way there is cheap, and else to board 1
    record {
      question = plan_of (wires_2 5 1 (4 ∷ 3 ∷ 2 ∷ []) (link 0 2 1 ∷ link 1 2 1 ∷ []));
      lines = row 0 0 0 4 ∷ row 1 1 0 3 ∷ row 2 0 4 6 ∷ totals 6 5 5 5;
    }
    ∷ record {
      question = plan_of (wires_2 1 5 (4 ∷ 3 ∷ 2 ∷ []) (link 0 2 1 ∷ link 1 2 1 ∷ []));
      lines = row 0 0 0 4 ∷ row 1 1 0 3 ∷ row 2 1 5 7 ∷ totals 7 5 1 5;
    }
    -- the walk's messages go from the predecessor's board to the idle one
    ∷ record {
      question = plan_of (wires_2 2 1 (3 ∷ 2 ∷ 2 ∷ []) (link 0 1 1 ∷ link 0 2 1 ∷ []));
      lines = row 0 0 0 3 ∷ row 1 0 3 5 ∷ row 2 1 5 7 ∷ totals 7 2 2 2;
    }
    -- 13 by the way that the messages go
    ∷ sent (0 ∷ 1 ∷ []) (0 ∷ 9 ∷ []) 13
    ∷ sent (0 ∷ 1 ∷ []) (0 ∷ 10 ∷ []) 0
    ∷ sent (1 ∷ 0 ∷ []) (0 ∷ 5 ∷ []) 13
    ∷ sent (1 ∷ 0 ∷ []) (0 ∷ 6 ∷ []) 0
    ∷ []

-- document 02 §2
abbrev result : ℕ → ℕ → Result
result T k = record { task = T; count = k }

-- A, with a result of step 2
abbrev A_delivered : Job
A_delivered = job_with_results (job (rack 2 0 2) [] (4 ∷ 3 ∷ 2 ∷ []) (link 0 2 1 ∷ link 1 2 3 ∷ [])) (result 2 1 ∷ [])

-- two steps without a link, of 5 and of 2, flat, c = 1
abbrev two : List Result → Job
two results = job_with_results (job (rack 2 0 1) [] (5 ∷ 2 ∷ []) []) results

-- the end with results, and the dearest result time
unfoldable pub delivered : List Case
delivered =
    -- A: the result of step 2, on board 1, is at the gate 2 ticks after the last finish; C stays 6
    record { question = plan_of A_delivered; lines = row 0 0 0 4 ∷ row 1 1 0 3 ∷ row 2 1 6 8 ∷ totals 10 6 2 6 }
    ∷ record { question = result_time_of A_delivered; lines = (8 ∷ []) ∷ (2 ∷ []) ∷ [] }
    -- neither the last finish nor the last finish and the dearest result time: step 0's result takes nothing, step 1's is there at 2 + 4
    ∷ record { question = plan_of (two (result 0 3 ∷ result 1 4 ∷ [])); lines = row 0 0 0 5 ∷ row 1 1 0 2 ∷ totals 6 0 0 0 }
    ∷ record { question = result_time_of (two (result 0 3 ∷ result 1 4 ∷ [])); lines = (5 ∷ []) ∷ (4 ∷ []) ∷ [] }
    -- a result that is there before the last finish
    ∷ record { question = plan_of (two (result 1 2 ∷ [])); lines = row 0 0 0 5 ∷ row 1 1 0 2 ∷ totals 5 0 0 0 }
    ∷ record { question = result_time_of (two (result 1 2 ∷ [])); lines = (5 ∷ []) ∷ (2 ∷ []) ∷ [] }
    -- a ring of 4: board 2 is two hops from the gate, board 3 one
    ∷ record {
      question = plan_of (job_with_results (job (rack 4 2 2) [] (1 ∷ 1 ∷ 1 ∷ 1 ∷ []) []) (result 1 2 ∷ result 2 2 ∷ result 3 3 ∷ []));
      lines = row 0 0 0 1 ∷ row 1 1 0 1 ∷ row 2 2 0 1 ∷ row 3 3 0 1 ∷ totals 9 0 0 0;
    }
    -- the walk begins with the step that finishes last, 1, and not with the one whose result is there last, 2: C is 1 and not 2
    ∷ record {
      question = plan_of (job_with_results (job (rack 2 0 1) [] (1 ∷ 3 ∷ 1 ∷ []) (link 0 1 1 ∷ link 0 2 2 ∷ [])) (result 2 1 ∷ []));
      lines = row 0 0 0 1 ∷ row 1 0 1 4 ∷ row 2 1 3 4 ∷ totals 5 1 1 2;
    }
    -- the way to board 0 counts, and not the way back
    ∷ record {
      question = plan_of (job_with_results (wires_2 5 1 (5 ∷ 2 ∷ []) []) (result 1 4 ∷ []));
      lines = row 0 0 0 5 ∷ row 1 1 0 2 ∷ totals 6 0 0 0;
    }
    ∷ record {
      question = plan_of (job_with_results (wires_2 1 5 (5 ∷ 2 ∷ []) []) (result 1 4 ∷ []));
      lines = row 0 0 0 5 ∷ row 1 1 0 2 ∷ totals 22 0 0 0;
    }
    ∷ []

-- document 02 §6: a job on n boards, flat, with c
abbrev flat : ℕ → ℕ → List ℕ → List Edge → Job
flat n c steps links = job (rack n 0 c) [] steps links

-- the weights and the steps by weight; the plan by number, and by weight
abbrev weighed : Job → List ℕ → List ℕ → Case
weighed j weights order = record { question = weights_of j; lines = weights ∷ order ∷ [] }

abbrev numbered : Job → List (List ℕ) → Case
numbered j lines = record { question = plan_of j; lines = lines }

abbrev heavier : Job → List (List ℕ) → Case
heavier j lines = record { question = plan_by_weight j; lines = lines }

abbrev long_branch : Job
long_branch = flat 2 1 (1 ∷ 1 ∷ 1 ∷ 1 ∷ 4 ∷ []) (link 0 3 1 ∷ link 1 3 1 ∷ link 2 4 1 ∷ [])

abbrev one_weight : Job
one_weight = flat 1 0 (2 ∷ 1 ∷ 3 ∷ 1 ∷ []) (link 0 3 1 ∷ link 1 3 2 ∷ [])

abbrev two_successors : Job
two_successors = flat 1 0 (1 ∷ 3 ∷ 3 ∷ 5 ∷ []) (link 0 1 1 ∷ link 0 2 1 ∷ [])

abbrev start_first : Job
start_first = flat 2 1 (1 ∷ 1 ∷ 5 ∷ 1 ∷ []) (link 0 2 1 ∷ link 1 2 1 ∷ [])

abbrev at_once : Job
at_once = flat 2 1 (3 ∷ 2 ∷ 1 ∷ 3 ∷ 1 ∷ []) (link 0 2 1 ∷ link 0 3 1 ∷ link 1 4 2 ∷ [])

-- ties by the longest work left
unfoldable pub by_weight : List Case
by_weight =
    -- a long branch: by number steps 0 and 1 go first, and step 4, of 4 ticks, begins at 2; by weight step 2 goes first, and the end is
    -- 5 in place of 6
    weighed long_branch (2 ∷ 2 ∷ 5 ∷ 1 ∷ 4 ∷ []) (2 ∷ 4 ∷ 0 ∷ 1 ∷ 3 ∷ [])
    ∷ numbered long_branch (row 0 0 0 1 ∷ row 1 1 0 1 ∷ row 2 0 1 2 ∷ row 3 1 2 3 ∷ row 4 0 2 6 ∷ totals 6 1 1 1)
    ∷ heavier long_branch (row 0 1 0 1 ∷ row 1 1 1 2 ∷ row 2 0 0 1 ∷ row 3 1 2 3 ∷ row 4 0 1 5 ∷ totals 5 0 0 1)
    -- a tie in weight: steps 0 and 2 both have 3, and 0 goes first; then 1, which has 2
    ∷ weighed one_weight (3 ∷ 2 ∷ 3 ∷ 1 ∷ []) (0 ∷ 2 ∷ 1 ∷ 3 ∷ [])
    ∷ heavier one_weight (row 0 0 0 2 ∷ row 1 0 5 6 ∷ row 2 0 2 5 ∷ row 3 0 6 7 ∷ totals 7 0 0 0)
    -- the greatest weight among the successors and not their sum: step 0 has 1 + 3, so step 3 with 5 goes first
    ∷ weighed two_successors (4 ∷ 3 ∷ 3 ∷ 5 ∷ []) (3 ∷ 0 ∷ 1 ∷ 2 ∷ [])
    ∷ heavier two_successors (row 0 0 5 6 ∷ row 1 0 6 9 ∷ row 2 0 9 12 ∷ row 3 0 0 5 ∷ totals 12 0 0 0)
    -- the start comes before the weight: at 1 step 3 starts at once, and step 2, with the greater weight, at 2
    ∷ weighed start_first (6 ∷ 6 ∷ 5 ∷ 1 ∷ []) (0 ∷ 1 ∷ 2 ∷ 3 ∷ [])
    ∷ heavier start_first (row 0 0 0 1 ∷ row 1 1 0 1 ∷ row 2 1 2 7 ∷ row 3 0 1 2 ∷ totals 7 1 1 1)
    -- of two steps ready at one tick the heavier takes the board where it starts at once: step 3 and not step 2, on board 0 at 3
    ∷ numbered at_once (row 0 0 0 3 ∷ row 1 1 0 2 ∷ row 2 0 3 4 ∷ row 3 1 4 7 ∷ row 4 1 2 3 ∷ totals 7 1 1 2)
    ∷ heavier at_once (row 0 0 0 3 ∷ row 1 1 0 2 ∷ row 2 1 4 5 ∷ row 3 0 3 6 ∷ row 4 1 2 3 ∷ totals 6 0 0 2)
    ∷ []

-- document 02 §7: C, the least cover, and why the one is below the other or is not. In case A both boards are idle in tick 5, and through
-- board 1 step 0's bundle of 2 serves in place of step 1's of 6 to board 0; another idle board alone: `further`
unfoldable pub tightest : List Case
tightest =
    -- another predecessor alone: from step 2 to step 0 at once, and not through step 1, whose bundle comes later
    plan (rack 2 0 1) (1 ∷ 1 ∷ 1 ∷ []) (link 0 1 1 ∷ link 0 2 1 ∷ link 1 2 1 ∷ [])
    (row 0 0 0 1 ∷ row 1 0 1 2 ∷ row 2 0 2 3 ∷ totals 3 2 1 2)
    -- another step that finishes last alone: step 2, which waits for nothing, and not step 1
    ∷ plan (rack 3 0 1) (1 ∷ 1 ∷ 2 ∷ []) (link 0 1 1 ∷ []) (row 0 0 0 1 ∷ row 1 0 1 2 ∷ row 2 1 0 2 ∷ totals 2 1 0 1)
    -- both another board and another predecessor there: neither alone goes below C
    ∷ plan (rack 3 0 1) (1 ∷ 2 ∷ 1 ∷ []) (link 0 2 1 ∷ link 1 2 2 ∷ []) (row 0 0 0 1 ∷ row 1 1 0 2 ∷ row 2 1 2 3 ∷ totals 3 2 1 2)
    -- a bundle that is there at the tick does not serve: step 0's is at board 0 at 1, in time for tick 1, and step 1's at 2
    ∷ plan (rack 2 0 1) (1 ∷ 1 ∷ 1 ∷ []) (link 0 2 1 ∷ link 1 2 1 ∷ []) (row 0 0 0 1 ∷ row 1 1 0 1 ∷ row 2 0 2 3 ∷ totals 3 1 1 1)
    -- the cheaper move is not on the cheaper walk: step 2 to step 1 takes 1, and then 2 more; to step 0 at once takes 2
    ∷ plan (rack 2 0 1) (1 ∷ 1 ∷ 1 ∷ []) (link 0 1 2 ∷ link 0 2 2 ∷ link 1 2 1 ∷ [])
    (row 0 0 0 1 ∷ row 1 0 1 2 ∷ row 2 0 2 3 ∷ totals 3 2 2 3)
    ∷ []

-- what its words settle beside them
unfoldable pub further : List Case
further =
    -- shortcut 3, E with one step more: board 1 is promised to step 2 from 5 on, so it is not free at 3, and step 3 waits for board 0
    plan (rack 2 0 2) (3 ∷ 2 ∷ 2 ∷ 2 ∷ []) (link 0 1 1 ∷ link 0 2 1 ∷ link 0 3 1 ∷ [])
    (row 0 0 0 3 ∷ row 1 0 3 5 ∷ row 2 1 5 7 ∷ row 3 0 5 7 ∷ totals 7 2 2 2)
    -- the walk begins with the lowest of two steps that finish last, 1 and not 2
    ∷ plan (rack 2 0 1) (1 ∷ 3 ∷ 1 ∷ []) (link 0 1 1 ∷ link 0 2 2 ∷ []) (row 0 0 0 1 ∷ row 1 0 1 4 ∷ row 2 1 3 4 ∷ totals 4 1 1 2)
    -- it takes the lowest of two idle boards, 0 and not 1
    ∷ plan (rack 2 0 1) (1 ∷ 1 ∷ 1 ∷ []) (link 0 2 1 ∷ link 1 2 2 ∷ []) (row 0 0 0 1 ∷ row 1 1 0 1 ∷ row 2 1 2 3 ∷ totals 3 2 1 2)
    -- and of two predecessors that arrive there at one tick the lowest, 0 and not 1
    ∷ plan (rack 2 0 1) (1 ∷ 1 ∷ 1 ∷ []) (link 0 1 2 ∷ link 0 2 2 ∷ link 1 2 1 ∷ [])
    (row 0 0 0 1 ∷ row 1 0 1 2 ∷ row 2 0 2 3 ∷ totals 3 2 2 3)
    -- shortcut 5: the step with the last number does not finish last
    ∷ plan (rack 2 0 0) (5 ∷ 1 ∷ []) [] (row 0 0 0 5 ∷ row 1 1 0 1 ∷ totals 5 0 0 0)
    -- D with the priority order 2, 1, 0: step 2 goes before step 1
    ∷ record {
      question = plan_by (2 ∷ 1 ∷ 0 ∷ []) (job (rack 2 0 1) [] (3 ∷ 2 ∷ 2 ∷ []) (link 0 1 1 ∷ link 0 2 1 ∷ []));
      lines = row 0 0 0 3 ∷ row 1 1 4 6 ∷ row 2 0 3 5 ∷ totals 6 1 1 1;
    }
    -- one board: a link costs nothing, and the dearest chain is 0
    ∷ plan (rack 1 0 5) (1 ∷ 1 ∷ []) (link 0 1 3 ∷ []) (row 0 0 0 1 ∷ row 1 0 1 2 ∷ totals 2 0 0 0)
    -- a chain of 3 takes 5 rounds
    ∷ record {
      question = rounds_of (job (rack 2 0 1) [] (2 ∷ 1 ∷ 3 ∷ []) (link 0 1 1 ∷ link 1 2 1 ∷ []));
      lines = (5 ∷ []) ∷ [];
    }
    ∷ []

-- the refusal table's small inputs of 10 to 13, and what stands beside their limits
unfoldable pub checks : List Case
checks =
    -- 10: n = 2, board 2
    checked (5 ∷ []) [] (2 ∷ []) (0 ∷ []) 10
    -- 11: start 600,000,001; one less is taken
    ∷ checked (5 ∷ []) [] (0 ∷ []) (600000001 ∷ []) 11
    ∷ checked (5 ∷ []) [] (0 ∷ []) (600000000 ∷ []) 0
    -- 11 of step 0 comes before 10 of step 1, and 10 of a step before its 11
    ∷ checked (5 ∷ 5 ∷ []) [] (0 ∷ 2 ∷ []) (600000001 ∷ 0 ∷ []) 11
    ∷ checked (5 ∷ []) [] (2 ∷ []) (600000001 ∷ []) 10
    -- 12: two steps of 5, board 0, both at 0; a finish equal to a start is taken
    ∷ checked (5 ∷ 5 ∷ []) [] (0 ∷ 0 ∷ []) (0 ∷ 0 ∷ []) 12
    ∷ checked (5 ∷ 5 ∷ []) [] (0 ∷ 0 ∷ []) (5 ∷ 0 ∷ []) 0
    -- 13: flat, c = 2, count 1: finish 5, start 6 elsewhere; start 7 is taken
    ∷ checked (5 ∷ 5 ∷ []) (link 0 1 1 ∷ []) (0 ∷ 1 ∷ []) (0 ∷ 6 ∷ []) 13
    ∷ checked (5 ∷ 5 ∷ []) (link 0 1 1 ∷ []) (0 ∷ 1 ∷ []) (0 ∷ 7 ∷ []) 0
    -- 12 comes before 13
    ∷ checked (5 ∷ 5 ∷ []) (link 0 1 1 ∷ []) (0 ∷ 0 ∷ []) (0 ∷ 4 ∷ []) 12
    ∷ []

-- the table
unfoldable pub cases : List Case
cases = worked ++ (further ++ (unequal ++ (delivered ++ (by_weight ++ (tightest ++ checks)))))

-- the lines of each case of a table answer its question
abbrev pub Right : List Case → Type 0
Right cs = map (λ (c : Case). answer c.question) cs ≡ map (λ (c : Case). c.lines) cs
