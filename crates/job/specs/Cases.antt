-- The small inputs of document 01's refusal table, the file of its worked case A, and small files for each sentence of document 02 §1 and
-- §2, held to the definition of the reader by computing it.
use Rattle.std.specs.Prelude.{Bool, true, ◌&&◌, ℕ, eqb, T as Holds, replicate}
use mathlib.Core.List.{List, [], ◌∷◌, ◌++◌, flat_map}
use Rattle.base.specs.Lists.{upto, any, filter}
use Rattle.base.specs.Number.{number}
use Rattle.job.specs.Job.{blank}
use Rattle.job.specs.Record.{kind_of, body_length, platform_in, duration_in, edge_in, no_rack, stands, full, platform_in_range}
use Rattle.job.specs.Record.{duration_in_range, count_in_range, in_range, joins, rises, above_last, misfit, added, wire_in, cost_in_range}
use Rattle.job.specs.Record.{pairs, wire_pairs, pairs_due, is_due, too_early_number, result_in, has_successor, past_results, may_deliver}
use Rattle.job.specs.Read.{Answer, accepted, refused, after, judged, records, read_job}

-- a file and the number that it gets, 0 where it is accepted
pub record Case : Type 0 where
  pub file : List ℕ
  pub answer : ℕ

abbrev case : ℕ → List ℕ → Case
case n file = record { file = file; answer = n }

-- a rack of two processors, flat, c = 2; a step of one tick; a link from 0 to 1 with one message
abbrev rack_2 : List ℕ
rack_2 = 1 ∷ 2 ∷ 0 ∷ 2 ∷ []

abbrev one_tick : List ℕ
one_tick = 2 ∷ 1 ∷ 0 ∷ 0 ∷ 0 ∷ []

abbrev link_01 : List ℕ
link_01 = 3 ∷ 0 ∷ 1 ∷ 1 ∷ 0 ∷ []

-- 01: the refusal table's small inputs for 1 to 8, then case A
pub cases : List Case
cases =
    case 1 (1 ∷ 2 ∷ 0 ∷ [])
    ∷ case 2 (9 ∷ [])
    ∷ case 3 (2 ∷ 1 ∷ 0 ∷ 0 ∷ 0 ∷ [])
    ∷ case 4 (1 ∷ 0 ∷ 0 ∷ 5 ∷ [])
    ∷ case 5 (rack_2 ++ flat_map (λ (n : ℕ). one_tick) (replicate 257 0))
    ∷ case 6 (rack_2 ++ (one_tick ++ (3 ∷ 0 ∷ 0 ∷ 1 ∷ 0 ∷ [])))
    ∷ case 7 (rack_2 ++ (one_tick ++ (one_tick ++ (link_01 ++ (link_01 ++ (4 ∷ []))))))
    ∷ case 8 (rack_2 ++ (one_tick ++ (4 ∷ 0 ∷ [])))
    ∷ case 1 []
    ∷ case 0 (rack_2 ++ (2 ∷ 4 ∷ 0 ∷ 0 ∷ 0 ∷ 2 ∷ 3 ∷ 0 ∷ 0 ∷ 0 ∷ 2 ∷ 2 ∷ 0 ∷ 0 ∷ 0 ∷ 3 ∷ 0 ∷ 2 ∷ 1 ∷ 0 ∷ 3 ∷ 1 ∷ 2 ∷ 3 ∷ 0 ∷ 4 ∷ []))
    ∷ []

-- racks of two and of one processor by their wires, c = 2; a wire, which costs its number
abbrev wired_2 : List ℕ
wired_2 = 1 ∷ 2 ∷ 3 ∷ 2 ∷ []

abbrev wired_1 : List ℕ
wired_1 = 1 ∷ 1 ∷ 3 ∷ 2 ∷ []

abbrev wire : ℕ → ℕ → ℕ → List ℕ
wire p q c = 5 ∷ p ∷ q ∷ c ∷ []

-- 02 §1
pub wire_cases : List Case
wire_cases =
    -- one wire for each pair, cost 0 to 250; with one processor none
    case 0 (wired_2 ++ (wire 0 1 0 ++ (wire 1 0 250 ++ (one_tick ++ (4 ∷ [])))))
    ∷ case 0 (wired_1 ++ (one_tick ++ (4 ∷ [])))
    -- "a wire record that is not the next pair due or comes past the last"
    ∷ case 14 (wired_2 ++ wire 1 0 1)
    ∷ case 14 (wired_2 ++ wire 0 0 1)
    ∷ case 14 (wired_2 ++ (wire 0 1 1 ++ wire 0 1 1))
    ∷ case 14 (wired_2 ++ (wire 0 1 1 ++ (wire 1 0 1 ++ wire 2 0 1)))
    ∷ case 14 (wired_1 ++ wire 0 0 1)
    ∷ case 14 (wired_1 ++ wire 1 0 1)
    -- "or a step before all pairs stand (there in place of 3)"; another record there is 3
    ∷ case 14 (wired_2 ++ one_tick)
    ∷ case 14 (wired_2 ++ (wire 0 1 1 ++ one_tick))
    ∷ case 3 (wired_2 ++ (wire 0 1 1 ++ link_01))
    ∷ case 3 (wired_2 ++ (wire 0 1 1 ++ (4 ∷ [])))
    ∷ case 3 (wired_2 ++ (wire 0 1 1 ++ wired_2))
    ∷ case 1 (wired_2 ++ wire 0 1 1)
    -- "judged after 4", and 4 after 1
    ∷ case 4 (wired_2 ++ wire 1 0 251)
    ∷ case 4 (wired_2 ++ (2 ∷ 0 ∷ 0 ∷ 0 ∷ 0 ∷ []))
    ∷ case 1 (wired_2 ++ (5 ∷ 1 ∷ 0 ∷ []))
    ∷ case 1 (wired_2 ++ (2 ∷ 1 ∷ 0 ∷ []))
    -- "kind 5 under another wiring or after a step is 3"; past wiring 3 is 4, and so is c past 100
    ∷ case 3 (rack_2 ++ wire 0 1 1)
    ∷ case 3 (wired_1 ++ (one_tick ++ wire 0 1 1))
    ∷ case 4 (1 ∷ 2 ∷ 4 ∷ 2 ∷ [])
    ∷ case 4 (1 ∷ 2 ∷ 3 ∷ 101 ∷ [])
    ∷ []

-- a result: 256 times `high`, and `low`, messages of a step
abbrev result : ℕ → ℕ → ℕ → List ℕ
result T low high = 6 ∷ T ∷ low ∷ high ∷ []

-- two steps with a link
abbrev linked : List ℕ
linked = rack_2 ++ (one_tick ++ (one_tick ++ link_01))

-- two steps without
abbrev loose : List ℕ
loose = rack_2 ++ (one_tick ++ one_tick)

-- 02 §2
pub result_cases : List Case
result_cases =
    -- after the links, of which there may be none
    case 0 (linked ++ (result 1 1 0 ++ (4 ∷ [])))
    ∷ case 0 (loose ++ (result 0 1 0 ++ (result 1 1 0 ++ (4 ∷ []))))
    ∷ case 0 (loose ++ (result 1 1 0 ++ (4 ∷ [])))
    -- a result before the first step, or a step, a link or a rack after a result, is 3
    ∷ case 3 (rack_2 ++ result 0 1 0)
    ∷ case 3 (loose ++ (result 0 1 0 ++ one_tick))
    ∷ case 3 (loose ++ (result 1 1 0 ++ link_01))
    ∷ case 3 (loose ++ (result 1 1 0 ++ rack_2))
    ∷ case 1 (loose ++ result 1 1 0)
    -- "a result for a step that is absent, has a successor or is out of order"
    ∷ case 15 (loose ++ result 2 1 0)
    ∷ case 15 (linked ++ result 0 1 0)
    ∷ case 15 (loose ++ (result 1 1 0 ++ result 0 1 0))
    ∷ case 15 (loose ++ (result 0 1 0 ++ result 0 1 0))
    -- "count (2 bytes, 1 to 1,000)"
    ∷ case 0 (loose ++ (result 0 232 3 ++ (4 ∷ [])))
    ∷ case 4 (loose ++ result 0 233 3)
    ∷ case 4 (loose ++ result 0 0 0)
    -- "judged after 4", and 4 after 1
    ∷ case 4 (linked ++ result 0 0 0)
    ∷ case 1 (linked ++ (6 ∷ 0 ∷ 0 ∷ []))
    ∷ []

abbrev number_of : Answer → ℕ
number_of (accepted j) = 0
number_of (refused k) = k

-- the answer to a file; all definitions of the reader are opened, so that it computes, also where another crate opens this one name
unfoldable pub computed : List ℕ → Answer
unfolding read_job blank records judged after kind_of body_length stands no_rack full in_range platform_in_range duration_in_range
    count_in_range cost_in_range misfit too_early_number is_due pairs_due wire_pairs pairs joins above_last rises may_deliver has_successor
    past_results added platform_in duration_in edge_in wire_in result_in number flat_map filter any upto
computed file = read_job file

-- each file gets its number
pub right : List Case → Bool
right [] = true
right (c ∷ cs) = eqb (number_of (computed c.file)) c.answer && right cs

pub cases_hold : Holds (right cases)
unfolding right cases computed
cases_hold = tt

pub wire_cases_hold : Holds (right wire_cases)
unfolding right wire_cases computed
wire_cases_hold = tt

pub result_cases_hold : Holds (right result_cases)
unfolding right result_cases computed
result_cases_hold = tt
