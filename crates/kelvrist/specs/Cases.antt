-- The calls from C on inputs of document 01, held to the definitions by computing them: its case A, and the small inputs of the refusal
-- table for 9 to 13.
use Rattle.std.specs.Prelude.{◌≡◌, refl, List, [], ◌∷◌, ◌++◌, ℕ, replicate}
use Rattle.base.specs.Number.{bytes}
use Rattle.job.specs.Cases.{computed}
use Rattle.etf.specs.Cases.{answer}
use Rattle.schedule.specs.Call.{start_of, processor_of}
use Rattle.schedule.specs.Check.{check_of, number_of}
use Rattle.schedule.specs.Cases.{rack_2, step, file_a, apart}
use Rattle.kelvrist.specs.PlanBytes.{returned, task_bytes, plan_bytes, processor_in, start_in}
use Rattle.kelvrist.specs.PlanBytes.{plan_bytes_for, plan_bytes_call_by, plan_bytes_call, check_bytes_for, check_bytes_call}

-- two steps of five ticks with a link of one message
abbrev linked : List ℕ
linked = rack_2 ++ (step 5 ++ (step 5 ++ (3 ∷ 0 ∷ 1 ∷ 1 ∷ 0 ∷ 4 ∷ [])))

-- a task's five bytes of a plan: its board, and a start below 256
abbrev at : ℕ → ℕ → List ℕ
at board start = board ∷ start ∷ 0 ∷ 0 ∷ 0 ∷ []

-- each call on its input
pub cases_hold :
    -- the planner from C: fifteen bytes are filled and the others left; 9 with fewer than fifteen; the reader's number is passed on
    (plan_bytes_call file_a (replicate 17 7) ≡ returned 0 (at 0 0 ++ (at 1 0 ++ (at 1 6 ++ (7 ∷ 7 ∷ [])))))
    × (plan_bytes_call file_a (replicate 14 7) ≡ returned 9 (replicate 14 7))
    × (plan_bytes_call (1 ∷ 2 ∷ 0 ∷ []) (replicate 17 7) ≡ returned 1 (replicate 17 7))
    -- the checker from C: case A's own plan; 9, 10, 11 and the last start that is taken; 12 and finish equal to start; 13 and a message
    -- in time; the reader's number
    × (check_bytes_call file_a (at 0 0 ++ (at 1 0 ++ at 1 6)) ≡ 0)
    × (check_bytes_call apart (at 0 0 ++ (1 ∷ 0 ∷ 0 ∷ 0 ∷ [])) ≡ 9)
    × (check_bytes_call apart (at 0 0 ++ at 2 0) ≡ 10)
    × (check_bytes_call apart (at 0 0 ++ (1 ∷ 1 ∷ 70 ∷ 195 ∷ 35 ∷ [])) ≡ 11)
    × (check_bytes_call apart (at 0 0 ++ (1 ∷ 0 ∷ 70 ∷ 195 ∷ 35 ∷ [])) ≡ 0)
    × (check_bytes_call apart (at 0 0 ++ at 0 0) ≡ 12)
    × (check_bytes_call apart (at 0 0 ++ at 0 5) ≡ 0)
    × (check_bytes_call linked (at 0 0 ++ at 1 6) ≡ 13)
    × (check_bytes_call linked (at 0 0 ++ at 1 7) ≡ 0)
    × (check_bytes_call (9 ∷ []) [] ≡ 2)
unfolding check_of plan_bytes_call_by plan_bytes_for plan_bytes task_bytes bytes start_of processor_of check_bytes_call check_bytes_for
    number_of
    processor_in start_in computed answer
cases_hold = (refl, refl, refl, refl, refl, refl, refl, refl, refl, refl, refl, refl, refl)
