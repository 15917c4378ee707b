-- The calls, computed by their definitions on inputs of document 01: its cases A and H, and the small input of the refusal table for 9; and
-- on a job of document 02 §6.
use Rattle.std.specs.Prelude.{◌≡◌, refl, List, [], ◌∷◌, ◌++◌, map, ℕ, replicate}
use Rattle.base.specs.Slices.{filled}
use Rattle.job.specs.Job.{Job, blank, with_rack, with_tasks, with_edges}
use Rattle.job.specs.Cases.{computed}
use Rattle.etf.specs.Cases.{answer}
use Rattle.etf.specs.OfJob.{instance}
use Rattle.schedule.specs.Answers.Planned.{Plan, Refused}
use Rattle.schedule.specs.Answers.Covered.{Cover, Refused as NotCovered}
use Rattle.schedule.specs.Answers.Checked.{Yes, Refused as NotChecked}
use Rattle.schedule.specs.Call.{called, start_of, processor_of, scratch_at, laid_out_call, is_too_short, call_for}
use Rattle.schedule.specs.Plan.{end_by, outcome_by, plan_call_by, plan_call, weight_call}
use Rattle.schedule.specs.Small.{laid_small, small_call}
use Rattle.schedule.specs.Cover.{figures, cover_call_by, cover_call, weight_cover_call}
use Rattle.schedule.specs.Check.{check_of, checked_as, check_for, check_call}

-- a rack of two boards, flat, c = 2, and steps of so many ticks
abbrev pub rack_2 : List ℕ
rack_2 = 1 ∷ 2 ∷ 0 ∷ 2 ∷ []

abbrev pub step : ℕ → List ℕ
step d = 2 ∷ d ∷ 0 ∷ 0 ∷ 0 ∷ []

-- 01: the file of case A
abbrev pub file_a : List ℕ
file_a = rack_2 ++ (step 4 ++ (step 3 ++ (step 2 ++ (3 ∷ 0 ∷ 2 ∷ 1 ∷ 0 ∷ 3 ∷ 1 ∷ 2 ∷ 3 ∷ 0 ∷ 4 ∷ []))))

abbrev job_a : Job
job_a =
    with_edges (with_tasks (with_rack blank (record { processors = 2; topology = 0; unit = 2 })) (4 ∷ 3 ∷ 2 ∷ []))
    (record { from = 0; to = 2; count = 1 } ∷ record { from = 1; to = 2; count = 3 } ∷ [])

-- 01: the file of case H
abbrev file_h : List ℕ
file_h = 1 ∷ 2 ∷ 0 ∷ 5 ∷ (step 3 ++ (step 2 ++ (step 2 ++ (3 ∷ 0 ∷ 1 ∷ 1 ∷ 0 ∷ 3 ∷ 0 ∷ 2 ∷ 1 ∷ 0 ∷ 4 ∷ []))))

-- 02 §6: a long branch, on two boards, flat, c = 1 (`by_weight` of etf's cases)
abbrev file_long : List ℕ
file_long =
    1 ∷ 2 ∷ 0 ∷ 1 ∷ (step 1 ++ (step 1 ++ (step 1 ++ (step 1 ++ (step 4
    ++ (3 ∷ 0 ∷ 3 ∷ 1 ∷ 0 ∷ 3 ∷ 1 ∷ 3 ∷ 1 ∷ 0 ∷ 3 ∷ 2 ∷ 4 ∷ 1 ∷ 0 ∷ 4 ∷ []))))))

-- five places of each
abbrev fives : List ℕ
fives = 7 ∷ 7 ∷ 7 ∷ 7 ∷ 7 ∷ []

-- two steps of five ticks
abbrev pub apart : List ℕ
apart = rack_2 ++ (step 5 ++ (step 5 ++ (4 ∷ [])))

-- the arrivals of case A as the scratch has them: step 2 at boards 0 and 1, and 0 where there is no predecessor, no board or no step
abbrev scratch_a : List ℕ
scratch_a = map (scratch_at (instance job_a)) (0 ∷ 17 ∷ 32 ∷ 33 ∷ 34 ∷ 48 ∷ 4095 ∷ [])

-- each call on its input
pub cases_hold :
    -- the planner: m and the end, the starts and the processors, places past m as they were; the scratch by place
    ((plan_call file_a (7 ∷ 7 ∷ 7 ∷ 8 ∷ []) (7 ∷ 7 ∷ 7 ∷ []) (replicate 4096 7)).answer ≡ Plan (record { tasks = 3; end = 8 }))
    × ((plan_call file_a (7 ∷ 7 ∷ 7 ∷ 8 ∷ []) (7 ∷ 7 ∷ 7 ∷ []) (replicate 4096 7)).starts ≡ 0 ∷ 0 ∷ 6 ∷ 8 ∷ [])
    × ((plan_call file_a (7 ∷ 7 ∷ 7 ∷ 8 ∷ []) (7 ∷ 7 ∷ 7 ∷ []) (replicate 4096 7)).processors ≡ 0 ∷ 1 ∷ 1 ∷ [])
    × (scratch_a ≡ 0 ∷ 0 ∷ 9 ∷ 6 ∷ 0 ∷ 0 ∷ 0 ∷ [])
    -- 01: 9, "m = 2, one start place", and so for each slice alone, the others long enough
    × (plan_call apart (7 ∷ []) (7 ∷ 7 ∷ []) (replicate 4096 8) ≡ called (Refused 9) (7 ∷ []) (7 ∷ 7 ∷ []) (replicate 4096 8))
    × (plan_call apart (7 ∷ 7 ∷ []) (7 ∷ []) (replicate 4096 8) ≡ called (Refused 9) (7 ∷ 7 ∷ []) (7 ∷ []) (replicate 4096 8))
    × (plan_call apart (7 ∷ 7 ∷ []) (7 ∷ 7 ∷ []) (replicate 4095 8) ≡ called (Refused 9) (7 ∷ 7 ∷ []) (7 ∷ 7 ∷ []) (replicate 4095 8))
    -- the planner for small controllers (02 §4): the same plan, and 512 places of scratch that are 0; 9 by that number
    × (small_call file_a (7 ∷ 7 ∷ 7 ∷ 8 ∷ []) (7 ∷ 7 ∷ 7 ∷ []) (replicate 513 7) ≡ called (Plan (record { tasks = 3; end = 8 }))
    (0 ∷ 0 ∷ 6 ∷ 8 ∷ []) (0 ∷ 1 ∷ 1 ∷ []) (replicate 512 0 ++ (7 ∷ [])))
    × (small_call apart (7 ∷ 7 ∷ []) (7 ∷ 7 ∷ []) (replicate 511 8) ≡ called (Refused 9) (7 ∷ 7 ∷ []) (7 ∷ 7 ∷ []) (replicate 511 8))
    -- the cover call: C, the least cover (02 §7: "in case A it is 2") and the dearest chain, the slices as the planner leaves them; 9 for
    -- each slice, and the reader's number
    × ((cover_call file_a (7 ∷ 7 ∷ 7 ∷ 8 ∷ []) (7 ∷ 7 ∷ 7 ∷ []) (replicate 4096 7)).answer
    ≡ Cover (record { cover = 6; least = 2; dearest = 6 }))
    × ((cover_call file_a (7 ∷ 7 ∷ 7 ∷ 8 ∷ []) (7 ∷ 7 ∷ 7 ∷ []) (replicate 4096 7)).starts ≡ 0 ∷ 0 ∷ 6 ∷ 8 ∷ [])
    × ((cover_call file_h (7 ∷ 7 ∷ 7 ∷ []) (7 ∷ 7 ∷ 7 ∷ []) (replicate 4096 7)).answer
    ≡ Cover (record { cover = 5; least = 5; dearest = 5 }))
    × (cover_call apart (7 ∷ []) (7 ∷ 7 ∷ []) (replicate 4096 8) ≡ called (NotCovered 9) (7 ∷ []) (7 ∷ 7 ∷ []) (replicate 4096 8))
    × (cover_call apart (7 ∷ 7 ∷ []) (7 ∷ []) (replicate 4096 8) ≡ called (NotCovered 9) (7 ∷ 7 ∷ []) (7 ∷ []) (replicate 4096 8))
    × (cover_call apart (7 ∷ 7 ∷ []) (7 ∷ 7 ∷ []) (replicate 4095 8) ≡ called (NotCovered 9) (7 ∷ 7 ∷ []) (7 ∷ 7 ∷ []) (replicate 4095 8))
    × (cover_call (1 ∷ 2 ∷ 0 ∷ []) (7 ∷ []) [] [] ≡ called (NotCovered 1) (7 ∷ []) [] [])
    -- by weight the long branch begins at 0, and the end is 5 in place of 6; 9 as the larger entry has it
    × ((plan_call file_long fives fives (replicate 4096 7)).answer ≡ Plan (record { tasks = 5; end = 6 }))
    × ((weight_call file_long fives fives (replicate 4096 7)).answer ≡ Plan (record { tasks = 5; end = 5 }))
    × ((weight_call file_long fives fives (replicate 4096 7)).starts ≡ 0 ∷ 1 ∷ 0 ∷ 2 ∷ 1 ∷ [])
    × ((weight_call file_long fives fives (replicate 4096 7)).processors ≡ 1 ∷ 1 ∷ 0 ∷ 1 ∷ 0 ∷ [])
    × ((weight_cover_call file_long fives fives (replicate 4096 7)).answer ≡ Cover (record { cover = 0; least = 0; dearest = 1 }))
    × (weight_call apart (7 ∷ 7 ∷ []) (7 ∷ 7 ∷ []) (replicate 4095 8) ≡ called (Refused 9) (7 ∷ 7 ∷ []) (7 ∷ 7 ∷ []) (replicate 4095 8))
    -- the checker: 9 for each slice; places past m are not read
    × (check_call apart (0 ∷ []) (0 ∷ 1 ∷ []) ≡ NotChecked 9)
    × (check_call apart (0 ∷ 0 ∷ []) (0 ∷ []) ≡ NotChecked 9)
    × (check_call apart (0 ∷ 5 ∷ 0 ∷ []) (0 ∷ 0 ∷ 99 ∷ []) ≡ Yes)
unfolding plan_call_by small_call laid_small outcome_by end_by cover_call_by figures call_for laid_out_call is_too_short filled
    scratch_at check_call check_for
    checked_as check_of start_of processor_of computed answer
cases_hold = (
  refl,
  refl,
  refl,
  refl,
  refl,
  refl,
  refl,
  refl,
  refl,
  refl,
  refl,
  refl,
  refl,
  refl,
  refl,
  refl,
  refl,
  refl,
  refl,
  refl,
  refl,
  refl,
  refl,
  refl,
  refl,
)
