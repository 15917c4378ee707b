-- Pages computed by the definition: case A of document 01, cells of more than a tick, the numbers, and the calls that are refused.
use Rattle.std.specs.Prelude.{◌≡◌, refl, [], ◌∷◌, ◌++◌, replicate}
use Rattle.base.specs.Text.{text}
use Rattle.job.specs.Cases.{computed}
use Rattle.etf.specs.Cases.{answer}
use Rattle.schedule.specs.Check.{check_of, checked_as, check_for}
use Rattle.schedule.specs.Cases.{file_a, apart}
use Rattle.gantt.specs.Answer.{Length, Refused}
use Rattle.gantt.specs.Page.{width, columns, row, rows, ticks_within, runs_within, cell, page}
use Rattle.gantt.specs.Draw.{drawn, page_of, drawn_by, draw_for, draw_call}

-- 02 §3: "the last finish divided by 64, rounded up"
pub widths : (width 1 ≡ 1) × (width 64 ≡ 1) × (width 65 ≡ 2) × (width 128 ≡ 2) × (width 601000000 ≡ 9390625)
unfolding width
widths = (refl, refl, refl, refl, refl)

-- 02 §3: "the number in two columns, padded left with a space"
pub numbers : (columns 0 ≡ text " 0") × (columns 9 ≡ text " 9") × (columns 10 ≡ text "10") × (columns 15 ≡ text "15")
unfolding columns text
numbers = (refl, refl, refl, refl)

-- 02 §3: the page of case A's plan, a tick a cell; two steps in cells of two ticks, of which the first ends where its third cell does
pub pages :
    (draw_call file_a (0 ∷ 0 ∷ 6 ∷ []) (0 ∷ 1 ∷ 1 ∷ []) (replicate 141 7)
    ≡ drawn (Length 140)
    ((text " 0 |####............................................................|\n"
    ++ text " 1 |###...##........................................................|\n") ++ (7 ∷ [])))
    × (draw_call apart (1 ∷ 123 ∷ []) (0 ∷ 1 ∷ []) (replicate 140 7)
    ≡ drawn (Length 140)
    (text " 0 |###.............................................................|\n"
    ++ text " 1 |.............................................................###|\n"))
    -- a plan that the checker refuses, a buffer that is short by a byte, and both
    × (draw_call apart (0 ∷ 4 ∷ []) (0 ∷ 0 ∷ []) (7 ∷ 7 ∷ []) ≡ drawn (Refused 9) (7 ∷ 7 ∷ []))
    × (draw_call apart (0 ∷ 4 ∷ []) (0 ∷ 0 ∷ []) (replicate 140 7) ≡ drawn (Refused 12) (replicate 140 7))
    × (draw_call apart (0 ∷ 5 ∷ []) (0 ∷ 0 ∷ []) (replicate 139 7) ≡ drawn (Refused 9) (replicate 139 7))
unfolding draw_call draw_for drawn_by page_of page rows row columns cell runs_within ticks_within width check_for check_of checked_as text
    computed answer
pages = (refl, refl, refl, refl, refl)
