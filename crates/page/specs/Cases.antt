-- What is printed for inputs of document 01, case A from the file's bytes to the page and a refusal: the definitions, computed.
use Rattle.std.specs.Prelude.{◌≡◌, refl, [], ◌∷◌, ◌++◌}
use Rattle.base.specs.Text.{text}
use Rattle.job.specs.Cases.{computed}
use Rattle.etf.specs.Cases.{answer}
use Rattle.schedule.specs.Cases.{file_a}
use Rattle.gantt.specs.Page.{width, columns, row, rows, ticks_within, runs_within, cell, page}
use Rattle.listing.specs.Listing.{digits, decimal, field, line, refusal_line}
use Rattle.page.specs.Printed.{plan_page, printed_for, printed as printed_text}

-- step 2 waits on board 1 for messages; and nothing but its number for the file that ends too early
pub printed : (printed_text file_a
    ≡ text " 0 |####............................................................|\n"
    ++ text " 1 |###...##........................................................|\n")
    × (printed_text (1 ∷ 2 ∷ 0 ∷ []) ≡ text "refused 1\n")
unfolding printed_text printed_for plan_page refusal_line page rows row columns cell runs_within ticks_within width line field decimal
    digits text
    computed answer
printed = (refl, refl)
