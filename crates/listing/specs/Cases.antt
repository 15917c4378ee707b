-- What is printed for inputs of document 01, case A from the file's bytes to the text and a refusal: the definitions, computed.
use Rattle.std.specs.Prelude.{◌≡◌, refl, [], ◌∷◌}
use Rattle.base.specs.Text.{text}
use Rattle.job.specs.Cases.{computed}
use Rattle.etf.specs.Cases.{answer}
use Rattle.schedule.specs.Call.{start_of, processor_of}
use Rattle.schedule.specs.Plan.{end_by}
use Rattle.schedule.specs.Cases.{file_a}
use Rattle.listing.specs.Listing.{digits, decimal, field, line, header, task_line, task_lines, figures}
use Rattle.listing.specs.Listing.{plan_listing, refusal_line, listing_for, listing}

-- 01: "For bytes 01 02 00 02, .." to "04" it prints the seven lines, and, 02 §7, `least` after `cover`: "in case A it is 2"; for the file
-- that ends too early it prints nothing but its number
pub printed : (listing file_a ≡ text "plan 2 3 2\n0 0 0 4\n1 1 0 3\n2 1 6 8\nend 8\ncover 6\nleast 2\ndearest 6\n")
    × (listing (1 ∷ 2 ∷ 0 ∷ []) ≡ text "refused 1\n")
unfolding listing listing_for refusal_line plan_listing figures task_lines task_line header line field decimal digits text start_of
    processor_of end_by computed answer
printed = (refl, refl)

-- the digits of the least and the greatest number of 32 bits
pub spelt : (decimal 0 ≡ text "0") × (decimal 4294967295 ≡ text "4294967295")
unfolding decimal digits text
spelt = (refl, refl)
