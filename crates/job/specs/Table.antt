-- The refusal table (01: "Refusal table"; 02 §1 and §2): the number of each of its rows.
use Rattle.std.specs.Prelude.{◌≡◌, ℕ, zero, suc, refl, ◌≤◌, eqb, Result, Ok, Err}
use Rattle.std.proofs.Common.{arith}
use Rattle.base.specs.Choice.{pick}
use Rattle.job.specs.declared.table.Refusal.{Refusal}
use Rattle.job.specs.declared.table.Refusal.TheVariants.{CutShort, UnknownKind, MisplacedKind, OutOfRange, TooMany, BadEnds, NotAbove}
use Rattle.job.specs.declared.table.Refusal.TheVariants.{BytesAfter, ShortSlice, AbsentProcessor, LateStart, Overlap, EarlyStart}
use Rattle.job.specs.declared.table.Refusal.TheVariants.{NotDue, NotDeliverable}

-- the number of a refusal
abbrev pub number_of : Refusal → ℕ
number_of CutShort = 1
number_of UnknownKind = 2
number_of MisplacedKind = 3
number_of OutOfRange = 4
number_of TooMany = 5
number_of BadEnds = 6
number_of NotAbove = 7
number_of BytesAfter = 8
number_of ShortSlice = 9
number_of AbsentProcessor = 10
number_of LateStart = 11
number_of Overlap = 12
number_of EarlyStart = 13
number_of NotDue = 14
number_of NotDeliverable = 15

-- the trouble of what was judged: the refusal's number, or 0 for none
abbrev pub trouble : {A : Type 0} → Result A Refusal → ℕ
trouble (Ok x) = 0
trouble (Err e) = number_of e

-- a refusal's number is not 0
pub is_trouble : (e : Refusal) → number_of e ≡ 0 → ⊥
is_trouble CutShort z = cc
is_trouble UnknownKind z = cc
is_trouble MisplacedKind z = cc
is_trouble OutOfRange z = cc
is_trouble TooMany z = cc
is_trouble BadEnds z = cc
is_trouble NotAbove z = cc
is_trouble BytesAfter z = cc
is_trouble ShortSlice z = cc
is_trouble AbsentProcessor z = cc
is_trouble LateStart z = cc
is_trouble Overlap z = cc
is_trouble EarlyStart z = cc
is_trouble NotDue z = cc
is_trouble NotDeliverable z = cc

-- the refusal that has this number; the table has no other than 1 to 15
unfoldable pub refusal : ℕ → Refusal
refusal n =
    pick (eqb n 1) CutShort
    (pick (eqb n 2) UnknownKind
    (pick (eqb n 3) MisplacedKind
    (pick (eqb n 4) OutOfRange
    (pick (eqb n 5) TooMany
    (pick (eqb n 6) BadEnds
    (pick (eqb n 7) NotAbove
    (pick (eqb n 8) BytesAfter
    (pick (eqb n 9) ShortSlice
    (pick (eqb n 10) AbsentProcessor
    (pick (eqb n 11) LateStart
    (pick (eqb n 12) Overlap
    (pick (eqb n 13) EarlyStart
    (pick (eqb n 14) NotDue
    NotDeliverable)))))))))))))

-- each row has one number
pub refusal_is : (e : Refusal) → refusal (number_of e) ≡ e
unfolding refusal
refusal_is CutShort = refl
refusal_is UnknownKind = refl
refusal_is MisplacedKind = refl
refusal_is OutOfRange = refl
refusal_is TooMany = refl
refusal_is BadEnds = refl
refusal_is NotAbove = refl
refusal_is BytesAfter = refl
refusal_is ShortSlice = refl
refusal_is AbsentProcessor = refl
refusal_is LateStart = refl
refusal_is Overlap = refl
refusal_is EarlyStart = refl
refusal_is NotDue = refl
refusal_is NotDeliverable = refl

-- and each number of the table one row
pub number_is : (n : ℕ) → 1 ≤ n → n ≤ 15 → number_of (refusal n) ≡ n
unfolding refusal
number_is zero a b = let z : ⊥ = omega arith in absurd z
number_is (suc zero) a b = refl
number_is (suc (suc zero)) a b = refl
number_is (suc (suc (suc zero))) a b = refl
number_is (suc (suc (suc (suc zero)))) a b = refl
number_is (suc (suc (suc (suc (suc zero))))) a b = refl
number_is (suc (suc (suc (suc (suc (suc zero)))))) a b = refl
number_is (suc (suc (suc (suc (suc (suc (suc zero))))))) a b = refl
number_is (suc (suc (suc (suc (suc (suc (suc (suc zero)))))))) a b = refl
number_is (suc (suc (suc (suc (suc (suc (suc (suc (suc zero))))))))) a b = refl
number_is (suc (suc (suc (suc (suc (suc (suc (suc (suc (suc zero)))))))))) a b = refl
number_is (suc (suc (suc (suc (suc (suc (suc (suc (suc (suc (suc zero))))))))))) a b = refl
number_is (suc (suc (suc (suc (suc (suc (suc (suc (suc (suc (suc (suc zero)))))))))))) a b = refl
number_is (suc (suc (suc (suc (suc (suc (suc (suc (suc (suc (suc (suc (suc zero))))))))))))) a b = refl
number_is (suc (suc (suc (suc (suc (suc (suc (suc (suc (suc (suc (suc (suc (suc zero)))))))))))))) a b = refl
number_is (suc (suc (suc (suc (suc (suc (suc (suc (suc (suc (suc (suc (suc (suc (suc zero))))))))))))))) a b = refl
number_is (suc (suc (suc (suc (suc (suc (suc (suc (suc (suc (suc (suc (suc (suc (suc (suc n)))))))))))))))) a b = absurd (omega arith)
