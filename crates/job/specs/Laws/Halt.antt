-- Where the reader halts, and why: the chain of turns is followed from the file's start to the turn that refuses.
-- Then the writer's refusals, by its tests.
use Rattle.std.specs.Prelude.{Bool, true, false, not, ◌⊎◌, ◌≡◌, refl, List, ◌∷◌, ℕ, suc, ◌+◌, ◌≤◌, ◌<◌, ltb, T as Holds, length, get_or}
use Rattle.std.specs.Prelude.{drop}
use Rattle.std.proofs.Common.{inl, inr, ⊎_elim, ap, ◌∙◌, arith, ltb-true, ltb→lt, nltb→le, length-drop, drop-cons, drop-drop}
use Rattle.std.proofs.Math.Option.{Option, some}
use Rattle.base.specs.Choice.{pick}
use Rattle.base.specs.Laws.Tests.{impossible, or_cases, neither, when_true, is_true}
use Rattle.job.specs.Job.{Job, blank}
use Rattle.job.specs.Limits.{most_tasks, most_edges}
use Rattle.job.specs.Record.{Kind, kind_of, body_length, in_range, added}
use Rattle.job.specs.Read.{Answer, accepted, refused, records, read_job}
use Rattle.job.specs.Write.{Written, Length, Refused}
use Rattle.job.specs.Write.{room_for, is_too_many}
use Rattle.job.specs.Cause.{Cause, ReaderNumber, Untroubled, Reached, start, next}
use Rattle.job.specs.Cause.{cut, unknown, misplaced, out_of_range, too_many, bad_ends, not_above, bytes_after, not_due, too_early}
use Rattle.job.specs.Cause.{not_deliverable}
use Rattle.job.specs.Laws.Judged.{skip, trouble, passes, whole, passed}
use Rattle.job.specs.Laws.Turn.{Reads, no_more, halted, past, closed, reads}
use Rattle.job.specs.Laws.Lists.{at_place}

pub onward : (b : ℕ) (rest : List ℕ) (j : Job) (k : Kind) → kind_of b ≡ some k → 1 ≤ body_length k → Untroubled rest j k →
    records (b ∷ rest) 0 j ≡ records (drop (body_length k) rest) 0 (added j k rest)
unfolding records
onward b rest j k e h f =
    rw e (whole k rest j (records rest) f.placed f.room f.whole
    ∙ passes (trouble j k rest) _ (simp (is_true (in_range k rest) f.ranges) f.fits) ∙ passed k rest j (records rest) h
    ∙ skip rest (body_length k) (added j k rest))

pub reached_answer : (file : List ℕ) {at : ℕ} {j : Job} → Reached file at j → read_job file ≡ records (drop at file) 0 j
unfolding read_job
reached_answer file start = refl
reached_answer file (next {at} {j} k r l t h f) =
    reached_answer file r ∙ rw (drop-cons file at 0, ← drop-drop) (onward (get_or file at 0) (drop (suc at) file) j k t h f)

-- a refusal: it comes at a place reached, where the file ends or the record has the number's cause
abbrev pub Halt : List ℕ → ℕ → Type 0
Halt file n = (at : ℕ) × (j : Job) × Reached file at j
    × (((length file ≤ at) × (n ≡ 1)) ⊎ ((at < length file) × Cause (drop (suc at) file) j (kind_of (get_or file at 0)) n))

halt : (file : List ℕ) (n : ℕ) {xs : List ℕ} {j : Job} {a : Answer} → Reads xs j a → (at : ℕ) → drop at file ≡ xs →
    Reached file at j → a ≡ refused n → Halt file n
halt file n (no_more {j}) at q r e = (at, j, r, inl (omega (arith, simp length-drop at (ap length q)), cc))
halt file n (halted {b} {rest} {j} {n = m} c) at q r e =
    let p = at_place file at b rest q in
    let i : n ≡ m = cc in
    (at, j, r, inr (p.0, rw (p.2, p.1, i) c))
halt file n (past {b} {rest} {j} k t h f s) at q r e =
    let p = at_place file at b rest q in
    let t' : kind_of (get_or file at 0) ≡ some k = rw p.1 t in
    let f' : Untroubled (drop (suc at) file) j k = rw p.2 f in
    halt file n s (suc at + body_length k) (rw (← drop-drop, p.2)) (rw p.2 at (next k r p.0 t' h f')) e
halt file n (closed t f h) at q r e = let z : false ≡ true = cc in impossible z

pub halts_at : (file : List ℕ) (n : ℕ) → read_job file ≡ refused n → Halt file n
unfolding read_job
halts_at file n e = halt file n (reads file 0 blank) 0 refl start e

-- 1 to 8 are the reader's
pub reader_number : {n : ℕ} → (1 ≤ n) × (n ≤ 8) → ReaderNumber n
unfolding ReaderNumber
reader_number h = inl h

-- and so are 14 and 15
later_number : {n : ℕ} → (14 ≤ n) × (n ≤ 15) → ReaderNumber n
unfolding ReaderNumber
later_number h = inr h

-- the numbers of causes are the reader's
pub cause_number : {rest : List ℕ} {j : Job} {o : Option Kind} {n : ℕ} → Cause rest j o n → ReaderNumber n
cause_number (cut h) = reader_number (omega arith)
cause_number unknown = reader_number (omega arith)
cause_number (misplaced h) = reader_number (omega arith)
cause_number (out_of_range h) = reader_number (omega arith)
cause_number (too_many h) = reader_number (omega arith)
cause_number (bad_ends h) = reader_number (omega arith)
cause_number (not_above h) = reader_number (omega arith)
cause_number (bytes_after h) = reader_number (omega arith)
cause_number (not_due h) = later_number (omega arith)
cause_number (too_early h) = later_number (omega arith)
cause_number (not_deliverable h) = later_number (omega arith)

-- counts that are too large, and counts that are not
pub many_counts : (m l : ℕ) → Holds (is_too_many m l) → (most_tasks < m) ⊎ (most_edges < l)
unfolding is_too_many
many_counts m l h =
    ⊎_elim (λ t. inl (ltb→lt most_tasks m t)) (λ t. inr (ltb→lt most_edges l t)) (or_cases (ltb most_tasks m) (ltb most_edges l) h)

pub few_counts : (m l : ℕ) → Holds (not (is_too_many m l)) → (m ≤ most_tasks) × (l ≤ most_edges)
unfolding is_too_many
few_counts m l h = let n = neither (ltb most_tasks m) (ltb most_edges l) h in (nltb→le most_tasks m n.0, nltb→le most_edges l n.1)

-- the writer's refusal: for a count, or else what the room and the reader's answer give
pub count_refused : (m l n : ℕ) (w : Written) → pick (is_too_many m l) (Refused 5) w ≡ Refused n →
    ((n ≡ 5) × Holds (is_too_many m l)) ⊎ (w ≡ Refused n)
count_refused m l n w e = go (is_too_many m l) refl e
  where
    go : (b : Bool) → is_too_many m l ≡ b → pick b (Refused 5) w ≡ Refused n → ((n ≡ 5) × Holds (is_too_many m l)) ⊎ (w ≡ Refused n)
    go true hb h = inl (cc, when_true hb)
    go false hb h = inr h

pub room_refused : (n : ℕ) (file out : List ℕ) (a : Answer) → room_for file out a ≡ Refused n →
    (a ≡ refused n) ⊎ ((n ≡ 9) × (length out < length file))
unfolding room_for
room_refused n file out (refused i) e = inl (cc)
room_refused n file out (accepted j) e = go (ltb (length out) (length file)) refl e
  where
    go : (b : Bool) → ltb (length out) (length file) ≡ b → pick b (Refused 9) (Length (length file)) ≡ Refused n →
        (accepted j ≡ refused n) ⊎ ((n ≡ 9) × (length out < length file))
    go true hb h = inr (cc, ltb-true _ _ hb)
    go false hb h = inl (cc)
