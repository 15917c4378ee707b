-- The judgement of one record as a view (`turn`: it halts with a cause, goes on past a body, or is the end), and of a
-- whole file as the chain of these turns (`reads`). Theorems on the reader are inductions on `Reads`, and open no test.
use Rattle.std.specs.Prelude.{Bool, true, false, not, ◌≡◌, refl, List, [], ◌∷◌, ℕ, zero, suc, ◌≤◌, ltb, length, drop}
use Rattle.std.proofs.Math.Option.{Option, none, some}
use Rattle.std.proofs.Common.{arith, ltb-true, ltb-false}
use Rattle.base.specs.Choice.{pick}
use Rattle.base.specs.Laws.Tests.{when_true, when_false}
use Rattle.job.specs.Job.{Job}
use Rattle.job.specs.Record.{Kind, rack, step, link, end, wire, result, kind_of, body_length, stands, full, in_range, misfit, added}
use Rattle.job.specs.Read.{Answer, accepted, refused, refused_or, after, judged, records}
use Rattle.job.specs.Cause.{Cause, Untroubled, cut, unknown, misplaced, out_of_range, too_many, bytes_after}
use Rattle.job.specs.Laws.Judged.{misfit_cause}

-- the answer to a record: refused with its cause, left to what follows the body, or the job accepted at the end record
pub data Turn (rest : List ℕ) (j : Job) (more : ℕ → Job → Answer) : Option Kind → Answer → Type 0 where
  halts : {o : Option Kind} {n : ℕ} → Cause rest j o n → Turn rest j more o (refused n)
  goes_on : (k : Kind) → 1 ≤ body_length k → Untroubled rest j k → Turn rest j more (some k) (more (body_length k) (added j k rest))
  is_end : Untroubled rest j end → rest ≡ [] → Turn rest j more (some end) (accepted j)

fitted : (k : Kind) (rest : List ℕ) (j : Job) (more : ℕ → Job → Answer)
    → Untroubled rest j k → Turn rest j more (some k) (after k rest j more)
unfolding after body_length
fitted rack rest j more f = goes_on rack (omega arith) f
fitted step rest j more f = goes_on step (omega arith) f
fitted link rest j more f = goes_on link (omega arith) f
fitted wire rest j more f = goes_on wire (omega arith) f
fitted result rest j more f = goes_on result (omega arith) f
fitted end [] j more f = is_end f refl
fitted end (b ∷ rest) j more f = halts (bytes_after tt)

pub turn : (o : Option Kind) (rest : List ℕ) (j : Job) (more : ℕ → Job → Answer) → Turn rest j more o (judged o rest j more)
unfolding judged
turn none rest j more = halts unknown
turn (some k) rest j more = go (stands j k) (full j k) (ltb (length rest) (body_length k)) (in_range k rest) (misfit j k rest)
    refl refl refl refl refl
  where
    go : (s f l r : Bool) (n : ℕ) → stands j k ≡ s → full j k ≡ f → ltb (length rest) (body_length k) ≡ l → in_range k rest ≡ r →
        misfit j k rest ≡ n → Turn rest j more (some k) (pick (not s) (refused 3) (pick f (refused 5) (pick l (refused 1)
        (pick (not r) (refused 4) (refused_or n (after k rest j more))))))
    go false f l r n hs hf hl hr hn = halts (misplaced (when_false hs))
    go true true l r n hs hf hl hr hn = halts (too_many (when_true hf))
    go true false true r n hs hf hl hr hn = halts (cut (ltb-true _ _ hl))
    go true false false false n hs hf hl hr hn = halts (out_of_range (when_false hr))
    go true false false true (suc n) hs hf hl hr hn = halts (misfit_cause j k rest n hn)
    go true false false true zero hs hf hl hr hn =
        fitted k rest j more (record {
          placed = when_true hs;
          room = when_false hf;
          whole = ltb-false _ _ hl;
          ranges = when_true hr;
          fits = hn;
        })

-- the answer to the bytes that are left, after the job so far
pub data Reads : List ℕ → Job → Answer → Type 0 where
  no_more : {j : Job} → Reads [] j (refused 1)
  halted : {b : ℕ} {rest : List ℕ} {j : Job} {n : ℕ} → Cause rest j (kind_of b) n → Reads (b ∷ rest) j (refused n)
  past : {b : ℕ} {rest : List ℕ} {j : Job} {a : Answer} (k : Kind) → kind_of b ≡ some k → 1 ≤ body_length k → Untroubled rest j k →
      Reads (drop (body_length k) rest) (added j k rest) a → Reads (b ∷ rest) j a
  closed : {b : ℕ} {rest : List ℕ} {j : Job} → kind_of b ≡ some end → Untroubled rest j end → rest ≡ [] → Reads (b ∷ rest) j (accepted j)

pub reads : (xs : List ℕ) (skip : ℕ) (j : Job) → Reads (drop skip xs) j (records xs skip j)
unfolding records
reads [] zero j = no_more
reads [] (suc skip) j = no_more
reads (b ∷ rest) (suc skip) j = reads rest skip j
reads (b ∷ rest) zero j =
    go (kind_of b) (judged (kind_of b) rest j (records rest)) refl (turn (kind_of b) rest j (records rest)) (reads rest)
  where
    go : (o : Option Kind) (a : Answer) → kind_of b ≡ o → Turn rest j (records rest) o a →
        ((skip : ℕ) (i : Job) → Reads (drop skip rest) i (records rest skip i)) → Reads (b ∷ rest) j a
    go o a e (halts c) more = halted (rw (← e) at c)
    go o a e (goes_on k h f) more = past k e h f (more (body_length k) (added j k rest))
    go o a e (is_end f h) more = closed e f h
