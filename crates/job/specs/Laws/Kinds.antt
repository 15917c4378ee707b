-- What a kind byte names, and a record whose kind may not stand where it does: 3, or 2 where the kind is unknown.
use Rattle.std.specs.Prelude.{Bool, true, false, not, ◌≡◌, refl, List, ℕ, suc, ◌≤◌, ◌<◌, eqb, T as Holds, length, get_or, drop}
use Rattle.std.proofs.Common.{ap, sym, ◌∙◌, arith, eqb-true}
use Rattle.std.proofs.Math.Option.{Option, none, some}
use Rattle.base.specs.Choice.{pick}
use Rattle.job.specs.Job.{Job}
use Rattle.job.specs.Record.{Kind, rack, step, link, end, wire, result, kind_of, stands}
use Rattle.job.specs.Read.{refused, judged, records}
use Rattle.std.specs.Prelude.{Result, Ok, Err}
use Rattle.job.specs.declared.kind.RecordKind.{RecordKind}
use Rattle.job.specs.declared.kind.RecordKind.TheVariants.{Rack, Step, Link, End, Wire as Wires, Result as Results}
use Rattle.job.specs.declared.table.Refusal.{Refusal}
use Rattle.job.specs.declared.table.Refusal.TheVariants.{CutShort}
use Rattle.job.specs.Pass.{kind_named, Names, NoKind, KindFound}
use Rattle.job.specs.Laws.Judged.{at_record, at-end, misplaced}

-- the byte of a kind
abbrev pub kind_byte : Kind → ℕ
kind_byte rack = 1
kind_byte step = 2
kind_byte link = 3
kind_byte end = 4
kind_byte wire = 5
kind_byte result = 6

pub data KindAt : ℕ → Option Kind → Type 0 where
  known : (k : Kind) → KindAt (kind_byte k) (some k)
  strange : {b : ℕ} → KindAt b none

-- one row of the table of kinds
row : (b : ℕ) (k : Kind) (o : Option Kind) → KindAt b o → KindAt b (pick (eqb b (kind_byte k)) (some k) o)
row b k o other = go (eqb b (kind_byte k)) refl
  where
    go : (t : Bool) → eqb b (kind_byte k) ≡ t → KindAt b (pick t (some k) o)
    go true e = rw (eqb-true b (kind_byte k) e) (known k)
    go false e = other

pub kind_at : (b : ℕ) → KindAt b (kind_of b)
unfolding kind_of
kind_at b = row b rack _ (row b step _ (row b link _ (row b end _ (row b wire _ (row b result _ strange)))))

pub kind_byte_lem : (b : ℕ) (k : Kind) → kind_of b ≡ some k → b ≡ kind_byte k
kind_byte_lem b k h = go b (kind_of b) (kind_at b) h
  where
    go : (b : ℕ) (o : Option Kind) → KindAt b o → o ≡ some k → b ≡ kind_byte k
    go b o (known i) h = let z : i ≡ k = cc in ap kind_byte z
    go b o strange h = cc

-- a record of a kind that may not stand after j
pub misplaced_kind : (file : List ℕ) (at : ℕ) (j : Job) (k : Kind) → at < length file → kind_of (get_or file at 0) ≡ some k →
    Holds (not (stands j k)) → records (drop at file) 0 j ≡ refused 3
misplaced_kind file at j k l e h =
    at_record file at j l ∙ rw e (misplaced k (drop (suc at) file) j (records (drop (suc at) file)) h)

-- ---- the kind at a place of a file

record_kind : Kind → RecordKind
record_kind rack = Rack
record_kind step = Step
record_kind link = Link
record_kind end = End
record_kind wire = Wires
record_kind result = Results

back : (k : RecordKind) → record_kind (kind_named k) ≡ k
unfolding record_kind
back Rack = refl
back Step = refl
back Link = refl
back End = refl
back Wires = refl
back Results = refl

pub other_kind : (a b : RecordKind) → (a ≡ b → ⊥) → kind_named a ≡ kind_named b → ⊥
other_kind a b d e = d (sym (back a) ∙ ap record_kind e ∙ back b)

pub nothing_there : (file : List ℕ) (at : ℕ) → length file ≤ at → NoKind file at CutShort
nothing_there file at h = record { answer = λ j. at-end file at j h; none_there = λ k l. absurd (omega arith) }

pub kind_there : (file : List ℕ) (at : ℕ) → at < length file → (r : Result RecordKind Refusal) → Names (get_or file at 0) r →
    KindFound file at r
unfolding judged
kind_there file at h (Ok k) n = (h, n)
kind_there file at h (Err e) n =
    record {
      answer = λ j. rw n.1 (at_record file at j h ∙ rw n.0 refl);
      none_there = λ k l q. let z : ◌≡◌ {A = Option Kind} none (some k) = sym n.0 ∙ q in cc;
    }
