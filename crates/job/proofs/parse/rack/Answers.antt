-- `parse::rack`: each return is the judgement of the file's first record, after nothing.
use mathlib.Core.Bool.{not}
use mathlib.Core.Path.{◌≡◌, refl, sym, ◌∙◌}
use mathlib.Core.List.{List}
use mathlib.Core.Option.{some}
use Prim.Native.Nat.{ℕ, ◌≤◌, ◌<◌}
use native.Mathlib.Omega.{arith}
use lib.Dec.{T as Holds}
use lib.ListN.{length, get_or, drop}
use lib.Seq.{get_or-drop}
use Rattle.std.proofs.lemmas.Result.{err_from_is_err_and}
use Rattle.job.specs.declared.Platform.{Platform}
use Rattle.job.specs.declared.kind.RecordKind.TheVariants.{Rack}
use Rattle.job.specs.Job.{blank, with_rack}
use Rattle.job.specs.Record.{Kind, rack, step, link, end, wire, result, kind_of, body_length, no_rack, stands, full, in_range, misfit}
use Rattle.job.specs.Record.{added, platform_in}
use Rattle.job.specs.Read.{refused, refused_or, records, read_job}
use Rattle.job.specs.Table.{is_trouble}
use Rattle.job.specs.Pass.{platform_trouble}
use Rattle.job.specs.Laws.Judged.{stops, short_at, whole_at}
use Rattle.job.specs.Laws.Kinds.{misplaced_kind, other_kind}
use Rattle.job.specs.Laws.Due.{in_ranges}
use Rattle.job.proofs.parse.rack.Goals as goal

module _ (file : List ℕ) where
  -- nothing but a rack may stand there
  first : (k : Kind) → (k ≡ rack → ⊥) → Holds (not (stands blank k))
  unfolding stands no_rack blank
  first rack z = absurd (z refl)
  first step z = tt
  first link z = tt
  first end z = tt
  first wire z = tt
  first result z = tt

  other : (k : Kind) → 0 < length file → kind_of (get_or file 0 0) ≡ some k → (k ≡ rack → ⊥) → read_job file ≡ refused 3
  unfolding read_job
  other k h is z = misplaced_kind file 0 blank k h is (first k z)

  none : (n : ℕ) → records (drop 0 file) 0 blank ≡ refused n → read_job file ≡ refused n
  unfolding read_job
  none n h = h

  module _ (h : 0 < length file) (is : kind_of (get_or file 0 0) ≡ some rack) where
    cut : length file < 4 → read_job file ≡ refused 1
    unfolding read_job stands no_rack full body_length blank
    cut l = short_at file 0 blank rack h is tt tt (omega arith)

    abbrev there : Platform
    there = record { processors = get_or file 1 0; topology = get_or file 2 0; unit = get_or file 3 0 }

    platform_is : platform_in (drop 1 file) ≡ there
    unfolding platform_in
    platform_is = simp get_or-drop

    judged : 4 ≤ length file → (t : ℕ) → t ≡ platform_trouble there →
        read_job file ≡ refused_or t (records (drop 4 file) 0 (with_rack blank there))
    unfolding read_job stands no_rack full body_length in_range misfit added platform_trouble blank
    judged l t i = rw i (rw platform_is at (whole_at file 0 blank rack h is tt tt (omega arith) l))

pub returns-in_err-kind_at : goal.returns-in_err-kind_at
returns-in_err-kind_at c =
    let p = err_from_is_err_and c.from_residual.result c.from_residual.ensures.1 in
    rw (p.1, p.2) (none _ _ (c.in_err-kind_at.ensures.answer blank))

pub returns-in_default : goal.returns-in_default
returns-in_default c =
    let k = c.in_ok-kind_at.ensures in
    other _ _ k.0 k.1 (other_kind _ Rack c.in_default.not-Rack)

pub returns-then-file-lt-RACK_LENGTH : goal.returns-then-file-lt-RACK_LENGTH
returns-then-file-lt-RACK_LENGTH c =
    let k = c.in_ok-kind_at.ensures in
    cut _ k.0 (rw c.in-Rack.is at k.1) c.if-file-lt-RACK_LENGTH.true

pub returns-in_err-judge_platform : goal.returns-in_err-judge_platform
returns-in_err-judge_platform c =
    let k = c.in_ok-kind_at.ensures in
    let p = err_from_is_err_and c.from_residual-in_err-judge_platform.result c.from_residual-in_err-judge_platform.ensures.1 in
    rw (p.1, p.2)
    (judged _ k.0 (rw c.in-Rack.is at k.1) c.if-file-lt-RACK_LENGTH.false _ c.in_err-judge_platform.ensures ∙ stops _ _ (is_trouble _))

pub returns : goal.returns
returns c =
    let k = c.in_ok-kind_at.ensures in
    record {
      answer = judged _ k.0 (rw c.in-Rack.is at k.1) c.if-file-lt-RACK_LENGTH.false _ c.in_ok-judge_platform.ensures;
      inside = c.if-file-lt-RACK_LENGTH.false;
      in_range_lem = in_ranges _ (sym c.in_ok-judge_platform.ensures);
    }
