-- `parse::wire`: each return is the judgement of a wire at this place, after any job that a wire may follow.
use mathlib.Core.Path.{◌≡◌, refl, ◌∙◌}
use mathlib.Core.List.{List, [], ◌∷◌}
use mathlib.Core.Option.{some}
use Prim.Native.Nat.{ℕ, suc, ◌+◌, ◌-◌, ◌≤◌, ◌<◌}
use native.Mathlib.Omega.{arith}
use lib.ListN.{length, get_or, drop}
use lib.Seq.{get_or-drop}
use Rattle.std.proofs.lemmas.Result.{err_from_is_err_and}
use Rattle.std.specs.Prelude.{Option}
use Rattle.job.specs.declared.record.Pair.{Pair}
use Rattle.job.specs.Job.{Job, with_wires}
use Rattle.job.specs.Record.{wire, kind_of, body_length, full, in_range, misfit, added, wire_in}
use Rattle.job.specs.Read.{refused, refused_or, records}
use Rattle.job.specs.Table.{is_trouble}
use Rattle.job.specs.Pass.{wire_of, wire_trouble, pairs_from, WireDue}
use Rattle.job.specs.Laws.Judged.{short_at, whole_at, stops}
use Rattle.job.proofs.parse.wire.Goals as goal

module _ (file : List ℕ) (at n : ℕ) (due : Option Pair) (h : at < length file) (is : kind_of (get_or file at 0) ≡ some wire) where
  cut : length file - at < 4 → (j : Job) → WireDue j (pairs_from n due) → records (drop at file) 0 j ≡ refused 1
  unfolding body_length full
  cut l j s = short_at file at j wire h is s.placed tt (omega arith)

  module _ (l : 4 ≤ length file - at) (f t c : ℕ) (fi : f ≡ get_or file (at + 1) 0)
      (ti : t ≡ get_or file (at + 2) 0) (ci : c ≡ get_or file (at + 3) 0) where
    wire_is : wire_in (drop (suc at) file) ≡ wire_of f t c
    unfolding wire_in
    wire_is =
        let a : suc at + 0 ≡ at + 1 = omega arith in
        let b : suc at + 1 ≡ at + 2 = omega arith in
        let d : suc at + 2 ≡ at + 3 = omega arith in
        rw (get_or-drop (suc at) file 0 0, get_or-drop (suc at) file 1 0, get_or-drop (suc at) file 2 0, a, b, d, ← fi, ← ti, ← ci)

    judged : (r : ℕ) → r ≡ wire_trouble (pairs_from n due) (wire_of f t c) → (j : Job) → WireDue j (pairs_from n due) →
        records (drop at file) 0 j ≡ refused_or r (records (drop (at + 4) file) 0 (with_wires j (wire_of f t c ∷ [])))
    unfolding body_length full in_range misfit added wire_trouble
    judged r ri j s =
        rw ri (rw (wire_is, s.due_are) at (whole_at file at j wire h is s.placed tt (omega arith) (omega arith)))

pub returns-then-file-at-lt-WIRE_LENGTH : goal.returns-then-file-at-lt-WIRE_LENGTH
returns-then-file-at-lt-WIRE_LENGTH c = λ n o.
    cut _ _ _ _ c.requires.0 c.requires.1 c.if-file-at-lt-WIRE_LENGTH.true

pub returns-in_err-judge_wire : goal.returns-in_err-judge_wire
returns-in_err-judge_wire c =
    let p = err_from_is_err_and c.from_residual.result c.from_residual.ensures.1 in
    rw (p.1, p.2) (λ n o j s.
    judged _ _ _ _ c.requires.0 c.requires.1 c.if-file-at-lt-WIRE_LENGTH.false _ _ _ refl refl refl _
    (c.in_err-judge_wire.ensures.judged n o) j s
    ∙ stops _ _ (is_trouble _))

pub returns : goal.returns
returns c = λ n o.
    record {
      answer =
          judged _ _ _ _ c.requires.0 c.requires.1 c.if-file-at-lt-WIRE_LENGTH.false _ _ _ refl refl refl _
          (c.in_ok-judge_wire.ensures.judged n o);
      inside = omega arith;
      is_due_lem = c.in_ok-judge_wire.ensures.fits;
    }
