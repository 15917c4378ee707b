-- `parse::end`: each return is the judgement of what stands at this place, where nothing but the end record may stand.
use mathlib.Core.Logic.{⊎_elim}
use mathlib.Core.Path.{◌≡◌, sym, ◌∙◌}
use mathlib.Core.List.{List}
use mathlib.Core.Option.{some}
use Prim.Native.Nat.{ℕ, suc, ◌+◌, ◌≤◌, ◌<◌}
use native.Mathlib.Omega.{arith}
use lib.ListN.{length, get_or, drop, length-drop}
use Rattle.base.specs.Choice.{pick}
use Rattle.base.specs.Laws.Tests.{pick_yes, pick_no}
use Rattle.std.proofs.Common.{zero-le}
use Rattle.std.proofs.lemmas.Result.{err_from_is_err_and}
use Rattle.job.specs.declared.kind.RecordKind.TheVariants.{End}
use Rattle.job.specs.Job.{Job}
use Rattle.job.specs.Record.{Kind, end, kind_of, body_length, empty, full, in_range, misfit}
use Rattle.job.specs.Read.{accepted, refused, after, records}
use Rattle.job.specs.Table.{is_trouble}
use Rattle.job.specs.Pass.{EndDue}
use Rattle.job.specs.Laws.Judged.{at_record, stops, whole}
use Rattle.job.specs.Laws.Kinds.{misplaced_kind, other_kind}
use Rattle.job.specs.Laws.Lists.{empty_is, empty_not}
use Rattle.job.proofs.parse.end.Goals as goal

module _ (file : List ℕ) (at : ℕ) (h : at < length file) (k : Kind) (is : kind_of (get_or file at 0) ≡ some k)
    (j : Job) (s : EndDue file at j) where
  other : (k ≡ end → ⊥) → records (drop at file) 0 j ≡ refused 3
  other z = misplaced_kind file at j k h is (⊎_elim (λ e. absurd (z e)) (λ n. n) (s.alone h k is))

  module _ (e : k ≡ end) where
    closing : records (drop at file) 0 j ≡ pick (empty (drop (suc at) file)) (accepted j) (refused 8)
    unfolding full body_length in_range misfit after
    closing =
        at_record file at j h ∙ rw (is, e) (whole end (drop (suc at) file) j (records (drop (suc at) file)) s.placed tt
        (zero-le {n = length (drop (suc at) file)}))

    more_bytes : at + 1 < length file → records (drop at file) 0 j ≡ refused 8
    more_bytes l =
        let left = empty_not (drop (suc at) file) (λ z. omega (arith, length-drop (suc at) file)) in
        closing ∙ pick_no (empty (drop (suc at) file)) (accepted j) (refused 8) left

    done : length file ≤ at + 1 → records (drop at file) 0 j ≡ accepted j
    done l =
        let none = empty_is (drop (suc at) file) (length-drop (suc at) file ∙ omega arith) in
        closing ∙ pick_yes (empty (drop (suc at) file)) (accepted j) (refused 8) none

pub returns-in_err-kind_at : goal.returns-in_err-kind_at
returns-in_err-kind_at c =
    let p = err_from_is_err_and c.from_residual.result c.from_residual.ensures.1 in
    rw (p.1, p.2) (λ j s. c.in_err-kind_at.ensures.answer j ∙ sym (stops _ _ (is_trouble _)))

pub returns-in_default : goal.returns-in_default
returns-in_default c = λ j s.
    let k = c.in_ok-kind_at.ensures in
    other _ _ k.0 _ k.1 j s (other_kind _ End c.in_default.not-End)

pub returns-then-at-file : goal.returns-then-at-file
returns-then-at-file c = λ j s.
    let k = c.in_ok-kind_at.ensures in
    more_bytes _ _ k.0 _ k.1 j s (rw c.in-End.is) c.if-at-file.true

pub returns : goal.returns
returns c = λ j s.
    let k = c.in_ok-kind_at.ensures in
    done _ _ k.0 _ k.1 j s (rw c.in-End.is) c.if-at-file.false
