-- `parse::result`: each return is the judgement of a result at this place, after any job that a result may follow.
use mathlib.Core.Bool.{Bool, true, false, not, ◌&&◌}
use mathlib.Core.Path.{◌≡◌, refl, sym, ◌∙◌}
use mathlib.Core.List.{List, [], ◌∷◌}
use mathlib.Core.Option.{some}
use Prim.Native.Nat.{ℕ, suc, ◌+◌, ◌-◌, ◌≤◌, ◌<◌}
use native.Mathlib.Omega.{arith}
use lib.Dec.{leb, ltb, leb→le, ltb→lt}
use lib.Dec.{T as Holds}
use lib.ListN.{length, get_or, take, drop}
use lib.Seq.{get_or-drop, drop-drop}
use Rattle.base.specs.Choice.{pick}
use Rattle.base.specs.Number.{number}
use Rattle.base.specs.Laws.Tests.{parts}
use Rattle.std.proofs.lemmas.Result.{err_from_is_err_and}
use Rattle.job.specs.Table.{is_trouble}
use Rattle.job.specs.Job.{Job, job_with_results}
use Rattle.job.specs.Record.{result, kind_of, body_length, full, count_in_range, in_range, may_deliver, misfit, added, result_in}
use Rattle.job.specs.Read.{refused, refused_or, records}
use Rattle.job.specs.Pass.{result_of, result_trouble, ResultDue}
use Rattle.job.specs.Laws.Judged.{stops, short_at, whole_at}
use Rattle.job.specs.Laws.Tests.{count_facts}
use Rattle.job.proofs.parse.result.Goals as goal

-- a result without trouble
untroubled : (m least : ℕ) (sent : Bool) (T n : ℕ) → result_trouble m least sent (result_of T n) ≡ 0 → (1 ≤ n) × (T < m) × (least ≤ T)
unfolding result_trouble
untroubled m least sent T n e =
    let t = go (count_in_range n) (ltb T m && not sent && leb least T) e in
    let s = parts (ltb T m && not sent) (leb least T) t.1 in
    ((count_facts n t.0).0, ltb→lt T m (parts (ltb T m) (not sent) s.0).0, leb→le least T s.1)
  where
    go : (a b : Bool) → ◌≡◌ {A = ℕ} (pick (not a) 4 (pick (not b) 15 0)) 0 → Holds a × Holds b
    go true true e = (tt, tt)
    go true false e = absurd (omega arith)
    go false b e = absurd (omega arith)

module _ (file : List ℕ) (at m least : ℕ) (sent : List Bool) (h : at < length file) (is : kind_of (get_or file at 0) ≡ some result)
    (j : Job) (s : ResultDue j m least sent) where
  cut : length file - at < 4 → records (drop at file) 0 j ≡ refused 1
  unfolding body_length full
  cut i = short_at file at j result h is s.placed tt (omega arith)

  module _ (i : 4 ≤ length file - at) (T n : ℕ) (Ti : T ≡ get_or file (at + 1) 0) (ni : n ≡ number (take 2 (drop (at + 2) file)))
      (byte : T < 256) (t place : ℕ) (pi : place ≡ T) (ti : t ≡ result_trouble m least (get_or sent place false) (result_of T n)) where
    result_is : result_in (drop (suc at) file) ≡ result_of T n
    unfolding result_in
    result_is =
        let a : suc at + 0 ≡ at + 1 = omega arith in
        let b : suc at + 1 ≡ at + 2 = omega arith in
        rw (get_or-drop (suc at) file 0 0, drop-drop 1 (suc at) file, a, b, ← Ti, ← ni)

    judged : records (drop at file) 0 j ≡ refused_or t (records (drop (at + 4) file) 0 (job_with_results j (result_of T n ∷ [])))
    unfolding body_length full in_range may_deliver misfit added result_trouble
    judged =
        rw (ti, pi) (rw (result_is, s.tasks_are, s.above T, ← s.sent_are T byte) at
        (whole_at file at j result h is s.placed tt (omega arith) (omega arith)))

pub returns-then-file-at-lt-RESULT_LENGTH : goal.returns-then-file-at-lt-RESULT_LENGTH
returns-then-file-at-lt-RESULT_LENGTH c = λ j s.
    cut _ _ _ _ _ c.requires.0 c.requires.1 j s c.if-file-at-lt-RESULT_LENGTH.true

pub returns-in_err-judge_result : goal.returns-in_err-judge_result
returns-in_err-judge_result c =
    let p = err_from_is_err_and c.from_residual.result c.from_residual.ensures.1 in
    rw (p.1, p.2) (λ j s.
    judged _ _ _ _ _ c.requires.0 c.requires.1 j s c.if-file-at-lt-RESULT_LENGTH.false _ _ refl c.number2-count.ensures
    (omega arith) _ _ c.from.ensures c.in_err-judge_result.ensures ∙ stops _ _ (is_trouble _))

pub returns : goal.returns
returns c =
    let sound = untroubled _ _ _ _ _ (sym c.in_ok-judge_result.ensures) in
    record {
      answer = λ j s.
          judged _ _ _ _ _ c.requires.0 c.requires.1 j s c.if-file-at-lt-RESULT_LENGTH.false _ _ refl c.number2-count.ensures
          (omega arith) _ _ c.from.ensures c.in_ok-judge_result.ensures;
      inside = omega arith;
      byte = omega arith;
      some_message = sound.0;
      within = sound.1;
      rises = sound.2;
    }
