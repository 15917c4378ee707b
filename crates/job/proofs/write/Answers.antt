-- `write`: a refusal is the count's, the reader's to the job's file, or the room's; what is put is the file.
use Rattle.std.proofs.Common.{◌≡◌, ℕ, ◌≤◌, ◌<◌, List, refl, ap, sym, ◌∙◌, arith, length}
use Rattle.std.proofs.lemmas.Result.{err_from_is_err_and}
use borrow.Author.Tests.{lt-ltb, le-ltb}
use Rattle.base.specs.Slices.{Put}
use Rattle.base.specs.Laws.Stored.{sets_front}
use Rattle.job.specs.Job.{Job}
use Rattle.job.specs.Table.{is_trouble}
use Rattle.job.specs.Read.{Answer, accepted, refused, read_job}
use Rattle.job.specs.Write.{Length, Refused, file_of, job_held, room_for, is_too_many, write_answer, write_out, WrittenAs}
use Rattle.job.specs.Pass.{Met}
use Rattle.job.specs.Laws.Judged.{stops}
use Rattle.job.proofs.write.Goals as goal
use Rattle.job.proofs.write.Goals.{then-job-gt256-via-then-job-gt256, then-job-gt256-via-else-job-gt256+then-job-gt1024}

module _ (m l : ℕ) (j : Job) (out : List ℕ) where
  refuse : (n : ℕ) → write_answer m l j out ≡ Refused n → WrittenAs (Refused n) out m l j out
  unfolding write_out
  refuse n e = record { answer = sym e; output = rw e }

  many_tasks : 256 < m → WrittenAs (Refused 5) out m l j out
  unfolding write_answer is_too_many
  many_tasks h = refuse 5 (simp (lt-ltb _ _ h))

  many_edges : m ≤ 256 → 1024 < l → WrittenAs (Refused 5) out m l j out
  unfolding write_answer is_too_many
  many_edges g h = refuse 5 (simp (le-ltb _ _ g, lt-ltb _ _ h))

  module _ (few : m ≤ 256) (few' : l ≤ 1024) where
    by_reader : (a : Answer) → read_job (file_of j) ≡ a → write_answer m l j out ≡ room_for (file_of j) out a
    unfolding write_answer is_too_many
    by_reader a e = simp (le-ltb _ _ few, le-ltb _ _ few', e)

    bad : (n : ℕ) → Met j n → (n ≡ 0 → ⊥) → WrittenAs (Refused n) out m l j out
    unfolding room_for
    bad n met z = refuse n (by_reader (refused n) (met ∙ stops n (accepted j) z))

    module _ (met : Met j 0) (k : ℕ) (size : k ≡ length (file_of j)) where
      no_room : length out < k → WrittenAs (Refused 9) out m l j out
      unfolding room_for
      no_room h =
          let h' : length out < length (file_of j) = omega arith in
          refuse 9 (by_reader (accepted j) met ∙ simp (lt-ltb _ _ h'))

      wrote : k ≤ length out → (out' : List ℕ) (r : ℕ) → Put out out' 0 r (file_of j) → WrittenAs (Length r) out' m l j out
      unfolding room_for write_out
      wrote h out' r q =
          let h' : length (file_of j) ≤ length out = omega arith in
          let e : write_answer m l j out ≡ Length (length (file_of j)) = by_reader (accepted j) met ∙ simp (le-ltb _ _ h') in
          let s : r ≡ length (file_of j) = omega (arith, q.past) in
          record { answer = ap Length s ∙ sym e; output = rw e (q.stored ∙ sets_front out (file_of j) (length (file_of j)) refl h') }

pub returns-then-job-gt256 : goal.returns-then-job-gt256
returns-then-job-gt256 c =
    elim c.then-job-gt256.branch [
      | then-job-gt256-via-then-job-gt256 w ↦ many_tasks _ _ _ _ w.if-job-gt256.true
      | then-job-gt256-via-else-job-gt256+then-job-gt1024 w ↦ many_edges _ _ _ _ w.if-job-gt256.false w.if-job-gt1024.true
    ]

pub returns-in_err-judged : goal.returns-in_err-judged
returns-in_err-judged c =
    let p = err_from_is_err_and c.from_residual.result c.from_residual.ensures.1 in
    rw (p.1, p.2) (bad _ _ _ _ c.if-job-gt256.false c.if-job-gt1024.false _ c.in_err-judged.ensures.met (is_trouble _))

pub returns-then-out-file_length : goal.returns-then-out-file_length
returns-then-out-file_length c =
    no_room _ _ _ _ c.if-job-gt256.false c.if-job-gt1024.false c.in_ok-judged.ensures.met _
    (c.file_length.ensures ∙ ap (λ x. length (file_of (job_held x))) c.in_ok-judged.ensures.same) c.if-out-file_length.true

pub returns : goal.returns
returns c =
    wrote _ _ _ _ c.if-job-gt256.false c.if-job-gt1024.false c.in_ok-judged.ensures.met _
    (c.file_length.ensures ∙ ap (λ x. length (file_of (job_held x))) c.in_ok-judged.ensures.same) c.if-out-file_length.false _ _
    (rw c.in_ok-judged.ensures.same at c.put.ensures)
