-- `emit::result_count`: the results are those of the counts that are not 0, one place after the other.
use Rattle.std.proofs.Common.{◌≡◌, ◌⊎◌, inl, inr, ℕ, zero, suc, ◌+◌, ◌≤◌, Bool, true}
use Rattle.std.proofs.Common.{not, eqb, List, rules, refl, ◌∙◌, arith, length, take, get_or, length-append}
use Rattle.std.proofs.Math.Seq.{take-length}
use Rattle.std.specs.List.{count_by}
use Rattle.std.proofs.lemmas.List.Sums.{count_by_more_no, count_by_more_yes}
use Rattle.job.specs.Write.{results_held}
use Rattle.base.specs.Laws.Tests.{same_or_not, ne→neqb, is_true}
use Rattle.job.specs.Laws.Results.{held_first, held_with, held_without}
use Rattle.job.proofs.emit.result_count.Goals as goal

delivers : ℕ → Bool
delivers n = not (eqb n 0)

delivers_yes : (n : ℕ) → (n ≡ 0 → ⊥) → delivers n ≡ true
unfolding delivers
delivers_yes n d = is_true (not (eqb n 0)) (ne→neqb n 0 d)

more : (k : ℕ) → suc k ≡ k + 1
more k = omega arith

held_count : (xs : List ℕ) (k : ℕ) → k ≤ length xs → count_by delivers (take k xs) ≡ length (results_held xs k)
unfolding delivers
held_count xs zero h = rw (held_first xs) refl
held_count xs (suc k) h = go (same_or_not (get_or xs k 0) 0) (held_count xs k (omega arith))
  where
    go : (get_or xs k 0 ≡ 0) ⊎ (get_or xs k 0 ≡ 0 → ⊥) → count_by delivers (take k xs) ≡ length (results_held xs k)
        → count_by delivers (take (suc k) xs) ≡ length (results_held xs (suc k))
    go (inl e) r = rw (more k) (count_by_more_no delivers xs k 0 (omega arith) (rw e refl) ∙ rw (held_without xs k e) r)
    go (inr d) r =
        rw (more k) (count_by_more_yes delivers xs k 0 (omega arith) (delivers_yes (get_or xs k 0) d)
        ∙ rw (held_with xs k d, length-append) (omega arith))

pub returns : goal.returns
unfolding delivers
returns c =
    let xs = c.args.counts.now in
    let e : c.count.result ≡ count_by delivers xs = search rules in
    let h = held_count xs (length xs) (omega arith) in
    e ∙ rw (take-length xs) at h
