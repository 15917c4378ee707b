-- The edges of a task stand one after the other: an edge is one of them exactly if it is from that task.
-- By the first edge that is from a task or a later one, which is known for each task (`Runs`).
use Rattle.std.specs.Prelude.{◌≡◌, ◌⊎◌, Bool, not, ◌&&◌, List, ℕ, suc, ◌+◌, ◌≤◌, ◌<◌, get_or}
use Rattle.std.proofs.Math.Path.{refl}
use Rattle.std.proofs.Common.{◌∙◌, inl, inr, arith, leb→le, le→leb}
use Rattle.std.proofs.Math.Bool.{true, false}
use Rattle.std.proofs.Math.Dec.{leb, eqb, eqb→eq, T as Holds}
use Rattle.base.specs.Laws.Tests.{fails, first, second, le_or_lt}
use Rattle.base.specs.Laws.Most.{until, until_before, until_past}
use Rattle.graph.specs.Graph.{Runs}
use Rattle.schedule.specs.Pass.{sent_to}

-- the edges of task T: the first, and the one after the last
abbrev pub first_edge : List ℕ → ℕ → ℕ
first_edge runs T = get_or runs T 0

abbrev pub last_edge : List ℕ → ℕ → ℕ
last_edge runs T = get_or runs (T + 1) 0

module _ {from : List ℕ} {m l : ℕ} {runs : List ℕ} (R : Runs from m l runs) (T : ℕ) (below : T < m) where
  pub last_most : last_edge runs T ≤ l
  last_most = R.within (T + 1) (omega arith)

  pub first_last : first_edge runs T ≤ last_edge runs T
  first_last = go (le_or_lt (first_edge runs T) (last_edge runs T))
    where
      go : (first_edge runs T ≤ last_edge runs T) ⊎ (last_edge runs T < first_edge runs T) → first_edge runs T ≤ last_edge runs T
      go (inl h) = h
      go (inr h) =
          absurd (omega (
            arith,
            R.before T (last_edge runs T) (omega arith) h,
            R.after (T + 1) (last_edge runs T) (omega arith) (omega arith) (omega (arith, R.within T (omega arith))),
          ))

  run_of : (k : ℕ) → first_edge runs T ≤ k → k < last_edge runs T → get_or from k 0 ≡ T
  run_of k a b = omega (arith, R.after T k (omega arith) a (omega (arith, last_most)), R.before (T + 1) k (omega arith) b)

  run_in : (k : ℕ) → k < l → get_or from k 0 ≡ T → (first_edge runs T ≤ k) × (k < last_edge runs T)
  run_in k h e = (go (le_or_lt (first_edge runs T) k), stop (le_or_lt (suc k) (last_edge runs T)))
    where
      go : (first_edge runs T ≤ k) ⊎ (k < first_edge runs T) → first_edge runs T ≤ k
      go (inl q) = q
      go (inr q) = absurd (omega (arith, e, R.before T k (omega arith) q))

      stop : (suc k ≤ last_edge runs T) ⊎ (last_edge runs T < suc k) → k < last_edge runs T
      stop (inl q) = q
      stop (inr q) = absurd (omega (arith, e, R.after (T + 1) k (omega arith) (omega arith) h))

  -- one of them that goes to U
  module _ (to : List ℕ) (U k : ℕ) where
    pub sent_of : k < last_edge runs T → Holds (sent_to to (first_edge runs T) U k) → (get_or from k 0 ≡ T) × (get_or to k 0 ≡ U)
    unfolding sent_to
    sent_of h s =
        let a = leb (first_edge runs T) k in
        let b = eqb (get_or to k 0) U in
        (run_of k (leb→le (first_edge runs T) k (first a b s)) h, eqb→eq (get_or to k 0) U (second a b s))

    -- an edge from task T is sent along if it goes to U
    pub sent_ours : k < l → get_or from k 0 ≡ T → sent_to to (first_edge runs T) U k ≡ eqb (get_or to k 0) U
    unfolding sent_to
    sent_ours h e = go (leb (first_edge runs T) k) (le→leb (first_edge runs T) k (run_in k h e).0)
      where
        go : (b : Bool) → Holds b → (b && eqb (get_or to k 0) U) ≡ eqb (get_or to k 0) U
        go true t = refl
        go false t = absurd t

    pub until_ours : (f : ℕ → ℕ) → k < l → get_or from k 0 ≡ T → until (last_edge runs T) f k ≡ f k
    until_ours f h e = until_before (last_edge runs T) f k (run_in k h e).1

    -- an edge from another task is not
    pub until_others : (f : ℕ → ℕ) → ¬ (get_or from k 0 ≡ T) → (Holds (not (sent_to to (first_edge runs T) U k)) → f k ≡ 0)
        → until (last_edge runs T) f k ≡ 0
    until_others f ne z = go (le_or_lt (last_edge runs T) k)
      where
        go : (last_edge runs T ≤ k) ⊎ (k < last_edge runs T) → until (last_edge runs T) f k ≡ 0
        go (inl h) = until_past (last_edge runs T) f k h
        go (inr h) = until_before (last_edge runs T) f k h ∙ z (fails (sent_to to (first_edge runs T) U k) (λ s. ne (sent_of h s).0))
