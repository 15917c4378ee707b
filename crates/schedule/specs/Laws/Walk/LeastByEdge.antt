-- The least that walks take, edge by edge: what the turn of one edge does to it.
-- It lowers what the task has that the edge goes to, and that alone. No edge up to it comes from there, as sources rise and each edge goes
-- up, so that what the walks along those edges take is the same after it.
use Rattle.std.specs.Prelude.{◌≡◌, refl, ◌⊎◌, List, ℕ, ◌+◌, ◌≤◌, ◌<◌, get_or}
use Rattle.std.proofs.Common.{sym, ap, ◌∙◌, subst, inl, inr, arith}
use Rattle.base.specs.Laws.Tests.{same_or_not, le_or_lt}
use Rattle.etf.specs.Bounds.{most_chain}
use Rattle.schedule.specs.Pass.{message_at, reach_at}
use Rattle.schedule.specs.CoverPass.{SmallestOf, Served, Unwalked, Move, sum_by_move, LeastSums}
use Rattle.schedule.specs.Laws.Rows.Entry.{Entry}

-- the smallest of `low` and of what is no smaller is `low`
pub not_lower : {A : Type 0} (P : A → Type 0) (f : A → ℕ) {low before : ℕ} → low ≤ before → SmallestOf P (λ a. f a + before) low low
not_lower P f h = record { to_low = omega arith; to_each = λ a p. omega arith; is_one = inl refl }

module _ (durations from to counts : List ℕ) (costs : List (List ℕ)) (starts processors latest idle : List ℕ) where
  -- a move back from a task along one of the first l edges, and what it takes
  abbrev Moved : ℕ → ℕ → ℕ × ℕ → Type 0
  Moved = Move durations from to counts costs starts processors latest idle

  abbrev by : List ℕ → ℕ × ℕ → ℕ
  by = sum_by_move durations from to counts costs starts processors latest idle

  -- what is known after the first l edges
  abbrev Known : ℕ → List ℕ → Type 0
  Known = LeastSums durations from to counts costs starts processors latest idle

  -- no edge yet
  pub none_yet : {sums : List ℕ} → Unwalked idle sums → Known 0 sums
  none_yet U = record {
    has_sums = U.has_sums;
    none_short = U.none_short;
    short = λ T b k. record {
      to_low = omega (arith, U.short T b k);
      to_each = λ a M. absurd (omega (arith, M.below));
      is_one = inl (U.short T b k);
    };
  }

  -- what a task has is bounded
  pub sum_most : {l : ℕ} {sums : List ℕ} → Known l sums → (T : ℕ) → T < 256 → get_or sums T 0 ≤ most_chain
  sum_most {sums = sums} K T b = go (le_or_lt (get_or idle T 0) 0)
    where
      go : (get_or idle T 0 ≤ 0) ⊎ (0 < get_or idle T 0) → get_or sums T 0 ≤ most_chain
      go (inl e) = omega (arith, K.none_short T b (omega arith))
      go (inr k) = (K.short T b k).to_low

  -- the turn of edge k, from s to t: its messages are looked at on each processor that is idle before t
  module _ {k s t r : ℕ} {sums after : List ℕ} (K : Known k sums) (rising : (i : ℕ) → i ≤ k → get_or from i 0 ≤ get_or from k 0)
      (up : get_or from k 0 < get_or to k 0) (s-is : s ≡ get_or from k 0) (t-is : t ≡ get_or to k 0) (t-small : t < 256)
      (low : SmallestOf (Served (get_or idle t 0) (get_or latest t 0) (λ P. reach_at durations from counts costs starts processors P k))
      (λ P. message_at durations from counts costs starts processors P k + get_or sums s 0) (get_or sums t 0) r)
      (E : Entry t r sums after) where
    -- what the walks along an edge up to it take is the same
    by_same : (i P : ℕ) → i ≤ k → by after (i, P) ≡ by sums (i, P)
    unfolding sum_by_move
    by_same i P h =
        let e = E.elsewhere (get_or from i 0) (λ d. absurd (omega (arith, rising i h))) in
        omega (arith, e)

    -- a move along an earlier edge, or along this one
    older : {T i P : ℕ} → Moved (k + 1) T (i, P) → i < k → Moved k T (i, P)
    older M h = record { below = h; is_into = M.is_into; serves = M.serves }

    newer : {T : ℕ} {a : ℕ × ℕ} → Moved k T a → Moved (k + 1) T a
    newer M = record { below = omega (arith, M.below); is_into = M.is_into; serves = M.serves }

    -- the task that it goes to
    there : 0 < get_or idle t 0 → SmallestOf (Moved (k + 1) t) (by after) most_chain r
    unfolding sum_by_move
    there n = record {
      to_low = omega (arith, low.to_low, S.to_low);
      to_each = λ (i, P) M. each i P M (le_or_lt k i);
      is_one = one low.is_one;
    }
      where
        S : SmallestOf (Moved k t) (by sums) most_chain (get_or sums t 0)
        S = K.short t t-small n

        this : (P : ℕ) → by after (k, P) ≡ message_at durations from counts costs starts processors P k + get_or sums s 0
        this P = omega (arith, by_same k P (omega arith), ap (λ (x : ℕ). get_or sums x 0) s-is)

        each : (i P : ℕ) → Moved (k + 1) t (i, P) → (k ≤ i) ⊎ (i < k) → r ≤ by after (i, P)
        each i P M (inl h) =
            let e : i ≡ k = omega (arith, M.below) in
            rw e (omega (arith, this P, low.to_each P (rw e at M.serves)))
        each i P M (inr h) = omega (arith, by_same i P (omega arith), low.to_low, S.to_each (i, P) (older M h))

        one : (r ≡ get_or sums t 0) ⊎ ((P : ℕ) × Served (get_or idle t 0) (get_or latest t 0)
            (λ P. reach_at durations from counts costs starts processors P k) P
            × (r ≡ message_at durations from counts costs starts processors P k + get_or sums s 0))
            → (r ≡ most_chain) ⊎ ((a : ℕ × ℕ) × Moved (k + 1) t a × (r ≡ by after a))
        one (inl e) = go S.is_one
          where
            go : (get_or sums t 0 ≡ most_chain) ⊎ ((a : ℕ × ℕ) × Moved k t a × (get_or sums t 0 ≡ by sums a))
                → (r ≡ most_chain) ⊎ ((a : ℕ × ℕ) × Moved (k + 1) t a × (r ≡ by after a))
            go (inl d) = inl (e ∙ d)
            go (inr ((i, P), M, d)) = inr ((i, P), newer M, e ∙ d ∙ sym (by_same i P (omega (arith, M.below))))
        one (inr (P, v, e)) = inr ((k, P), record { below = omega arith; is_into = sym t-is; serves = v }, e ∙ sym (this P))

    -- another task
    other : (T : ℕ) → T < 256 → 0 < get_or idle T 0 → (T ≡ t → ⊥) → SmallestOf (Moved (k + 1) T) (by after) most_chain (get_or sums T 0)
    other T b n d = record {
      to_low = S.to_low;
      to_each = λ (i, P) M. let h = before i P M in omega (arith, by_same i P (omega arith), S.to_each (i, P) (older M h));
      is_one = go S.is_one;
    }
      where
        S : SmallestOf (Moved k T) (by sums) most_chain (get_or sums T 0)
        S = K.short T b n

        before : (i P : ℕ) → Moved (k + 1) T (i, P) → i < k
        before i P M = split (le_or_lt k i)
          where
            split : (k ≤ i) ⊎ (i < k) → i < k
            split (inl h) = let e : i ≡ k = omega (arith, M.below) in absurd (d (sym M.is_into ∙ rw e (sym t-is)))
            split (inr h) = h

        go : (get_or sums T 0 ≡ most_chain) ⊎ ((a : ℕ × ℕ) × Moved k T a × (get_or sums T 0 ≡ by sums a))
            → (get_or sums T 0 ≡ most_chain) ⊎ ((a : ℕ × ℕ) × Moved (k + 1) T a × (get_or sums T 0 ≡ by after a))
        go (inl e) = inl e
        go (inr ((i, P), M, e)) = inr ((i, P), newer M, e ∙ sym (by_same i P (omega (arith, M.below))))

    -- so after it what is known is of one edge more
    pub one_more : Known (k + 1) after
    one_more = record {
      has_sums = E.size ∙ K.has_sums;
      none_short = λ T b e. zero T b e (same_or_not T t);
      short = λ T b n. split T b n (same_or_not T t);
    }
      where
        zero : (T : ℕ) → T < 256 → get_or idle T 0 ≡ 0 → (T ≡ t) ⊎ (T ≡ t → ⊥) → get_or after T 0 ≡ 0
        zero T b e (inl d) = rw d (omega (arith, E.here, low.to_low, K.none_short t t-small (rw d at e)))
        zero T b e (inr d) = E.elsewhere T d ∙ K.none_short T b e

        split : (T : ℕ) → T < 256 → 0 < get_or idle T 0 → (T ≡ t) ⊎ (T ≡ t → ⊥)
            → SmallestOf (Moved (k + 1) T) (by after) most_chain (get_or after T 0)
        split T b n (inl d) = rw d (subst (SmallestOf (Moved (k + 1) t) (by after) most_chain) (sym E.here) (there (rw d at n)))
        split T b n (inr d) = subst (SmallestOf (Moved (k + 1) T) (by after) most_chain) (sym (E.elsewhere T d)) (other T b n d)
