-- What one edge adds to what a task sends along its edges.
-- Edges before the first add nothing, and an edge adds only to the task that it goes to.
use Rattle.std.specs.Prelude.{◌≡◌, ◌⊎◌, not, List, ℕ, ◌+◌, ◌*◌, ◌-◌, ◌≤◌, ◌<◌, max, leb, eqb, T as Holds, length, get_or, set}
use Rattle.std.proofs.Common.{sym, ◌∙◌, inl, inr, arith, le→leb, eqb→eq, get_or-set_same, get_or-set_other}
use Rattle.std.proofs.Math.Dec.{leb→le}
use Rattle.base.specs.Choice.{pick}
use Rattle.base.specs.Rows.{sum, one_if, most}
use Rattle.base.specs.Laws.Tests.{both, first, second, fails, eq→eqb, pick_yes, pick_no, le_or_lt, same_or_not}
use Rattle.base.specs.Laws.Sums.{one_if_yes, one_if_no, sum_grows}
use Rattle.base.specs.Laws.Most.{most_more, sum_more, most_none, sum_none}
use Rattle.schedule.specs.Pass.{Raised, sent_to}
use Rattle.schedule.specs.Laws.Rows.Lifted.{Lifted}

module _ (to : List ℕ) (a T : ℕ) where
  sent_here : (k : ℕ) → a ≤ k → get_or to k 0 ≡ T → Holds (sent_to to a T k)
  unfolding sent_to
  sent_here k h e = both (leb a k) (eqb (get_or to k 0) T) (le→leb a k h) (eq→eqb (get_or to k 0) T e)

  sent_before : (k : ℕ) → k < a → Holds (not (sent_to to a T k))
  unfolding sent_to
  sent_before k h =
      fails (sent_to to a T k) (λ q. absurd (omega (arith, leb→le a k (first (leb a k) (eqb (get_or to k 0) T) q))))

  sent_elsewhere : (k : ℕ) → (get_or to k 0 ≡ T → ⊥) → Holds (not (sent_to to a T k))
  unfolding sent_to
  sent_elsewhere k h =
      fails (sent_to to a T k) (λ q. h (eqb→eq (get_or to k 0) T (second (leb a k) (eqb (get_or to k 0) T) q)))

  -- nothing is sent before the first edge
  pub most_unsent : (f : ℕ → ℕ) → most a (λ k. pick (sent_to to a T k) (f k) 0) ≡ 0
  most_unsent f = most_none a (λ k. pick (sent_to to a T k) (f k) 0) (λ i h. pick_no (sent_to to a T i) (f i) 0 (sent_before i h))

  pub sum_unsent : sum a (λ k. one_if (sent_to to a T k)) ≡ 0
  sum_unsent = sum_none a (λ k. one_if (sent_to to a T k)) (λ i h. one_if_no (sent_to to a T i) (sent_before i h))

  -- edge k goes to task T
  pub most_sent : (k : ℕ) → a ≤ k → (f : ℕ → ℕ) → get_or to k 0 ≡ T
      → most (k + 1) (λ i. pick (sent_to to a T i) (f i) 0) ≡ max (most k (λ i. pick (sent_to to a T i) (f i) 0)) (f k)
  most_sent k h f e =
      omega (arith, most_more k (λ i. pick (sent_to to a T i) (f i) 0), pick_yes (sent_to to a T k) (f k) 0 (sent_here k h e))

  pub sum_sent : (k : ℕ) → a ≤ k → get_or to k 0 ≡ T
      → sum (k + 1) (λ i. one_if (sent_to to a T i)) ≡ sum k (λ i. one_if (sent_to to a T i)) + 1
  sum_sent k h e = omega (arith, sum_more k (λ i. one_if (sent_to to a T i)), one_if_yes (sent_to to a T k) (sent_here k h e))

  -- edge k goes to another task
  pub most_kept : (k : ℕ) (f : ℕ → ℕ) → (get_or to k 0 ≡ T → ⊥)
      → most (k + 1) (λ i. pick (sent_to to a T i) (f i) 0) ≡ most k (λ i. pick (sent_to to a T i) (f i) 0)
  most_kept k f e =
      omega (arith, most_more k (λ i. pick (sent_to to a T i) (f i) 0), pick_no (sent_to to a T k) (f k) 0 (sent_elsewhere k e))

  pub sum_kept : (k : ℕ) → (get_or to k 0 ≡ T → ⊥)
      → sum (k + 1) (λ i. one_if (sent_to to a T i)) ≡ sum k (λ i. one_if (sent_to to a T i))
  sum_kept k e = omega (arith, sum_more k (λ i. one_if (sent_to to a T i)), one_if_no (sent_to to a T k) (sent_elsewhere k e))

-- the turn of edge k, which goes to task t
module _ (a : ℕ) (to : List ℕ) (k t : ℕ) (e : t ≡ get_or to k 0) (h : a ≤ k) where
  -- the task waits still, where no task is sent more than it waits for
  pub still_waits : (last : ℕ) (waiting now : List ℕ)
      → ((T : ℕ) → get_or now T 0 + sum k (λ i. one_if (sent_to to a T i)) ≡ get_or waiting T 0)
      → ((T : ℕ) → sum last (λ i. one_if (sent_to to a T i)) ≤ get_or waiting T 0) → k < last → 1 ≤ get_or now t 0
  still_waits last waiting now s m l =
      let grows = sum_grows (λ i. one_if (sent_to to a t i)) (k + 1) last (omega arith) in
      omega (arith, m t, s t, sum_sent to a t k h (sym e), grows)

  -- it waits for one less
  pub waits_less : (waiting now : List ℕ) → t < length now → 1 ≤ get_or now t 0
      → (T : ℕ) → get_or now T 0 + sum k (λ i. one_if (sent_to to a T i)) ≡ get_or waiting T 0
      → get_or (set now t (get_or now t 0 - 1)) T 0 + sum (k + 1) (λ i. one_if (sent_to to a T i)) ≡ get_or waiting T 0
  waits_less waiting now l w T s = go (same_or_not t T)
    where
      go : (t ≡ T) ⊎ (t ≡ T → ⊥)
          → get_or (set now t (get_or now t 0 - 1)) T 0 + sum (k + 1) (λ i. one_if (sent_to to a T i)) ≡ get_or waiting T 0
      go (inl q) =
          let less = get_or-set_same now t (get_or now t 0 - 1) 0 l in
          rw (← q) (omega (arith, less, rw (← q) at s, sum_sent to a t k h (sym e)))
      go (inr q) =
          omega (arith, s, get_or-set_other now t T (get_or now t 0 - 1) 0 (λ z. q (sym z)), sum_kept to a T k (λ z. q (e ∙ z)))

  -- its latest finish is raised
  pub latest_lifted : (finish : ℕ) (latest now after : List ℕ) → Lifted t finish now after
      → (T : ℕ) → get_or now T 0 ≡ max (get_or latest T 0) (most k (λ i. pick (sent_to to a T i) finish 0))
      → get_or after T 0 ≡ max (get_or latest T 0) (most (k + 1) (λ i. pick (sent_to to a T i) finish 0))
  latest_lifted finish latest now after w T s = go (same_or_not t T)
    where
      go : (t ≡ T) ⊎ (t ≡ T → ⊥) → get_or after T 0 ≡ max (get_or latest T 0) (most (k + 1) (λ i. pick (sent_to to a T i) finish 0))
      go (inl q) = omega (arith, s, rw q at w.here, most_sent to a T k h (λ i. finish) (sym e ∙ q))
      go (inr q) = omega (arith, s, w.elsewhere T (λ z. q (sym z)), most_kept to a T k (λ i. finish) (λ z. q (e ∙ z)))

-- the arrivals of another task are not raised
pub unraised : (n U finish count : ℕ) (row before after : List ℕ) → Raised n U finish count row before after → n ≤ 16
    → (T P : ℕ) → P < 16 → (U ≡ T → ⊥) → get_or after (16 * T + P) 0 ≡ get_or before (16 * T + P) 0
unraised n U finish count row before after r h T P p d = go (le_or_lt T U)
  where
    go : (T ≤ U) ⊎ (U < T) → get_or after (16 * T + P) 0 ≡ get_or before (16 * T + P) 0
    go (inl k) = r.left_of (16 * T + P) (omega arith)
    go (inr k) = r.right_of (16 * T + P) (omega arith)
