-- A plan's bytes and the two arrays that hold it, one task more at a time: what `encoding::put` stores and what `encoding::get` takes.
use Rattle.std.specs.Prelude.{◌≡◌, ◌⊎◌, ℕ, suc, ◌+◌, ◌*◌, ◌≤◌, ◌<◌, length, get_or, take, drop, set}
use Rattle.std.proofs.Math.Path.{refl, ap}
use Rattle.std.proofs.Common.{sym, ◌∙◌, inl, inr, zero-add, arith, get_or-set_same, get_or-set_other}
use mathlib.Core.List.{List, [], ◌∷◌, ◌++◌, flat_map}
use Rattle.std.proofs.lemmas.List.Edits.{sets}
use Rattle.base.specs.Number.{number}
use Rattle.base.specs.Lists.{upto}
use Rattle.base.specs.Laws.Tests.{le_or_lt}
use Rattle.base.specs.Laws.Number.{length_bytes, four_at}
use Rattle.base.specs.Laws.Lists.{upto_of, length-upto, flat_map_same}
use Rattle.base.specs.Laws.Values.{upto-values}
use Rattle.base.specs.Laws.Stored.{sets_front, flat_size, store_more}
use Rattle.kelvrist.specs.PlanBytes.{task_bytes, plan_bytes, processor_in, start_in}

-- ---- put

-- a task has five bytes
pub task_size : (processor start : ℕ) → length (task_bytes processor start) ≡ 5
unfolding task_bytes
task_size processor start = ap suc (length_bytes 4 start)

module _ (processor start : ℕ → ℕ) where
  -- and m tasks five times as many
  pub plan_size : (m : ℕ) → length (plan_bytes m processor start) ≡ 5 * m
  unfolding plan_bytes
  plan_size m =
      flat_size (λ T. task_bytes (processor T) (start T)) 5 (λ T. task_size (processor T) (start T)) (upto m)
      ∙ ap (λ (n : ℕ). 5 * n) (length-upto m)

  -- no task yet
  pub put_none : (plan : List ℕ) → plan ≡ sets plan 0 (plan_bytes 0 processor start)
  unfolding plan_bytes upto flat_map
  put_none plan = refl

  -- one task more
  pub put_more : (plan plan' plan'' : List ℕ) (t : ℕ)
      → plan' ≡ sets plan 0 (plan_bytes t processor start) → plan'' ≡ sets plan' (5 * t) (task_bytes (processor t) (start t))
      → plan'' ≡ sets plan 0 (plan_bytes (t + 1) processor start)
  unfolding plan_bytes
  put_more plan plan' plan'' t e h =
      rw (upto-values (t + 1))
      (store_more (λ T. task_bytes (processor T) (start T)) 5 (λ T. task_size (processor T) (start T)) (λ i. i) plan plan' plan'' 0 t
      (rw (upto-values t) at e) (rw (zero-add (5 * t)) h))

  -- all of them
  pub put_all : (plan plan' : List ℕ) (t m : ℕ) → t ≡ m → 5 * m ≤ length plan → plan' ≡ sets plan 0 (plan_bytes t processor start)
      → plan' ≡ plan_bytes m processor start ++ drop (5 * m) plan
  put_all plan plan' t m e h p = p ∙ rw e (sets_front plan (plan_bytes m processor start) (5 * m) (plan_size m) h)

-- ---- get

-- the arrays hold the first t tasks of a plan's bytes
unfoldable pub Got : List ℕ → List ℕ → List ℕ → ℕ → Type 0
Got plan starts processors t = (T : ℕ) → T < t → (get_or starts T 0 ≡ start_in plan T) × (get_or processors T 0 ≡ processor_in plan T)

-- one task more, its five bytes taken one by one and stored at its place in each array
pub got_more : (plan starts processors : List ℕ) (t at p s : ℕ) → Got plan starts processors t → t < length starts → t < length processors
    → 5 * t + 5 ≤ length plan → at ≡ 5 * t → p ≡ get_or plan at 0
    → s ≡ number (get_or plan (at + 1) 0 ∷ get_or plan (at + 2) 0 ∷ get_or plan (at + 3) 0 ∷ get_or plan (at + 4) 0 ∷ [])
    → Got plan (set starts t s) (set processors t p) (t + 1)
unfolding Got processor_in start_in
got_more plan starts processors t at p s g hs hp l at_is p-is s-is T h = go (le_or_lt (suc T) t)
  where
    start : s ≡ number (take 4 (drop (5 * t + 1) plan))
    start =
        let two : 5 * t + 1 + 1 ≡ at + 2 = omega arith in
        let three : 5 * t + 1 + 2 ≡ at + 3 = omega arith in
        let four : 5 * t + 1 + 3 ≡ at + 4 = omega arith in
        s-is ∙ sym (ap number (four_at plan (5 * t + 1) (omega arith) ∙ rw (two, three, four, ← at_is)))

    go : (suc T ≤ t) ⊎ (t < suc T) → (get_or (set starts t s) T 0 ≡ start_in plan T)
        × (get_or (set processors t p) T 0 ≡ processor_in plan T)
    go (inl k) =
        (get_or-set_other starts t T s 0 (λ q. omega arith) ∙ (g T k).0, get_or-set_other processors t T p 0 (λ q. omega arith) ∙ (g T k).1)
    go (inr k) =
        let q : T ≡ t = omega arith in
        rw q (get_or-set_same starts t s 0 hs ∙ start, get_or-set_same processors t p 0 hp ∙ (p-is ∙ rw at_is))

-- ---- only the tasks' places count: plans that are the same on the first m tasks have the same bytes
pub plan_bytes_same : (m : ℕ) (p q s t : ℕ → ℕ) → ((T : ℕ) → T < m → p T ≡ q T) → ((T : ℕ) → T < m → s T ≡ t T)
    → plan_bytes m p s ≡ plan_bytes m q t
unfolding plan_bytes
plan_bytes_same m p q s t e h = flat_map_same _ _ (upto m) (λ T k. rw (e T (upto_of m T k), h T (upto_of m T k)))
