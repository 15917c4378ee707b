-- The count of a task's result: it is 0, or that of the one result that the task has.
use Rattle.std.specs.Prelude.{◌≡◌, refl, ◌⊎◌, List, [], ◌∷◌, ℕ, ◌≤◌, eqb}
use Rattle.std.proofs.Common.{ap, sym, ◌∙◌, inl, inr, ⊎_elim, arith}
use Rattle.base.specs.Lists.{◌∈◌, here, there}
use Rattle.base.specs.Laws.Tests.{pick_yes, pick_no, eq→eqb, ne→neqb, same_or_not}
use Rattle.job.specs.Job.{Result, result_count, RiseByTask}

pub own_count : (r : Result) (rs : List Result) (T : ℕ) → r.task ≡ T → result_count (r ∷ rs) T ≡ r.count
unfolding result_count
own_count r rs T e = pick_yes (eqb r.task T) r.count (result_count rs T) (eq→eqb r.task T e)

pub other_count : (r : Result) (rs : List Result) (T : ℕ) → (r.task ≡ T → ⊥) → result_count (r ∷ rs) T ≡ result_count rs T
unfolding result_count
other_count r rs T d = pick_no (eqb r.task T) r.count (result_count rs T) (ne→neqb r.task T d)

-- a task has no result, or its count is that of one
pub count_of : (rs : List Result) (T : ℕ)
    → (result_count rs T ≡ 0) ⊎ ((r : Result) × (r ∈ rs) × (r.task ≡ T) × (r.count ≡ result_count rs T))
unfolding result_count
count_of [] T = inl refl
count_of (s ∷ rs) T = go (same_or_not s.task T) (count_of rs T)
  where
    go : (s.task ≡ T) ⊎ (s.task ≡ T → ⊥)
        → (result_count rs T ≡ 0) ⊎ ((r : Result) × (r ∈ rs) × (r.task ≡ T) × (r.count ≡ result_count rs T))
        → (result_count (s ∷ rs) T ≡ 0) ⊎ ((r : Result) × (r ∈ (s ∷ rs)) × (r.task ≡ T) × (r.count ≡ result_count (s ∷ rs) T))
    go (inl e) z = inr (s, here refl, e, sym (own_count s rs T e))
    go (inr d) (inl z) = inl (other_count s rs T d ∙ z)
    go (inr d) (inr z) = inr (z.0, there z.1, z.2, z.3 ∙ sym (other_count s rs T d))

pub count_none : (rs : List Result) (T : ℕ) → ((r : Result) → r ∈ rs → r.task ≡ T → ⊥) → result_count rs T ≡ 0
count_none rs T h = ⊎_elim (λ e. e) (λ z. absurd (h z.0 z.1 z.2)) (count_of rs T)

pub count_most : (rs : List Result) (b T : ℕ) → ((r : Result) → r ∈ rs → r.count ≤ b) → result_count rs T ≤ b
count_most rs b T h = ⊎_elim (λ e. omega arith) (λ z. omega (arith, h z.0 z.1, z.3)) (count_of rs T)

-- results that rise have one for a task at most
pub count_is : (rs : List Result) (r : Result) → RiseByTask rs → r ∈ rs → result_count rs r.task ≡ r.count
count_is (s ∷ rs) r up (here e) = own_count s rs r.task (ap (λ (x : Result). x.task) (sym e)) ∙ ap (λ (x : Result). x.count) (sym e)
count_is (s ∷ rs) r up (there h) =
    other_count s rs r.task (λ e. absurd (omega (arith, up.0 r h))) ∙ count_is rs r up.1 h
count_is [] r up h = elim h [ ]
