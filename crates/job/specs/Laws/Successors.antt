-- How many tasks may deliver a result, and so how many results a job can have: only tasks without a successor may, and many links leave
-- few of those. Of links that rise strictly, those from one task have each a higher `to` than the one before, so there are few from each.
use Rattle.std.specs.Prelude.{◌≡◌, refl, ◌⊎◌, Bool, true, false, not, ◌&&◌, ℕ, zero, suc, ◌+◌, ◌*◌, ◌-◌, ◌≤◌, ◌<◌, ltb, eqb, T as Holds}
use Rattle.std.specs.Prelude.{length, get_or}
use Rattle.std.proofs.Math.Path.{ap}
use Rattle.std.proofs.Common.{subst, inl, inr, ltb→lt, lt→ltb, leb→le, eqb→eq}
use mathlib.Core.List.{List, [], ◌∷◌}
use native.Mathlib.Omega.{arith}
use Rattle.base.specs.Lists.{◌∈◌, here, there, upto, any, filter}
use Rattle.base.specs.Rows.{sum, one_if}
use Rattle.base.specs.Laws.Tests.{fails, both, first, second, or_right, eq→eqb}
use Rattle.base.specs.Laws.Lists.{any_of, any_one, in_nothing, place}
use Rattle.base.specs.Laws.Sums.{one_if_yes, one_if_no, one_if_le, sum_le, sum_same, sum_add, sum_each, sum_less, length-filter}
use Rattle.job.specs.Job.{Edge, Result, RiseByTask, Job, job_with_results}
use Rattle.job.specs.Record.{joins, has_successor, past_results, may_deliver}
use Rattle.job.specs.Laws.Lists.{Each, Rising}
use Rattle.job.specs.Laws.Tests.{joins_facts, rises_facts}
use Rattle.job.specs.Laws.Results.{past_more}

-- ---- how many numbers below m a list has

module _ {A : Type 0} (m : ℕ) (key : A → ℕ) where
  abbrev has : List A → ℕ → Bool
  has l T = any (λ x. eqb (key x) T) l

  abbrev numbers : List A → ℕ
  numbers l = sum m (λ T. one_if (has l T))

  -- a longer list has at each number no fewer
  no_fewer_at : (x : A) (l : List A) (T : ℕ) → one_if (has l T) ≤ one_if (has (x ∷ l) T)
  unfolding any
  no_fewer_at x l T = one_if_le (has l T) (has (x ∷ l) T) (or_right (eqb (key x) T) (has l T))

  no_fewer : (x : A) (l : List A) → numbers l ≤ numbers (x ∷ l)
  no_fewer x l = sum_le m (λ T. one_if (has l T)) (λ T. one_if (has (x ∷ l) T)) (λ T h. no_fewer_at x l T)

  -- a number that is not there yet makes one more
  one_more : (x : A) (l : List A) → key x < m → ((y : A) → y ∈ l → key y ≡ key x → ⊥) → numbers l < numbers (x ∷ l)
  one_more x l b n =
      let no = fails (has l (key x))
      (λ h. let z = any_one (λ y. eqb (key y) (key x)) l h in n z.0 z.1 (eqb→eq (key z.0) (key x) z.2)) in
      let yes = any_of (λ y. eqb (key y) (key x)) (x ∷ l) x (here refl) (eq→eqb (key x) (key x) refl) in
      sum_less m (key x) (λ T. one_if (has l T)) (λ T. one_if (has (x ∷ l) T)) (λ T h. no_fewer_at x l T) b
      (omega (arith, one_if_no (has l (key x)) no, one_if_yes (has (x ∷ l) (key x)) yes))

-- ---- edges

-- 01: "Links rise strictly by from, then by to"
abbrev Before : Edge → Edge → Type 0
Before a b = (a.from < b.from) ⊎ ((a.from ≡ b.from) × (a.to < b.to))

before_trans : (a b c : Edge) → Before a b → Before b c → Before a c
before_trans a b c (inl p) (inl q) = inl (omega arith)
before_trans a b c (inl p) (inr q) = inl (omega arith)
before_trans a b c (inr p) (inl q) = inl (omega arith)
before_trans a b c (inr p) (inr q) = inr (omega arith, omega arith)

-- the first of edges that rise is before each of the others
before_all : (d e : Edge) (es : List Edge) → Rising d (e ∷ es) → (x : Edge) → x ∈ es → Before e x
before_all d e es r x h = let z = place d es x h in subst (Before e) z.2 (go z.0 z.1)
  where
    go : (k : ℕ) → k < length es → Before e (get_or es k d)
    go zero h = rises_facts e (get_or es 0 d) (r 0 (omega arith))
    go (suc k) h =
        before_trans e (get_or es k d) (get_or es (suc k) d) (go k (omega arith))
        (rises_facts (get_or es k d) (get_or es (suc k) d) (r (suc k) (omega arith)))

-- how many of m tasks have a successor, and how many have none
abbrev branches : List Edge → ℕ → ℕ
branches es m = sum m (λ T. one_if (has_successor es T))

abbrev leaves : List Edge → ℕ → ℕ
leaves es m = sum m (λ T. one_if (not (has_successor es T)))

branches_leaves : (es : List Edge) (m : ℕ) → branches es m + leaves es m ≡ m
branches_leaves es m =
    omega (
      arith,
      sum_add m (λ T. one_if (has_successor es T)) (λ T. one_if (not (has_successor es T))),
      sum_same m (λ T. one_if (has_successor es T) + one_if (not (has_successor es T))) (λ T. 1) (λ T h. one (has_successor es T)),
      sum_each m 1,
    )
  where
    one : (b : Bool) → one_if b + one_if (not b) ≡ 1
    one true = omega (arith, one_if_yes true tt, one_if_no (not true) tt)
    one false = omega (arith, one_if_no false tt, one_if_yes (not false) tt)

module _ (d : Edge) (m : ℕ) (small : m ≤ 256) where
  -- the edges and what is left out before the first: each task with a successor has room for 255
  edges_few : (e : Edge) (es : List Edge) → Each (joins m) d (e ∷ es) → Rising d (e ∷ es)
      → length (e ∷ es) + (e.to - 1) ≤ 255 * branches (e ∷ es) m
  unfolding has_successor
  edges_few e [] j up =
      let k = joins_facts m e (j 0 (omega arith)) in
      omega (arith, k, one_more m (λ (x : Edge). x.from) e [] (omega (arith, k)) (λ x h. absurd (in_nothing h)))
  edges_few e (f ∷ es) j up =
      go (before_all d e (f ∷ es) up f (here refl)) (edges_few f es (λ i h. j (suc i) (omega arith)) (λ i h. up (suc i) (omega arith)))
    where
      low : (x : Edge) → e.from < f.from → x ∈ (f ∷ es) → e.from < x.from
      low x l (here p) = omega (arith, ap (λ (y : Edge). y.from) p)
      low x l (there h) = rises (before_all d f es (λ i h. up (suc i) (omega arith)) x h)
        where
          rises : Before f x → e.from < x.from
          rises (inl p) = omega arith
          rises (inr p) = omega arith

      go : Before e f → length (f ∷ es) + (f.to - 1) ≤ 255 * branches (f ∷ es) m
          → length (e ∷ (f ∷ es)) + (e.to - 1) ≤ 255 * branches (e ∷ (f ∷ es)) m
      go (inl l) r =
          let k = joins_facts m e (j 0 (omega arith)) in
          omega (
            arith,
            r,
            k,
            one_more m (λ (x : Edge). x.from) e (f ∷ es) (omega (arith, k)) (λ x h c. absurd (omega (arith, low x l h))),
          )
      go (inr l) r =
          let k = joins_facts m e (j 0 (omega arith)) in
          omega (arith, r, k, l, no_fewer m (λ (x : Edge). x.from) e (f ∷ es))

  edges_most : (es : List Edge) → Each (joins m) d es → Rising d es → length es ≤ 255 * branches es m
  edges_most [] j up = omega arith
  edges_most (e ∷ es) j up = omega (arith, edges_few e es j up)

  -- 5 bytes for a step or a link, 4 for each task without a successor
  leaves_few : (es : List Edge) → Each (joins m) d es → Rising d es → length es ≤ 1024 → 5 * m + 5 * length es + 4 * leaves es m ≤ 7404
  leaves_few es j up few = omega (arith, edges_most es j up, branches_leaves es m)

-- ---- tasks that may still deliver a result

-- how many there are
abbrev pub left : Job → ℕ
left j = length (filter (may_deliver j) (upto (length j.tasks)))

pub may_facts : (j : Job) (T : ℕ) → Holds (may_deliver j T)
    → (T < length j.tasks) × Holds (not (has_successor j.edges T)) × Holds (past_results j.results T)
unfolding may_deliver
may_facts j T h =
    let s = first (ltb T (length j.tasks) && not (has_successor j.edges T)) (past_results j.results T) h in (
      ltb→lt T (length j.tasks) (first (ltb T (length j.tasks)) (not (has_successor j.edges T)) s),
      second (ltb T (length j.tasks)) (not (has_successor j.edges T)) s,
      second (ltb T (length j.tasks) && not (has_successor j.edges T)) (past_results j.results T) h,
    )

pub may_of : (j : Job) (T : ℕ) → T < length j.tasks → Holds (not (has_successor j.edges T)) → Holds (past_results j.results T)
    → Holds (may_deliver j T)
unfolding may_deliver
may_of j T l n p =
    both (ltb T (length j.tasks) && not (has_successor j.edges T)) (past_results j.results T)
    (both (ltb T (length j.tasks)) (not (has_successor j.edges T)) (lt→ltb T (length j.tasks) l) n) p

-- past the last result with one task, past it with any higher one
past_up : (rs : List Result) (S T : ℕ) → S ≤ T → Holds (past_results rs S) → Holds (past_results rs T)
unfolding past_results
past_up [] S T l h = tt
past_up (r ∷ []) S T l h = lt→ltb r.task T (omega (arith, ltb→lt r.task S h))
past_up (r ∷ s ∷ rs) S T l h = past_up (s ∷ rs) S T l h

-- a result that is taken leaves fewer
pub left_less : (j : Job) (r : Result) → Holds (may_deliver j r.task) → suc (left (job_with_results j (r ∷ []))) ≤ left j
left_less j r h =
    omega (
      arith,
      length-filter m (may_deliver next),
      length-filter m (may_deliver j),
      sum_less m r.task (λ T. one_if (may_deliver next T)) (λ T. one_if (may_deliver j T))
          (λ T k. one_if_le (may_deliver next T) (may_deliver j T) (still T)) now.0
          (omega (
            arith,
            one_if_yes (may_deliver j r.task) h,
            one_if_no (may_deliver next r.task) (fails (may_deliver next r.task) (λ k. absurd (omega (arith, past r.task k)))),
          )),
    )
  where
    m : ℕ
    m = length j.tasks

    next : Job
    next = job_with_results j (r ∷ [])

    now : (r.task < m) × Holds (not (has_successor j.edges r.task)) × Holds (past_results j.results r.task)
    now = may_facts j r.task h

    past : (T : ℕ) → Holds (may_deliver next T) → r.task + 1 ≤ T
    past T k = leb→le (r.task + 1) T (subst Holds (past_more j.results r T) (may_facts next T k).2)

    still : (T : ℕ) → Holds (may_deliver next T) → Holds (may_deliver j T)
    still T k =
        let f = may_facts next T k in
        may_of j T f.0 f.1 (past_up j.results r.task T (omega (arith, past T k)) now.2)

-- only tasks without a successor are left
pub left_most : (d : Edge) (j : Job) → Each (joins (length j.tasks)) d j.edges → Rising d j.edges → length j.tasks ≤ 256
    → length j.edges ≤ 1024 → 4 * left j ≤ 5 * (256 - length j.tasks) + 5 * (1024 - length j.edges) + 1004
left_most d j join up small few =
    omega (
      arith,
      leaves_few d (length j.tasks) small j.edges join up few,
      length-filter (length j.tasks) (may_deliver j),
      sum_le (length j.tasks) (λ T. one_if (may_deliver j T)) (λ T. one_if (not (has_successor j.edges T)))
          (λ T h. one_if_le (may_deliver j T) (not (has_successor j.edges T)) (λ k. (may_facts j T k).1)),
    )

-- ---- results

-- results that rise by task are as many as their tasks
as_many : (m : ℕ) (rs : List Result) → RiseByTask rs → ((r : Result) → r ∈ rs → r.task < m)
    → length rs ≤ numbers m (λ (r : Result). r.task) rs
as_many m [] up b = omega arith
as_many m (r ∷ rs) up b =
    omega (
      arith,
      as_many m rs up.1 (λ x h. b x (there h)),
      one_more m (λ (x : Result). x.task) r rs (b r (here refl)) (λ x h e. absurd (omega (arith, up.0 x h))),
    )

-- so there are no more than tasks without a successor
results_most : (es : List Edge) (m : ℕ) (rs : List Result) → RiseByTask rs
    → ((r : Result) → r ∈ rs → (r.task < m) × Holds (not (has_successor es r.task))) → length rs ≤ leaves es m
results_most es m rs up b =
    omega (
      arith,
      as_many m rs up (λ r h. (b r h).0),
      sum_le m (λ T. one_if (has m (λ (r : Result). r.task) rs T)) (λ T. one_if (not (has_successor es T)))
          (λ T h. one_if_le (has m (λ (r : Result). r.task) rs T) (not (has_successor es T)) (λ k. free T k)),
    )
  where
    free : (T : ℕ) → Holds (has m (λ (r : Result). r.task) rs T) → Holds (not (has_successor es T))
    free T k =
        let z = any_one (λ (r : Result). eqb r.task T) rs k in
        subst (λ (S : ℕ). Holds (not (has_successor es S))) (eqb→eq z.0.task T z.2) (b z.0 z.1).1

-- at most 255 edges leave a task, and none leaves a task with a result
pub results_few : (d : Edge) (j : Job) → Each (joins (length j.tasks)) d j.edges → Rising d j.edges → length j.tasks ≤ 256
    → RiseByTask j.results
    → ((r : Result) → r ∈ j.results → (r.task < length j.tasks) × Holds (not (has_successor j.edges r.task)))
    → length j.edges + 255 * length j.results ≤ 255 * length j.tasks
results_few d j join up small rise free =
    omega (
      arith,
      edges_most d (length j.tasks) small j.edges join up,
      branches_leaves j.edges (length j.tasks),
      results_most j.edges (length j.tasks) j.results rise free,
    )
