-- Results as a list and in an array by task: the results that an array holds rise by task, and each way back gives the same.
-- And which tasks have a successor, by the edges in an array.
use Rattle.std.specs.Prelude.{◌≡◌, refl, ◌⊎◌, Bool, true, false, List, [], ◌∷◌, ◌++◌, map, ℕ, zero, suc, ◌+◌, ◌-◌, ◌≤◌, ◌<◌, leb, ltb, eqb}
use Rattle.std.specs.Prelude.{T as Holds, length, get_or, set, replicate}
use Rattle.std.proofs.Common.{ap, sym, subst, ◌∙◌, inl, inr, ⊎_elim, append-nil, add-one, arith, le→leb, ltb→lt, lt→ltb, eqb→eq}
use Rattle.std.proofs.Common.{length-append, length-set, get_or-set_same, get_or-set_other, ext_get_or}
use Rattle.std.proofs.lemmas.List.{map-append, length-map}
use Rattle.base.specs.Choice.{pick}
use Rattle.base.specs.Lists.{◌∈◌, here, there, upto, any, filter, values}
use Rattle.base.specs.Laws.Tests.{eq→eqb, is_true, is_false, when_true, same_test, same_or_not, lt_or_ge}
use Rattle.base.specs.Laws.Lists.{for_cons, for_join, in_nothing, map_in, map_of, filter_in, filter_of, filter-append}
use Rattle.base.specs.Laws.Lists.{upto_in, upto_of, length-upto, length-filter_most, any_of, any_one}
use Rattle.base.specs.Laws.Values.{upto-values, values_none, each_value, value_at, length-values}
use Rattle.job.specs.Job.{Result, RiseByTask, result_count}
use Rattle.job.specs.Counts.{own_count, other_count, count_none, count_is}
use Rattle.job.specs.Record.{has_successor, past_results}
use Rattle.job.specs.Read.{result_array}
use Rattle.job.specs.Write.{edge_held, result_held, results_held}
use Rattle.job.specs.Pass.{result_of, sends, results_from}

-- ---- results that rise by task

-- a task stands past no results, and past some with one more at the end
pub past_none : (T : ℕ) → past_results [] T ≡ leb 0 T
unfolding past_results
past_none T = sym (is_true (leb 0 T) (le→leb 0 T (omega arith)))

pub past_more : (rs : List Result) (r : Result) (T : ℕ) → past_results (rs ++ (r ∷ [])) T ≡ leb (r.task + 1) T
unfolding past_results
past_more [] r T = rw add-one refl
past_more (s ∷ []) r T = rw add-one refl
past_more (s ∷ t ∷ rs) r T = past_more (t ∷ rs) r T

-- past the last is past all
pub past_all : (rs : List Result) (T : ℕ) → RiseByTask rs → Holds (past_results rs T) → (x : Result) → x ∈ rs → x.task < T
unfolding past_results
past_all [] T up h x k = absurd (in_nothing k)
past_all (r ∷ []) T up h x k = for_cons (λ (y : Result). y.task < T) (ltb→lt r.task T h) (λ y q. absurd (in_nothing q)) x k
past_all (r ∷ s ∷ rs) T up h x k =
    let rest = past_all (s ∷ rs) T up.1 h in
    for_cons (λ (y : Result). y.task < T) (omega (arith, up.0 s (here refl), rest s (here refl))) rest x k

above_more : (rs : List Result) (r : Result) → RiseByTask rs → ((x : Result) → x ∈ rs → x.task < r.task) → RiseByTask (rs ++ (r ∷ []))
above_more [] r up h = (λ x k. absurd (in_nothing k), tt)
above_more (s ∷ rs) r up h = (
  for_join (λ (x : Result). s.task < x.task) rs (r ∷ []) up.0
      (for_cons (λ (x : Result). s.task < x.task) (h s (here refl)) (λ x k. absurd (in_nothing k))),
  above_more rs r up.1 (λ x k. h x (there k)),
)

pub rise_more : (rs : List Result) (r : Result) → RiseByTask rs → Holds (past_results rs r.task) → RiseByTask (rs ++ (r ∷ []))
rise_more rs r up h = above_more rs r up (past_all rs r.task up h)

-- ---- the results that an array holds

-- the array has a count for task T
abbrev delivers : List ℕ → ℕ → Bool
delivers counts T = ltb 0 (get_or counts T 0)

delivers_not : (counts : List ℕ) (T : ℕ) → get_or counts T 0 ≡ 0 → delivers counts T ≡ false
delivers_not counts T e = is_false (delivers counts T) (λ h. absurd (omega (arith, ltb→lt 0 (get_or counts T 0) h)))

delivers_yes : (counts : List ℕ) (T : ℕ) → (get_or counts T 0 ≡ 0 → ⊥) → delivers counts T ≡ true
delivers_yes counts T d =
    is_true (delivers counts T)
    (lt→ltb 0 (get_or counts T 0) (⊎_elim (λ l. l) (λ l. absurd (d (omega arith))) (lt_or_ge 0 (get_or counts T 0))))

pub held_first : (counts : List ℕ) → results_held counts 0 ≡ []
unfolding results_held upto filter
held_first counts = refl

-- one place more
one_place : (counts : List ℕ) (t : ℕ)
    → results_held counts (suc t) ≡ results_held counts t ++ pick (delivers counts t) (result_held counts t ∷ []) []
unfolding results_held upto filter
one_place counts t =
    ap (map (result_held counts)) (filter-append (delivers counts) (upto t) (t ∷ []))
    ∙ map-append (result_held counts) (filter (delivers counts) (upto t)) (filter (delivers counts) (t ∷ []))
    ∙ ap (λ (l : List Result). results_held counts t ++ l) (go (delivers counts t))
  where
    go : (b : Bool) → map (result_held counts) (pick b (t ∷ []) []) ≡ pick b (result_held counts t ∷ []) []
    go true = refl
    go false = refl

with_one : (counts : List ℕ) (t : ℕ) → (get_or counts t 0 ≡ 0 → ⊥)
    → results_held counts (suc t) ≡ results_held counts t ++ (result_of t (get_or counts t 0) ∷ [])
unfolding result_held
with_one counts t d = one_place counts t ∙ rw (delivers_yes counts t d) refl

without_one : (counts : List ℕ) (t : ℕ) → get_or counts t 0 ≡ 0 → results_held counts (suc t) ≡ results_held counts t
without_one counts t e = one_place counts t ∙ rw (delivers_not counts t e) (append-nil (results_held counts t))

pub held_with : (counts : List ℕ) (t : ℕ) → (get_or counts t 0 ≡ 0 → ⊥)
    → results_held counts (t + 1) ≡ results_held counts t ++ (result_of t (get_or counts t 0) ∷ [])
held_with counts t d = rw add-one (with_one counts t d)

pub held_without : (counts : List ℕ) (t : ℕ) → get_or counts t 0 ≡ 0 → results_held counts (t + 1) ≡ results_held counts t
held_without counts t e = rw add-one (without_one counts t e)

pub held_few : (counts : List ℕ) (m : ℕ) → length (results_held counts m) ≤ m
unfolding results_held
held_few counts m =
    omega (
      arith,
      length-map (filter (delivers counts) (upto m)) (result_held counts),
      length-filter_most (delivers counts) (upto m),
      length-upto m,
    )

pub held_up : (counts : List ℕ) (t m : ℕ) → t ≤ m → length (results_held counts t) ≤ length (results_held counts m)
held_up counts t zero h = let e : t ≡ 0 = omega arith in rw e (omega arith)
held_up counts t (suc m) h = go (lt_or_ge m t) (λ k. held_up counts t m k)
  where
    go : (m < t) ⊎ (t ≤ m) → (t ≤ m → length (results_held counts t) ≤ length (results_held counts m))
        → length (results_held counts t) ≤ length (results_held counts (suc m))
    go (inl k) r = let e : t ≡ suc m = omega arith in rw e (omega arith)
    go (inr k) r =
        omega (
          arith,
          r k,
          ap length (one_place counts m),
          length-append (results_held counts m) (pick (delivers counts m) (result_held counts m ∷ []) []),
        )

pub no_results : (counts : List ℕ) (m : ℕ) → ((T : ℕ) → get_or counts T 0 ≡ 0) → results_held counts m ≡ []
no_results counts zero h = held_first counts
no_results counts (suc m) h = without_one counts m (h m) ∙ no_results counts m h

-- arrays that agree below m
held_same : (a b : List ℕ) (m : ℕ) → ((T : ℕ) → T < m → get_or a T 0 ≡ get_or b T 0) → results_held a m ≡ results_held b m
unfolding result_held
held_same a b zero h = held_first a ∙ sym (held_first b)
held_same a b (suc m) h =
    one_place a m ∙ rw (held_same a b m (λ T k. h T (omega arith)), h m (omega arith)) (sym (one_place b m))

-- one result more, stored at its task's place, above the others
pub held_more : (counts : List ℕ) (least T c m : ℕ) → T < length counts → least ≤ T → T < m → 1 ≤ c
    → ((i : ℕ) → least ≤ i → get_or counts i 0 ≡ 0) → results_held (set counts T c) m ≡ results_held counts m ++ (result_of T c ∷ [])
held_more counts least T c zero l a b p z = absurd (omega arith)
held_more counts least T c (suc m) l a b p z = go (same_or_not m T) (λ k. held_more counts least T c m l a k p z)
  where
    go : (m ≡ T) ⊎ (m ≡ T → ⊥) → (T < m → results_held (set counts T c) m ≡ results_held counts m ++ (result_of T c ∷ []))
        → results_held (set counts T c) (suc m) ≡ results_held counts (suc m) ++ (result_of T c ∷ [])
    go (inl e) r =
        let same = get_or-set_same counts T c 0 l in
        let below = held_same (set counts T c) counts T (λ i k. get_or-set_other counts T i c 0 (λ q. absurd (omega arith))) in
        rw (
          e,
          with_one (set counts T c) T (λ q. absurd (omega arith)),
          below,
          same,
          without_one counts T (z T a),
        ) refl
    go (inr d) r =
        let k : T < m = ⊎_elim (λ q. q) (λ q. absurd (d (omega arith))) (lt_or_ge T m) in
        rw (
          without_one (set counts T c) m (get_or-set_other counts T m c 0 d ∙ z m (omega arith)),
          without_one counts m (z m (omega arith)),
        ) (r k)

pub spare_more : (counts : List ℕ) (least T c m : ℕ) → T < length counts → least ≤ T → T < m → 1 ≤ c
    → ((i : ℕ) → least ≤ i → get_or counts i 0 ≡ 0) → (i : ℕ) → T + 1 ≤ i → get_or (set counts T c) i 0 ≡ 0
spare_more counts least T c m l a b p z i h = get_or-set_other counts T i c 0 (λ q. absurd (omega arith)) ∙ z i (omega arith)

-- what is held, and of what
pub held_within : (counts : List ℕ) (m : ℕ) (r : Result) → r ∈ results_held counts m
    → (r.task < m) × (1 ≤ r.count) × (r.count ≡ get_or counts r.task 0)
unfolding results_held result_held
held_within counts m r h =
    let z = map_of (result_held counts) (filter (delivers counts) (upto m)) r h in
    let f = filter_of (delivers counts) (upto m) z.0 z.1 in
    subst (λ (x : Result). (x.task < m) × (1 ≤ x.count) × (x.count ≡ get_or counts x.task 0)) (sym z.2)
    (upto_of m z.0 f.0, ltb→lt 0 (get_or counts z.0 0) f.1, refl)

held_in : (counts : List ℕ) (m T : ℕ) → T < m → (get_or counts T 0 ≡ 0 → ⊥) → result_held counts T ∈ results_held counts m
unfolding results_held
held_in counts m T h d =
    map_in (result_held counts) (filter (delivers counts) (upto m)) T
    (filter_in (delivers counts) (upto m) T (upto_in m T h) (when_true (delivers_yes counts T d)))

-- ---- from a place on

pub held_from : (counts : List ℕ) (m : ℕ) → results_held counts m ≡ results_from counts 0 m
unfolding results_held results_from
held_from counts m = rw (upto-values m) refl

from_one : (counts : List ℕ) (t k : ℕ)
    → results_from counts t (suc k)
    ≡ pick (delivers counts t) (result_held counts t ∷ results_from counts (suc t) k) (results_from counts (suc t) k)
unfolding results_from values filter
from_one counts t k = go (delivers counts t)
  where
    go : (b : Bool) → map (result_held counts) (pick b (t ∷ filter (delivers counts) (values (λ i. i) (suc t) k))
        (filter (delivers counts) (values (λ i. i) (suc t) k)))
        ≡ pick b (result_held counts t ∷ results_from counts (suc t) k) (results_from counts (suc t) k)
    go true = refl
    go false = refl

one_from : (counts : List ℕ) (t k : ℕ) → (get_or counts t 0 ≡ 0 → ⊥)
    → results_from counts t (suc k) ≡ result_of t (get_or counts t 0) ∷ results_from counts (suc t) k
unfolding result_held
one_from counts t k d = from_one counts t k ∙ rw (delivers_yes counts t d) refl

none_from : (counts : List ℕ) (t k : ℕ) → get_or counts t 0 ≡ 0 → results_from counts t (suc k) ≡ results_from counts (suc t) k
none_from counts t k e = from_one counts t k ∙ rw (delivers_not counts t e) refl

pub from_with : (counts : List ℕ) (t m : ℕ) → t < m → (get_or counts t 0 ≡ 0 → ⊥)
    → results_from counts t (m - t) ≡ result_of t (get_or counts t 0) ∷ results_from counts (suc t) (m - suc t)
from_with counts t m h d = let e : m - t ≡ suc (m - suc t) = omega arith in rw e (one_from counts t (m - suc t) d)

pub from_without : (counts : List ℕ) (t m : ℕ) → t < m → get_or counts t 0 ≡ 0
    → results_from counts t (m - t) ≡ results_from counts (suc t) (m - suc t)
from_without counts t m h z = let e : m - t ≡ suc (m - suc t) = omega arith in rw e (none_from counts t (m - suc t) z)

pub from_end : (counts : List ℕ) (t m : ℕ) → m ≤ t → results_from counts t (m - t) ≡ []
unfolding results_from filter
from_end counts t m h = rw (values_none (λ i. i) t m h) refl

-- those from a place on rise
from_above : (counts : List ℕ) (t k : ℕ) → RiseByTask (results_from counts t k) × ((x : Result) → x ∈ results_from counts t k → t ≤ x.task)
unfolding results_from filter values result_held
from_above counts t zero = (tt, λ x h. absurd (in_nothing h))
from_above counts t (suc k) = let r = from_above counts (suc t) k in rw (from_one counts t k) (go (delivers counts t) r.0 r.1)
  where
    Above : List Result → Type 0
    Above l = RiseByTask l × ((x : Result) → x ∈ l → t ≤ x.task)

    go : (b : Bool) → RiseByTask (results_from counts (suc t) k) → ((x : Result) → x ∈ results_from counts (suc t) k → suc t ≤ x.task)
        → Above (pick b (result_held counts t ∷ results_from counts (suc t) k) (results_from counts (suc t) k))
    go true up h = (
      (h, up),
      for_cons (λ (x : Result). t ≤ x.task) (omega arith) (λ x q. omega (arith, h x q)),
    )
    go false up h = (up, λ x q. omega (arith, h x q))

pub held_rise : (counts : List ℕ) (m : ℕ) → RiseByTask (results_held counts m)
held_rise counts m = rw (held_from counts m) (from_above counts 0 m).0

-- ---- results as an array

pub array_size : (rs : List Result) → length (result_array rs) ≡ 256
unfolding result_array
array_size rs = length-values (result_count rs) 0 256

pub array_count : (rs : List Result) (T : ℕ) → T < 256 → get_or (result_array rs) T 0 ≡ result_count rs T
unfolding result_array
array_count rs T h = value_at (result_count rs) 0 256 T h

pub array_none : (T : ℕ) → get_or (result_array []) T 0 ≡ 0
unfolding result_array result_count
array_none T = each_value (result_count []) (λ (n : ℕ). n ≡ 0) 0 refl (λ n. refl) 0 256 T

-- the count that an array holds for a task
count_held : (counts : List ℕ) (m T : ℕ) → T < m → result_count (results_held counts m) T ≡ get_or counts T 0
unfolding result_held
count_held counts m T h = go (same_or_not (get_or counts T 0) 0)
  where
    go : (get_or counts T 0 ≡ 0) ⊎ (get_or counts T 0 ≡ 0 → ⊥) → result_count (results_held counts m) T ≡ get_or counts T 0
    go (inl e) =
        count_none (results_held counts m) T
        (λ r k q. let w = held_within counts m r k in absurd (omega (arith, w.1, w.2, ap (λ (i : ℕ). get_or counts i 0) q)))
        ∙ sym e
    go (inr d) = count_is (results_held counts m) (result_held counts T) (held_rise counts m) (held_in counts m T h d)

-- an array with nothing from m on is that of the results that it holds
pub array_back : (counts : List ℕ) (m : ℕ) → length counts ≡ 256 → m ≤ 256 → ((T : ℕ) → m ≤ T → get_or counts T 0 ≡ 0)
    → result_array (results_held counts m) ≡ counts
array_back counts m l h z =
    ext_get_or 0 (result_array (results_held counts m)) counts (array_size (results_held counts m) ∙ sym l)
    (λ T k. array_count (results_held counts m) T (omega (arith, array_size (results_held counts m))) ∙ at T (lt_or_ge T m))
  where
    at : (T : ℕ) → (T < m) ⊎ (m ≤ T) → result_count (results_held counts m) T ≡ get_or counts T 0
    at T (inl k) = count_held counts m T k
    at T (inr k) =
        count_none (results_held counts m) T (λ r q e. absurd (omega (arith, (held_within counts m r q).0))) ∙ sym (z T k)

-- an array that has the counts of results that rise holds them
back_from : (counts : List ℕ) (t k : ℕ) (rs : List Result) → RiseByTask rs
    → ((r : Result) → r ∈ rs → (t ≤ r.task) × (r.task < t + k) × (1 ≤ r.count))
    → ((T : ℕ) → t ≤ T → T < t + k → get_or counts T 0 ≡ result_count rs T) → results_from counts t k ≡ rs
unfolding results_from filter values
back_from counts t zero [] up w h = refl
back_from counts t zero (r ∷ rs) up w h = absurd (omega (arith, w r (here refl)))
back_from counts t (suc k) [] up w h =
    none_from counts t k (h t (omega arith) (omega arith) ∙ count_none [] t (λ x q e. in_nothing q))
    ∙ back_from counts (suc t) k [] tt (λ x q. absurd (in_nothing q)) (λ T a b. h T (omega arith) (omega arith))
back_from counts t (suc k) (r ∷ rs) up w h =
    go (same_or_not r.task t) (λ l. back_from counts (suc t) k l)
  where
    own : r.task ≡ t → get_or counts t 0 ≡ r.count
    own e = h t (omega arith) (omega arith) ∙ own_count r rs t e

    go : (r.task ≡ t) ⊎ (r.task ≡ t → ⊥)
        → ((l : List Result) → RiseByTask l → ((x : Result) → x ∈ l → (suc t ≤ x.task) × (x.task < suc t + k) × (1 ≤ x.count))
        → ((T : ℕ) → suc t ≤ T → T < suc t + k → get_or counts T 0 ≡ result_count l T) → results_from counts (suc t) k ≡ l)
        → results_from counts t (suc k) ≡ r ∷ rs
    go (inl e) next =
        one_from counts t k (λ z. absurd (omega (arith, own e, (w r (here refl)).2)))
        ∙ rw (
          own e,
          next rs up.1
              (λ x q. (omega (arith, up.0 x q), omega (arith, (w x (there q)).1), (w x (there q)).2))
              (λ T a b. h T (omega arith) (omega arith) ∙ other_count r rs T (λ q. absurd (omega arith))),
          sym e,
        ) refl
    go (inr d) next =
        let above : t < r.task = ⊎_elim (λ q. q) (λ q. absurd (d (omega (arith, (w r (here refl)).0)))) (lt_or_ge t r.task) in
        none_from counts t k (h t (omega arith) (omega arith)
        ∙ count_none (r ∷ rs) t
        (for_cons (λ (x : Result). x.task ≡ t → ⊥) d (λ x q e. absurd (omega (arith, up.0 x q, above)))))
        ∙ next (r ∷ rs) up
        (λ x q. (
          for_cons (λ (y : Result). suc t ≤ y.task) above (λ y p. omega (arith, up.0 y p, above)) x q,
          omega (arith, (w x q).1),
          (w x q).2,
        ))
        (λ T a b. h T (omega arith) (omega arith))

pub held_back : (rs : List Result) (m : ℕ) → RiseByTask rs → ((r : Result) → r ∈ rs → r.task < m)
    → ((r : Result) → r ∈ rs → 1 ≤ r.count) → m ≤ 256 → results_held (result_array rs) m ≡ rs
held_back rs m up low some h =
    held_from (result_array rs) m
    ∙ back_from (result_array rs) 0 m rs up (λ r q. (omega arith, omega (arith, low r q), some r q))
    (λ T a b. array_count rs T (omega arith))

-- ---- which tasks have a successor

any-values : {A : Type 0} (p : A → Bool) (f : ℕ → A) (i k : ℕ) → any p (values f i k) ≡ any (λ n. p (f n)) (values (λ n. n) i k)
unfolding any values
any-values p f i zero = refl
any-values p f i (suc k) = rw (any-values p f (suc i) k) refl

pub sends_are : (from to counts : List ℕ) (l T : ℕ) → has_successor (values (edge_held from to counts) 0 l) T ≡ sends from l T
unfolding has_successor edge_held sends
sends_are from to counts l T =
    any-values (λ e. eqb e.from T) (edge_held from to counts) 0 l ∙ rw (upto-values l) refl

pub sends_none : (from : List ℕ) (T : ℕ) → sends from 0 T ≡ false
unfolding sends any upto
sends_none from T = refl

-- a task sends by one of its edges
sender : (from : List ℕ) (l T : ℕ) → Holds (sends from l T) → (k : ℕ) × (k < l) × (get_or from k 0 ≡ T)
unfolding sends
sender from l T h =
    let z = any_one (λ k. eqb (get_or from k 0) T) (upto l) h in
    (z.0, upto_of l z.0 z.1, eqb→eq (get_or from z.0 0) T z.2)

sender_of : (from : List ℕ) (l T k : ℕ) → k < l → get_or from k 0 ≡ T → Holds (sends from l T)
unfolding sends
sender_of from l T k h e = any_of (λ k. eqb (get_or from k 0) T) (upto l) k (upto_in l k h) (eq→eqb (get_or from k 0) T e)

-- one edge more: its task, and any other
sends_one : (from : List ℕ) (k : ℕ) → sends from (k + 1) (get_or from k 0) ≡ true
sends_one from k = is_true (sends from (k + 1) (get_or from k 0)) (sender_of from (k + 1) (get_or from k 0) k (omega arith) refl)

sends_other : (from : List ℕ) (k T : ℕ) → (T ≡ get_or from k 0 → ⊥) → sends from k T ≡ sends from (k + 1) T
sends_other from k T d =
    same_test (sends from k T) (sends from (k + 1) T)
    (λ h. let z = sender from k T h in sender_of from (k + 1) T z.0 (omega (arith, z.1)) z.2)
    (λ h. let z = sender from (k + 1) T h in sender_of from k T z.0 (low z.0 z.1 z.2) z.2)
  where
    low : (i : ℕ) → i < k + 1 → get_or from i 0 ≡ T → i < k
    low i h t =
        ⊎_elim (λ q. q) (λ q. let e : i ≡ k = omega arith in absurd (d (sym t ∙ ap (λ (n : ℕ). get_or from n 0) e))) (lt_or_ge i k)

-- the flags of all tasks
pub senders_none : (from : List ℕ) → values (sends from 0) 0 256 ≡ replicate 256 false
unfolding values
senders_none from = each 0 256
  where
    each : (i k : ℕ) → values (sends from 0) i k ≡ replicate k false
    each i zero = refl
    each i (suc k) = rw (sends_none from i, each (suc i) k) refl

pub senders_more : (from : List ℕ) (k : ℕ) → get_or from k 0 < 256
    → set (values (sends from k) 0 256) (get_or from k 0) true ≡ values (sends from (k + 1)) 0 256
senders_more from k h =
    ext_get_or false (set flags (get_or from k 0) true) (values (sends from (k + 1)) 0 256)
    (length-set flags (get_or from k 0) true ∙ long k ∙ sym (long (k + 1)))
    (λ T l. at T (omega (arith, length-set flags (get_or from k 0) true, long k)) (same_or_not T (get_or from k 0)))
  where
    flags : List Bool
    flags = values (sends from k) 0 256

    long : (k : ℕ) → length (values (sends from k) 0 256) ≡ 256
    long k = length-values (sends from k) 0 256

    at : (T : ℕ) → T < 256 → (T ≡ get_or from k 0) ⊎ (T ≡ get_or from k 0 → ⊥)
        → get_or (set flags (get_or from k 0) true) T false ≡ get_or (values (sends from (k + 1)) 0 256) T false
    at T l (inl e) =
        rw e (get_or-set_same flags (get_or from k 0) true false (omega (arith, long k))
        ∙ sym (value_at (sends from (k + 1)) false 256 (get_or from k 0) h ∙ sends_one from k))
    at T l (inr d) =
        get_or-set_other flags (get_or from k 0) T true false d ∙ value_at (sends from k) false 256 T l
        ∙ sends_other from k T d ∙ sym (value_at (sends from (k + 1)) false 256 T l)
