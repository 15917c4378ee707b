-- An array that is filled from the front, its other places 0: one more place filled, and what the array is in the end.
use Rattle.std.specs.Prelude.{◌≡◌, refl, List, map, ◌++◌, [], ◌∷◌, ℕ, suc, ◌+◌, ◌-◌, ◌≤◌, ◌<◌, length, get_or, take, drop, set, replicate}
use Rattle.std.proofs.Common.{ap, sym, ◌∙◌, arith, take-append-drop, length-set, drop-drop, drop-set-lt, length-take-le, get_or-set_same}
use Rattle.std.proofs.Common.{get_or-set_other}
use Rattle.std.proofs.lemmas.List.{length-replicate}
use Rattle.base.specs.Lists.{values}
use Rattle.base.specs.Laws.Values.{map-values, values_same, values-take, values_more}
use Rattle.job.specs.declared.Arrays.{Arrays}
use Rattle.job.specs.declared.Platform.{Platform}
use Rattle.job.specs.Job.{Edge}
use Rattle.job.specs.Record.{wire_pairs}
use Rattle.job.specs.Read.{padded, wire_array, result_array, arrays_of}
use Rattle.job.specs.Write.{edge_held, wire_held, results_held, held_job}
use Rattle.job.specs.Pass.{Front}

pub front_none : (n : ℕ) (xs : List ℕ) → xs ≡ replicate n 0 → Front n 0 xs
front_none n xs e = let z : n - 0 ≡ n = omega arith in record { long = ap length e ∙ length-replicate n 0; spare = rw z e }

pub front_set : {n k : ℕ} {xs : List ℕ} → Front n k xs → (x : ℕ) → k < n → Front n (k + 1) (set xs k x)
front_set {n} {k} {xs} f x h =
    let i : n - k ≡ suc (n - (k + 1)) = omega arith in
    record {
      long = length-set xs k x ∙ f.long;
      spare = drop-set-lt (k + 1) xs k x (omega arith) ∙ sym (drop-drop 1 k xs)
          ∙ ap (λ (l : List ℕ). drop 1 l) (f.spare ∙ ap (λ (i : ℕ). replicate i 0) i);
    }

-- the array is the padded row of what it holds
pub is_padded : {n k : ℕ} {xs : List ℕ} → Front n k xs → k ≤ n → padded n (values (λ i. get_or xs i 0) 0 k) ≡ xs
unfolding padded
is_padded {n} {k} {xs} f h =
    let l : length (take k xs) ≡ k = length-take-le k xs (omega (arith, f.long)) in
    rw (values-take xs k (omega (arith, f.long)), l, ← f.spare) (take-append-drop k xs)

-- .. and so is one part of each thing that is held in several arrays
pub is_column : {A : Type 0} {n k : ℕ} {xs : List ℕ} → Front n k xs → k ≤ n → (part : A → ℕ) (f : ℕ → A) →
    ((i : ℕ) → part (f i) ≡ get_or xs i 0) → padded n (map part (values f 0 k)) ≡ xs
is_column {n = n} {k} {xs} front h part f is =
    ap (padded n) (map-values part f 0 k ∙ values_same (λ i. part (f i)) (λ i. get_or xs i 0) 0 k (λ i a b. is i)) ∙ is_padded front h

-- a row with one entry more
pub row_set : (xs : List ℕ) (k x : ℕ) → k < length xs →
    values (λ i. get_or (set xs k x) i 0) 0 (k + 1) ≡ values (λ i. get_or xs i 0) 0 k ++ (x ∷ [])
row_set xs k x h =
    let g = values_same (λ i. get_or (set xs k x) i 0) (λ i. get_or xs i 0) 0 k (λ i a b. get_or-set_other xs k i x 0 (λ e. omega arith)) in
    values_more (λ i. get_or (set xs k x) i 0) k ∙ rw (g, get_or-set_same xs k x 0 h)

-- arrays that are filled from the front, with m durations and l edges, the wires of a rack and the results of m tasks
pub record Filled (p : Platform) (m l : ℕ) (a : Arrays) : Type 0 where
  pub durations : Front 256 m a.durations
  pub from : Front 1024 l a.from
  pub to : Front 1024 l a.to
  pub counts : Front 1024 l a.counts
  pub wires : wire_array (map (wire_held a.wires) (wire_pairs p)) ≡ a.wires
  pub results : result_array (results_held a.results m) ≡ a.results

-- they are the arrays of the job that they hold
pub arrays_back : (p : Platform) {m l : ℕ} {a : Arrays} → Filled p m l a → m ≤ 256 → l ≤ 1024 → arrays_of (held_job p m l a) ≡ a
unfolding arrays_of held_job edge_held
arrays_back p {m} {l} {a} f few few' =
    rw (
      is_padded f.durations few,
      is_column f.from few' (λ (e : Edge). e.from) (edge_held a.from a.to a.counts) (λ i. refl),
      is_column f.to few' (λ (e : Edge). e.to) (edge_held a.from a.to a.counts) (λ i. refl),
      is_column f.counts few' (λ (e : Edge). e.count) (edge_held a.from a.to a.counts) (λ i. refl),
      f.wires,
      f.results,
    )
