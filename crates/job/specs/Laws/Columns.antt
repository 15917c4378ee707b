-- The edges of a job in three arrays, by place.
use Rattle.std.specs.Prelude.{◌≡◌, refl, List, [], ◌∷◌, ◌++◌, map, ℕ, ◌+◌, ◌<◌, length, get_or, set}
use Rattle.std.proofs.Common.{◌∙◌, arith, get_or-set_same, get_or-set_other}
use Rattle.base.specs.Laws.Values.{values_back, values_same, values_more}
use Rattle.base.specs.Lists.{values}
use Rattle.job.specs.Job.{Edge}
use Rattle.job.specs.Write.{edge_held}
use Rattle.job.specs.Read.{padded}
use Rattle.job.specs.Pass.{edge}
use Rattle.job.specs.Laws.Lists.{column_at}

-- one edge more, stored at its place in each array
pub edges_set : (from to counts : List ℕ) (l f t c : ℕ) → l < length from → l < length to → l < length counts →
    values (edge_held (set from l f) (set to l t) (set counts l c)) 0 (l + 1) ≡ values (edge_held from to counts) 0 l ++ (edge f t c ∷ [])
unfolding edge_held
edges_set from to counts l f t c hf ht hc =
    let g = values_same (edge_held (set from l f) (set to l t) (set counts l c)) (edge_held from to counts) 0 l
    (λ n a b. rw (
      get_or-set_other from l n f 0 (λ e. omega arith),
      get_or-set_other to l n t 0 (λ e. omega arith),
      get_or-set_other counts l n c 0 (λ e. omega arith),
    )) in
    values_more (edge_held (set from l f) (set to l t) (set counts l c)) l
    ∙ rw (g, get_or-set_same from l f 0 hf, get_or-set_same to l t 0 ht, get_or-set_same counts l c 0 hc)

-- one part of each edge as an array of a reading
abbrev column : (Edge → ℕ) → List Edge → List ℕ
column f es = padded 1024 (map f es)

-- edges laid out in the three arrays of a reading stand there
pub edges_held : (es : List Edge)
    → values (edge_held (column (λ e. e.from) es) (column (λ e. e.to) es) (column (λ e. e.count) es)) 0 (length es) ≡ es
unfolding edge_held
edges_held es = values_back (edge 0 0 0) es _ at
  where
    at : (i : ℕ) → edge_held (column (λ e. e.from) es) (column (λ e. e.to) es) (column (λ e. e.count) es) i ≡ get_or es i (edge 0 0 0)
    at i = rw (
      column_at (λ e. e.from) (edge 0 0 0) refl es i,
      column_at (λ e. e.to) (edge 0 0 0) refl es i,
      column_at (λ e. e.count) (edge 0 0 0) refl es i,
    )
