-- Where a cell stands on a page: a store there is a store to that cell, and nothing else of the page changes.
use Rattle.std.specs.Prelude.{Bool, not, ◌&&◌, ◌⊎◌, ◌≡◌, refl, ℕ, zero, suc, ◌+◌, ◌*◌, ◌≤◌, ◌<◌, leb, ltb, eqb, T as Holds, length, get_or}
use Rattle.std.specs.Prelude.{drop, set, replicate}
use Rattle.std.proofs.Common.{inl, inr, ⊎_elim, ap, sym, ◌∙◌, zero-add, arith, leb→le, le→leb, ltb→lt, lt→ltb, eqb→eq, length-append}
use Rattle.std.proofs.Common.{length-set, get_or-append-add, get_or-set_same, get_or-set_other, ext_get_or, drop_at}
use mathlib.Core.List.{List, [], ◌∷◌, ◌++◌, map, flat_map, append-nil}
use Rattle.std.proofs.Math.ListN.{get_or-append}
use Rattle.std.proofs.lemmas.List.Edits.{sets}
use Rattle.std.proofs.lemmas.List.{set-append_left}
use Rattle.base.specs.Choice.{pick}
use Rattle.base.specs.Lists.{upto}
use Rattle.base.specs.Text.{text}
use Rattle.base.specs.Laws.Tests.{either, not_both, fails, both, parts, pick_yes, pick_no, eq→eqb, same_or_not, lt_or_ge}
use Rattle.base.specs.Laws.Lists.{upto_of, length-upto, map_same, flat_map_same, map-upto_at, map-upto-length}
use Rattle.base.specs.Laws.Stored.{flat_append, flat_size}
use Rattle.gantt.specs.Page.{cells, columns, row, rows}

-- ---- sizes

pub row_size : (cell : ℕ → ℕ) (P : ℕ) → length (row cell P) ≡ 70
unfolding row columns text
row_size cell P =
    ap (λ (n : ℕ). suc (suc (suc (suc n))))
    (length-append (map cell (upto cells)) (text "|\n") ∙ ap (λ (n : ℕ). n + 2) (map-upto-length cell cells))

pub rows_size : (cell : ℕ → ℕ → ℕ) (n : ℕ) → length (rows cell n) ≡ 70 * n
unfolding rows
rows_size cell n = flat_size (λ P. row (cell P) P) 70 (λ P. row_size (cell P) P) (upto n) ∙ ap (λ (k : ℕ). 70 * k) (length-upto n)

-- what stands at the front of a buffer, and the rest of it
pub rows_front : (cell : ℕ → ℕ → ℕ) (n : ℕ) (out rest : List ℕ) → out ≡ rows cell n ++ rest → out ≡ rows cell n ++ drop (70 * n) out
rows_front cell n out rest e =
    e ∙ ap (λ (l : List ℕ). rows cell n ++ l) (sym (ap (drop (70 * n)) e ∙ drop_at (rows cell n) rest (70 * n) (rows_size cell n)))

-- ---- pages with the same cells are the same

pub row_same : (c d : ℕ → ℕ) (P : ℕ) → ((j : ℕ) → j < cells → c j ≡ d j) → row c P ≡ row d P
unfolding row
row_same c d P h = rw (map_same c d (upto cells) (λ j k. h j (upto_of cells j k)))

pub rows_same : (c d : ℕ → ℕ → ℕ) (n : ℕ) → ((P j : ℕ) → P < n → j < cells → c P j ≡ d P j) → rows c n ≡ rows d n
unfolding rows
rows_same c d n h =
    flat_map_same (λ P. row (c P) P) (λ P. row (d P) P) (upto n) (λ P k. row_same (c P) (d P) P (λ j l. h P j (upto_of n P k) l))

-- ---- what stands at a cell

row_at : (f : ℕ → ℕ) (P j : ℕ) → j < cells → get_or (row f P) (4 + j) 0 ≡ f j
unfolding row columns text
row_at f P j h =
    let e : 4 + j ≡ suc (suc (suc (suc j))) = omega arith in
    rw e (get_or-append (map f (upto cells)) (text "|\n") 0 j (omega (arith, map-upto-length f cells)) ∙ map-upto_at f cells j 0 h)

-- ---- a store to a cell

-- past what stands before
set_right : (s t : List ℕ) (i v : ℕ) → set (s ++ t) (length s + i) v ≡ s ++ set t i v
set_right [] t i v = rw (zero-add i)
set_right (x ∷ s) t i v =
    let e : suc (length s) + i ≡ suc (length s + i) = omega arith in rw e (ap (λ (l : List ℕ). x ∷ l) (set_right s t i v))

-- in a numbered row
set-map : (f g : ℕ → ℕ) (k i v : ℕ) → i < k → g i ≡ v → ((j : ℕ) → ¬ (j ≡ i) → g j ≡ f j) → set (map f (upto k)) i v ≡ map g (upto k)
set-map f g k i v h at other =
    ext_get_or 0 (set (map f (upto k)) i v) (map g (upto k)) (size ∙ sym (map-upto-length g k))
    (λ j l. go j (omega (arith, size, l)) (same_or_not j i))
  where
    size : length (set (map f (upto k)) i v) ≡ k
    size = length-set (map f (upto k)) i v ∙ map-upto-length f k

    go : (j : ℕ) → j < k → (j ≡ i) ⊎ (j ≡ i → ⊥) → get_or (set (map f (upto k)) i v) j 0 ≡ get_or (map g (upto k)) j 0
    go j l (inl e) =
        rw e (get_or-set_same (map f (upto k)) i v 0 (omega (arith, map-upto-length f k))) ∙ sym (map-upto_at g k j 0 l ∙ ap g e ∙ at)
    go j l (inr n) =
        get_or-set_other (map f (upto k)) i j v 0 n ∙ map-upto_at f k j 0 l ∙ sym (map-upto_at g k j 0 l ∙ other j n)

-- of a row
set_row : (f g : ℕ → ℕ) (P i v : ℕ) → i < cells → g i ≡ v → ((j : ℕ) → ¬ (j ≡ i) → g j ≡ f j) → set (row f P) (4 + i) v ≡ row g P
unfolding row columns text
set_row f g P i v h at other =
    let e : 4 + i ≡ suc (suc (suc (suc i))) = omega arith in
    rw (e, set-append_left (map f (upto cells)) (text "|\n") i v (omega (arith, map-upto-length f cells)), set-map f g cells i v h at other)

-- a number below that is not the last
ne_lt : (P n : ℕ) → P < suc n → (P ≡ n → ⊥) → P < n
ne_lt P n h z = ⊎_elim (λ k. k) (λ k. absurd (z (omega arith))) (lt_or_ge P n)

-- one row more
pub rows_more : (c : ℕ → ℕ → ℕ) (n : ℕ) → rows c (suc n) ≡ rows c n ++ row (c n) n
unfolding rows upto flat_map
rows_more c n =
    flat_append (λ P. row (c P) P) (upto n) (n ∷ []) ∙ ap (λ (l : List ℕ). rows c n ++ l) (append-nil (row (c n) n))

pub rows_at : (c : ℕ → ℕ → ℕ) (n P j : ℕ) → P < n → j < cells → get_or (rows c n) (70 * P + (4 + j)) 0 ≡ c P j
rows_at c zero P j p h = absurd (omega arith)
rows_at c (suc n) P j p h = go (same_or_not P n) (λ q. rows_at c n P j q h)
  where
    go : (P ≡ n) ⊎ (P ≡ n → ⊥) → (P < n → get_or (rows c n) (70 * P + (4 + j)) 0 ≡ c P j)
        → get_or (rows c (suc n)) (70 * P + (4 + j)) 0 ≡ c P j
    go (inl e) r =
        let q : 70 * P + (4 + j) ≡ length (rows c n) + (4 + j) = omega (arith, rows_size c n) in
        rw (rows_more c n, q) (get_or-append-add (rows c n) (row (c n) n) (4 + j) 0)
        ∙ row_at (c n) n j h ∙ ap (λ (Q : ℕ). c Q j) (sym e)
    go (inr z) r =
        let k : 70 * P + (4 + j) < length (rows c n) = omega (arith, rows_size c n, ne_lt P n p z) in
        rw (rows_more c n) (get_or-append (rows c n) (row (c n) n) 0 (70 * P + (4 + j)) k) ∙ r (ne_lt P n p z)

module _ (c d : ℕ → ℕ → ℕ) (P i v : ℕ) (h : i < cells) (at : d P i ≡ v) (other : (Q j : ℕ) → ¬ ((Q ≡ P) × (j ≡ i)) → d Q j ≡ c Q j) where
  -- of the rows
  set_rows : (n : ℕ) → P < n → set (rows c n) (70 * P + (4 + i)) v ≡ rows d n
  set_rows zero p = absurd (omega arith)
  set_rows (suc n) p = go (same_or_not P n) (set_rows n)
    where
      go : (P ≡ n) ⊎ (P ≡ n → ⊥) → (P < n → set (rows c n) (70 * P + (4 + i)) v ≡ rows d n)
          → set (rows c (suc n)) (70 * P + (4 + i)) v ≡ rows d (suc n)
      go (inl e) r =
          let q : 70 * P + (4 + i) ≡ length (rows c n) + (4 + i) = omega (arith, rows_size c n) in
          let before = rows_same c d n (λ Q j a b. sym (other Q j (λ z. omega (arith, z.0)))) in
          let last = set_row (c n) (d n) n i v h (ap (λ (Q : ℕ). d Q i) (sym e) ∙ at) (λ j z. other n j (λ w. z w.1)) in
          rw (rows_more c n, q, set_right (rows c n) (row (c n) n) (4 + i) v, last, before, rows_more d n)
      go (inr z) r =
          let k : 70 * P + (4 + i) < length (rows c n) = omega (arith, rows_size c n, lower) in
          let last = row_same (c n) (d n) n (λ j b. sym (other n j (λ w. z (sym w.0)))) in
          rw (rows_more c n, set-append_left (rows c n) (row (c n) n) (70 * P + (4 + i)) v k, r lower, last, rows_more d n)
        where
          lower : P < n
          lower = ne_lt P n p z

  -- of a page with something behind it
  pub set_cell : (n : ℕ) (rest : List ℕ) → P < n → set (rows c n ++ rest) (70 * P + (4 + i)) v ≡ rows d n ++ rest
  set_cell n rest p =
      set-append_left (rows c n) rest (70 * P + (4 + i)) v (omega (arith, rows_size c n)) ∙ ap (λ (l : List ℕ). l ++ rest) (set_rows n p)

-- ---- a run of cells

-- cell j of processor Q is one of the cells a to b - 1 of processor P
abbrev pub hit : ℕ → ℕ → ℕ → ℕ → ℕ → Bool
hit P a b Q j = eqb P Q && (leb a j && ltb j b)

hit_of : (P a b Q j : ℕ) → Holds (hit P a b Q j) → (Q ≡ P) × (a ≤ j) × (j < b)
hit_of P a b Q j h =
    let t = parts (eqb P Q) (leb a j && ltb j b) h in
    let s = parts (leb a j) (ltb j b) t.1 in
    (sym (eqb→eq P Q t.0), leb→le a j s.0, ltb→lt j b s.1)

hit_in : (P a b Q j : ℕ) → Q ≡ P → a ≤ j → j < b → Holds (hit P a b Q j)
hit_in P a b Q j e h k =
    both (eqb P Q) (leb a j && ltb j b) (eq→eqb P Q (sym e)) (both (leb a j) (ltb j b) (le→leb a j h) (lt→ltb j b k))

-- these hold v, the others what they held
unfoldable pub filled_cells : (ℕ → ℕ → ℕ) → ℕ → ℕ → ℕ → ℕ → ℕ → ℕ → ℕ
filled_cells c P a b v Q j = pick (hit P a b Q j) v (c Q j)

-- none of them
filled_none : (c : ℕ → ℕ → ℕ) (P a v Q j : ℕ) → filled_cells c P a a v Q j ≡ c Q j
unfolding filled_cells
filled_none c P a v Q j = pick_no (hit P a a Q j) v (c Q j) (fails (hit P a a Q j) (λ h. let t = hit_of P a a Q j h in omega arith))

-- the first of them
filled_first : (c : ℕ → ℕ → ℕ) (P a v : ℕ) → filled_cells c P a (suc a) v P a ≡ v
unfolding filled_cells
filled_first c P a v = pick_yes (hit P a (suc a) P a) v (c P a) (hit_in P a (suc a) P a refl (omega arith) (omega arith))

filled_other : (c : ℕ → ℕ → ℕ) (P a v Q j : ℕ) → ¬ ((Q ≡ P) × (j ≡ a)) → filled_cells c P a (suc a) v Q j ≡ c Q j
unfolding filled_cells
filled_other c P a v Q j z =
    pick_no (hit P a (suc a) Q j) v (c Q j)
    (fails (hit P a (suc a) Q j) (λ h. let t = hit_of P a (suc a) Q j h in z (t.0, omega (arith, t.1, t.2))))

-- the first and the others
filled_then : (c : ℕ → ℕ → ℕ) (P a b v Q j : ℕ) → a < b
    → filled_cells (filled_cells c P a (suc a) v) P (suc a) b v Q j ≡ filled_cells c P a b v Q j
unfolding filled_cells
filled_then c P a b v Q j h = go (either (hit P (suc a) b Q j)) (either (hit P a (suc a) Q j))
  where
    goal : Type 0
    goal = pick (hit P (suc a) b Q j) v (pick (hit P a (suc a) Q j) v (c Q j)) ≡ pick (hit P a b Q j) v (c Q j)

    yes : Holds (hit P a b Q j) → pick (hit P a b Q j) v (c Q j) ≡ v
    yes t = pick_yes (hit P a b Q j) v (c Q j) t

    go : Holds (hit P (suc a) b Q j) ⊎ Holds (not (hit P (suc a) b Q j))
        → Holds (hit P a (suc a) Q j) ⊎ Holds (not (hit P a (suc a) Q j)) → goal
    go (inl t) _ =
        let s = hit_of P (suc a) b Q j t in
        pick_yes (hit P (suc a) b Q j) v _ t ∙ sym (yes (hit_in P a b Q j s.0 (omega (arith, s.1)) s.2))
    go (inr t) (inl u) =
        let s = hit_of P a (suc a) Q j u in
        pick_no (hit P (suc a) b Q j) v _ t
        ∙ (pick_yes (hit P a (suc a) Q j) v (c Q j) u ∙ sym (yes (hit_in P a b Q j s.0 s.1 (omega (arith, s.2)))))
    go (inr t) (inr u) =
        pick_no (hit P (suc a) b Q j) v _ t
        ∙ (pick_no (hit P a (suc a) Q j) v (c Q j) u
        ∙ sym (pick_no (hit P a b Q j) v (c Q j) (fails (hit P a b Q j) (λ w. neither w (lt_or_ge a j)))))
      where
        neither : Holds (hit P a b Q j) → (a < j) ⊎ (j ≤ a) → ⊥
        neither w (inl k) =
            let s = hit_of P a b Q j w in not_both (hit P (suc a) b Q j) t (hit_in P (suc a) b Q j s.0 (omega arith) s.2)
        neither w (inr k) =
            let s = hit_of P a b Q j w in not_both (hit P a (suc a) Q j) u (hit_in P a (suc a) Q j s.0 s.1 (omega arith))

pub fill_cells : (c : ℕ → ℕ → ℕ) (n : ℕ) (rest : List ℕ) (P a k v : ℕ) → P < n → a + k ≤ cells
    → sets (rows c n ++ rest) (70 * P + (4 + a)) (replicate k v) ≡ rows (filled_cells c P a (a + k) v) n ++ rest
fill_cells c n rest P a zero v p h =
    let e : a + 0 ≡ a = omega arith in
    ap (λ (l : List ℕ). l ++ rest) (rows_same c (filled_cells c P a (a + 0) v) n (λ Q j _ _. sym (rw e (filled_none c P a v Q j))))
fill_cells c n rest P a (suc k) v p h =
    let one = set_cell c (filled_cells c P a (suc a) v) P a v (omega arith) (filled_first c P a v) (filled_other c P a v) n rest p in
    let e : suc (70 * P + (4 + a)) ≡ 70 * P + (4 + suc a) = omega arith in
    let s : suc a + k ≡ a + suc k = omega arith in
    let more = fill_cells (filled_cells c P a (suc a) v) n rest P (suc a) k v p (omega arith) in
    ap (λ (l : List ℕ). sets l (suc (70 * P + (4 + a))) (replicate k v)) one
    ∙ ap (λ (x : ℕ). sets (rows (filled_cells c P a (suc a) v) n ++ rest) x (replicate k v)) e
    ∙ more
    ∙ ap (λ (l : List ℕ). l ++ rest)
    (rows_same (filled_cells (filled_cells c P a (suc a) v) P (suc a) (suc a + k) v) (filled_cells c P a (a + suc k) v) n
    (λ Q j _ _. rw s (filled_then c P a (a + suc k) v Q j (omega arith))))
