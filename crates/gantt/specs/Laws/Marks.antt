-- The cells of a page, task by task: one task more marks the cells in which it runs.
use Rattle.std.specs.Prelude.{Bool, true, false, ◌||◌, ◌≡◌, List, [], ◌∷◌, ◌++◌, ℕ, ◌+◌, ◌-◌, ◌*◌, ◌/◌, ◌^◌, ◌≤◌, ◌<◌, get_or, replicate}
use Rattle.std.proofs.Math.Path.{refl}
use Rattle.std.proofs.Common.{ap, ◌∙◌, le-div_iff_mul-le, div-mul-le_self, div-le_self, add-one, arith}
use Rattle.std.proofs.lemmas.List.Edits.{sets}
use Rattle.base.specs.Choice.{pick}
use Rattle.base.specs.Lists.{upto, any}
use Rattle.gantt.specs.Page.{cells, mark, dot, rows}
use Rattle.gantt.specs.Pass.{Drawable, marks, cells_by}
use Rattle.gantt.specs.Laws.Cells.{first_cell, past_cell, in_cells, in_order, last_within}
use Rattle.gantt.specs.Laws.Layout.{rows_same, hit, filled_cells, fill_cells}

-- one member more at the end
any_last : {A : Type 0} (p : A → Bool) (l : List A) (a : A) → any p (l ++ (a ∷ [])) ≡ p a || any p l
unfolding any
any_last p [] a = refl
any_last p (x ∷ l) a = ap (λ (b : Bool). p x || b) (any_last p l a) ∙ go (p x) (p a) (any p l)
  where
    go : (x y z : Bool) → (x || (y || z)) ≡ (y || (x || z))
    go true true z = refl
    go true false z = refl
    go false y z = refl

-- a mark by one test or the other
pick_or : (a b : Bool) (x y : ℕ) → pick a x (pick b x y) ≡ pick (a || b) x y
pick_or true b x y = refl
pick_or false b x y = refl

module _ (w : ℕ) (durations starts processors : List ℕ) where
  -- the cells by one task more
  abbrev by : ℕ → ℕ → ℕ → ℕ
  by = cells_by w durations starts processors

  pub cells_more : (t s d P : ℕ) → s ≡ get_or starts t 0 → d ≡ get_or durations t 0 → P ≡ get_or processors t 0
      → (wide : 0 < w) (time : 1 ≤ d)
      → (Q j : ℕ) → filled_cells (by t) P (first_cell s d w wide time) (past_cell s d w wide time) mark Q j ≡ by (t + 1) Q j
  unfolding filled_cells cells_by marks upto
  cells_more t s d P s-is d-is P-is wide time Q j =
      rw (add-one t, any_last (marks w durations starts processors Q j) (upto t) t, ← s-is, ← d-is, ← P-is, ← in_cells s d w wide time j)
      (pick_or (hit P (first_cell s d w wide time) (past_cell s d w wide time) Q j) (any (marks w durations starts processors Q j) (upto t))
      mark dot)

  -- no task yet
  pub cells_none : (n : ℕ) → rows (λ P j. dot) n ≡ rows (by 0) n
  unfolding cells_by upto any
  cells_none n = refl

  -- a run of marks put
  pub marked_more : (n : ℕ) (rest out out' : List ℕ) (t at count s d P : ℕ)
      → s ≡ get_or starts t 0 → d ≡ get_or durations t 0 → P ≡ get_or processors t 0 → 0 < w → 1 ≤ d → s + d ≤ cells * w → P < n
      → at ≡ 70 * P + 4 + s / w → count ≡ (s + d - 1) / w - s / w + 1
      → out ≡ rows (by t) n ++ rest → out' ≡ sets out at (replicate count mark) → out' ≡ rows (by (t + 1)) n ++ rest
  marked_more n rest out out' t at count s d P s-is d-is P-is wide time in_time below at_is count_is before put =
      let e : at ≡ 70 * P + (4 + s / w) = omega arith in
      put
      ∙ ap (λ (l : List ℕ). sets l at (replicate count mark)) before
      ∙ ap (λ (x : ℕ). sets (rows (by t) n ++ rest) x (replicate count mark)) e
      ∙ ap (λ (x : ℕ). sets (rows (by t) n ++ rest) (70 * P + (4 + s / w)) (replicate x mark)) count_is
      ∙ fill_cells (by t) n rest P (s / w) ((s + d - 1) / w - s / w + 1) mark below
      (omega (arith, last_within s d w wide time cells in_time, in_order s d w wide time))
      ∙ ap (λ (l : List ℕ). l ++ rest)
      (rows_same (filled_cells (by t) P (s / w) (past_cell s d w wide time) mark) (by (t + 1)) n
      (λ Q j _ _. cells_more t s d P s-is d-is P-is wide time Q j))

-- a later tick is in no earlier cell, and how far they are apart fits
pub cells_rise : (s x w : ℕ) → 0 < w → s ≤ x → s / w ≤ x / w
cells_rise s x w wide h = (le-div_iff_mul-le wide).1 (omega (arith, div-mul-le_self s w))

pub cells_fit : (x s w : ℕ) → x < 2 ^ 32 → x / w - s / w < 2 ^ 64
cells_fit x s w h = omega (arith, div-le_self x w)

pub count_fits : (x s w : ℕ) → x < 2 ^ 32 → x / w - s / w + 1 < 2 ^ 64
count_fits x s w h = omega (arith, div-le_self x w)

-- what a turn needs to know of task t's numbers: s its start, d its duration, P its processor
pub record Turn (n w s d P : ℕ) : Type 0 where
  pub wide : 0 < w
  pub time : 1 ≤ d
  pub in_time : s + d ≤ cells * w
  pub small : s + d < 2 ^ 32
  pub below : P < n
  pub order : s / w ≤ (s + d - 1) / w
  pub within : (s + d - 1) / w < cells

pub turn : (n tasks w : ℕ) (durations starts processors : List ℕ) → Drawable n tasks w durations starts processors → (t : ℕ) → t < tasks
    → Turn n w (get_or starts t 0) (get_or durations t 0) (get_or processors t 0)
turn n tasks w durations starts processors F t h =
    let time = F.takes_time t h in
    let in_time = F.in_time t h in
    let wide : 0 < w = omega arith in
    record {
      wide = wide;
      time = time;
      in_time = in_time;
      small = omega (arith, in_time, F.small);
      below = F.on_processor t h;
      order = in_order (get_or starts t 0) (get_or durations t 0) w wide time;
      within = last_within (get_or starts t 0) (get_or durations t 0) w wide time cells in_time;
    }
