-- One record: what the judgement of it comes to, for any kind; and that a job's misfit comes with its condition.
use Rattle.std.specs.Prelude.{Bool, true, false, not, ◌≡◌, refl, List, [], ◌∷◌, ℕ, zero, suc, ◌+◌, ◌<◌, ◌≤◌, T as Holds, length, get_or}
use Rattle.std.specs.Prelude.{drop}
use Rattle.std.proofs.Common.{ap, ◌∙◌, arith, drop_of_length-le, length-drop, drop-cons, drop-drop}
use Rattle.std.proofs.Math.Option.{some}
use borrow.Author.Tests.{lt-ltb, le-ltb}
use Rattle.base.specs.Choice.{pick}
use Rattle.base.specs.Laws.Tests.{is_true, is_not, when_false}
use Rattle.job.specs.Job.{Job}
use Rattle.job.specs.Record.{Kind, rack, step, link, end, wire, result, kind_of, body_length, empty, stands, full, in_range, edge_in}
use Rattle.job.specs.Record.{wire_in, result_in, joins, above_last, pairs_due, is_due, too_early_number, may_deliver, misfit, added}
use Rattle.job.specs.Read.{Answer, refused, refused_or, after, judged, records}
use Rattle.job.specs.Cause.{Cause, bad_ends, not_above, not_due, too_early, not_deliverable}
use Rattle.job.specs.declared.table.Refusal.{Refusal}
use Rattle.job.specs.Table.{number_of, is_trouble}
use Rattle.job.specs.Pass.{first_of}

-- the bytes of a judged body are passed over
pub skip : (xs : List ℕ) (k : ℕ) (j : Job) → records xs k j ≡ records (drop k xs) 0 j
unfolding records
skip [] zero j = refl
skip [] (suc k) j = refl
skip (b ∷ xs) zero j = refl
skip (b ∷ xs) (suc k) j = skip xs k j

-- a record is judged by what stands at its place
pub at_record : (file : List ℕ) (at : ℕ) (j : Job) → at < length file →
    records (drop at file) 0 j ≡ judged (kind_of (get_or file at 0)) (drop (suc at) file) j (records (drop (suc at) file))
unfolding records
at_record file at j h = rw (drop-cons file at 0 h)

-- no record where one is due
pub at-end : (file : List ℕ) (at : ℕ) (j : Job) → length file ≤ at → records (drop at file) 0 j ≡ refused 1
unfolding records
at-end file at j h = rw (drop_of_length-le file h)

pub passes : (n : ℕ) (a : Answer) → n ≡ 0 → refused_or n a ≡ a
passes zero a h = refl
passes (suc n) a h = let z : ⊥ = omega arith in absurd z

pub stops : (n : ℕ) (a : Answer) → (n ≡ 0 → ⊥) → refused_or n a ≡ refused n
stops zero a h = absurd (h refl)
stops (suc n) a h = refl

-- past a trouble's number only where there is none
pub under : (n : ℕ) (x y : Answer) → (n ≡ 0 → x ≡ y) → refused_or n x ≡ refused_or n y
under zero x y h = h refl
under (suc n) x y h = refl

-- the first of two troubles
pub first_some : (a b : ℕ) → (a ≡ 0 → ⊥) → first_of a b ≡ a
first_some zero b h = absurd (h refl)
first_some (suc a) b h = refl

pub first_none : (a b : ℕ) → a ≡ 0 → first_of a b ≡ b
first_none zero b h = refl
first_none (suc a) b h = let z : ⊥ = omega arith in absurd z

-- a value that was judged by itself: out of its range, and in its range with what is judged after it
pub ranged_out : (t : Bool) {n : ℕ} (x : ℕ) → n ≡ pick (not t) 4 0 → (n ≡ 0 → ⊥) → n ≡ pick (not t) 4 x
ranged_out true x e d = absurd (d e)
ranged_out false x e d = e

pub ranged_in : (t : Bool) {n y : ℕ} (x : ℕ) → n ≡ pick (not t) 4 0 → n ≡ 0 → y ≡ x → y ≡ pick (not t) 4 x
ranged_in true x e z d = d
ranged_in false x e z d = let n : ⊥ = omega arith in absurd n

-- the same of what was judged
pub ranged_err : (t : Bool) (e : Refusal) (x : ℕ) → number_of e ≡ pick (not t) 4 0 → number_of e ≡ pick (not t) 4 x
ranged_err t e x h = ranged_out t x h (is_trouble e)

pub ranged_ok : (t : Bool) (n y x : ℕ) → n ≡ pick (not t) 4 0 → n ≡ 0 → y ≡ x → y ≡ pick (not t) 4 x
ranged_ok t n y x h z d = ranged_in t x h z d

-- the trouble of a record that is whole: 4, its misfit, or 0
abbrev pub trouble : Job → Kind → List ℕ → ℕ
trouble j k rest = pick (not (in_range k rest)) 4 (misfit j k rest)

module _ (k : Kind) (rest : List ℕ) (j : Job) (more : ℕ → Job → Answer) where
  pub misplaced : Holds (not (stands j k)) → judged (some k) rest j more ≡ refused 3
  unfolding judged
  misplaced s = simp (is_not (stands j k) s)

  pub crowded : Holds (stands j k) → Holds (full j k) → judged (some k) rest j more ≡ refused 5
  unfolding judged
  crowded s f = simp (is_true (stands j k) s, is_true (full j k) f)

  pub short : Holds (stands j k) → Holds (not (full j k)) → length rest < body_length k → judged (some k) rest j more ≡ refused 1
  unfolding judged
  short s f h = simp (is_true (stands j k) s, is_not (full j k) f, lt-ltb _ _ h)

  ranged : (b : Bool) → pick (not b) (refused 4) (refused_or (misfit j k rest) (after k rest j more)) ≡
      refused_or (pick (not b) 4 (misfit j k rest)) (after k rest j more)
  ranged true = refl
  ranged false = refl

  pub whole : Holds (stands j k) → Holds (not (full j k)) → body_length k ≤ length rest →
      judged (some k) rest j more ≡ refused_or (trouble j k rest) (after k rest j more)
  unfolding judged
  whole s f h = simp (is_true (stands j k) s, is_not (full j k) f, le-ltb _ _ h) (ranged (in_range k rest))

-- after a record without trouble that has a body, what is left to judge stands past the body
pub passed : (k : Kind) (rest : List ℕ) (j : Job) (more : ℕ → Job → Answer) → 1 ≤ body_length k →
    after k rest j more ≡ more (body_length k) (added j k rest)
unfolding after body_length
passed rack rest j more h = refl
passed step rest j more h = refl
passed link rest j more h = refl
passed wire rest j more h = refl
passed result rest j more h = refl
passed end rest j more h = let n : ⊥ = omega arith in absurd n

-- the record at a place of a file, where its kind may stand
module _ (file : List ℕ) (at : ℕ) (j : Job) (k : Kind) (h : at < length file) (is : kind_of (get_or file at 0) ≡ some k)
    (s : Holds (stands j k)) where
  judged_there : records (drop at file) 0 j ≡ judged (some k) (drop (suc at) file) j (records (drop (suc at) file))
  judged_there = at_record file at j h ∙ rw is

  pub crowded_at : Holds (full j k) → records (drop at file) 0 j ≡ refused 5
  crowded_at f = judged_there ∙ crowded k (drop (suc at) file) j (records (drop (suc at) file)) s f

  pub short_at : Holds (not (full j k)) → length file < at + suc (body_length k) → records (drop at file) 0 j ≡ refused 1
  short_at f l = judged_there ∙ short k (drop (suc at) file) j (records (drop (suc at) file)) s f (simp length-drop (omega arith))

  pub whole_at : Holds (not (full j k)) → 1 ≤ body_length k → at + suc (body_length k) ≤ length file →
      records (drop at file) 0 j
      ≡ refused_or (trouble j k (drop (suc at) file)) (records (drop (at + suc (body_length k)) file) 0 (added j k (drop (suc at) file)))
  whole_at f b l =
      let rest : List ℕ = drop (suc at) file in
      let e : suc at + body_length k ≡ at + suc (body_length k) = omega arith in
      judged_there ∙ whole k rest j (records rest) s f (simp length-drop (omega arith))
      ∙ ap (refused_or (trouble j k rest)) (passed k rest j (records rest) b ∙ skip rest (body_length k) (added j k rest)
      ∙ ap (λ (l : List ℕ). records l 0 (added j k rest)) (drop-drop (body_length k) (suc at) file ∙ ap (λ (n : ℕ). drop n file) e))

-- a link without misfit joins tasks and stands above the last; a misfit has its cause
misfit_none : (a b : Bool) → ◌≡◌ {A = ℕ} (pick (not a) 6 (pick (not b) 7 0)) 0 → Holds a × Holds b
misfit_none true true e = (tt, tt)
misfit_none true false e = let n : ⊥ = omega arith in absurd n
misfit_none false b e = let n : ⊥ = omega arith in absurd n

pub link_fits : (j : Job) (rest : List ℕ) → misfit j link rest ≡ 0 →
    Holds (joins (length j.tasks) (edge_in rest)) × Holds (above_last j.edges (edge_in rest))
unfolding misfit
link_fits j rest e = misfit_none (joins (length j.tasks) (edge_in rest)) (above_last j.edges (edge_in rest)) e

-- the misfit of a wire, of a step that comes too early or of a result: one number where the test fails
one_misfit : (n : ℕ) (t : Bool) → ◌≡◌ {A = ℕ} (pick (not t) (suc n) 0) 0 → Holds t
one_misfit n true e = tt
one_misfit n false e = let z : ⊥ = omega arith in absurd z

pub wire_fits : (j : Job) (rest : List ℕ) → misfit j wire rest ≡ 0 → Holds (is_due (pairs_due j) (wire_in rest))
unfolding misfit
wire_fits j rest e = one_misfit 13 (is_due (pairs_due j) (wire_in rest)) e

pub result_fits : (j : Job) (rest : List ℕ) → misfit j result rest ≡ 0 → Holds (may_deliver j (result_in rest).task)
unfolding misfit
result_fits j rest e = one_misfit 14 (may_deliver j (result_in rest).task) e

pub in_time : (j : Job) → too_early_number j ≡ 0 → Holds (empty (pairs_due j))
unfolding too_early_number
in_time j e = one_misfit 13 (empty (pairs_due j)) e

pub misfit_cause : (j : Job) (k : Kind) (rest : List ℕ) (n : ℕ) → misfit j k rest ≡ suc n → Cause rest j (some k) (suc n)
unfolding misfit too_early_number
misfit_cause j rack rest n e = let z : ⊥ = omega arith in absurd z
misfit_cause j step rest n e = go (empty (pairs_due j)) refl e
  where
    go : (t : Bool) → empty (pairs_due j) ≡ t → pick (not t) 14 0 ≡ suc n → Cause rest j (some step) (suc n)
    go false h q = rw (← q) (too_early (when_false h))
    go true h q = let z : ⊥ = omega arith in absurd z
misfit_cause j wire rest n e = go (is_due (pairs_due j) (wire_in rest)) refl e
  where
    go : (t : Bool) → is_due (pairs_due j) (wire_in rest) ≡ t → pick (not t) 14 0 ≡ suc n → Cause rest j (some wire) (suc n)
    go false h q = rw (← q) (not_due (when_false h))
    go true h q = let z : ⊥ = omega arith in absurd z
misfit_cause j result rest n e = go (may_deliver j (result_in rest).task) refl e
  where
    go : (t : Bool) → may_deliver j (result_in rest).task ≡ t → pick (not t) 15 0 ≡ suc n → Cause rest j (some result) (suc n)
    go false h q = rw (← q) (not_deliverable (when_false h))
    go true h q = let z : ⊥ = omega arith in absurd z
misfit_cause j end rest n e = let z : ⊥ = omega arith in absurd z
misfit_cause j link rest n e = go (joins (length j.tasks) (edge_in rest)) (above_last j.edges (edge_in rest)) refl refl e
  where
    go : (a b : Bool) → joins (length j.tasks) (edge_in rest) ≡ a → above_last j.edges (edge_in rest) ≡ b →
        pick (not a) 6 (pick (not b) 7 0) ≡ suc n → Cause rest j (some link) (suc n)
    go false b ha hb q = rw (← q) (bad_ends (when_false ha))
    go true false ha hb q = rw (← q) (not_above (when_false hb))
    go true true ha hb q = let z : ⊥ = omega arith in absurd z
