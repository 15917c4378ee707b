-- Lists by place: what stands where the rest of a list begins, in a list with one entry more, and in a padded list.
use Rattle.std.specs.Prelude.{◌≡◌, refl, List, [], ◌∷◌, ◌++◌, map, Bool, true, false, not, ℕ, zero, suc, ◌-◌, ◌≤◌, ◌<◌, T as Holds, length}
use Rattle.std.specs.Prelude.{get_or, drop, replicate}
use Rattle.std.proofs.Common.{ap, subst, ◌∙◌, arith, length-append}
use Rattle.std.proofs.lemmas.List.{length-replicate, length-map}
use Rattle.std.proofs.Math.ListN.{get_or-map, get_or-eq_default}
use Rattle.base.specs.Laws.Lists.{zeros_at}
use Rattle.base.specs.Laws.Tests.{impossible}
use Rattle.job.specs.Job.{Edge}
use Rattle.job.specs.Record.{empty, rises, above_last}
use Rattle.job.specs.Read.{padded}

-- what stands at the place where the rest of a list begins
pub at_place : (l : List ℕ) (i b : ℕ) (rest : List ℕ) → drop i l ≡ b ∷ rest → (i < length l) × (get_or l i 0 ≡ b) × (drop (suc i) l ≡ rest)
at_place [] zero b rest e = let z : false ≡ true = cc in impossible z
at_place [] (suc i) b rest e = let z : false ≡ true = cc in impossible z
at_place (x ∷ l) zero b rest e = (omega arith, cc, cc)
at_place (x ∷ l) (suc i) b rest e = let r = at_place l i b rest e in (omega arith, r.1, r.2)

-- a test that each entry passes, and one more
abbrev pub Each : {A : Type 0} → (A → Bool) → A → List A → Type 0
Each p d l = (i : ℕ) → i < length l → Holds (p (get_or l i d))

pub each_more : {A : Type 0} (p : A → Bool) (d : A) (l : List A) (a : A) → Each p d l → Holds (p a) → Each p d (l ++ (a ∷ []))
each_more p d [] a h e zero lt = e
each_more p d [] a h e (suc i) lt = let n : ⊥ = omega arith in absurd n
each_more p d (x ∷ l) a h e zero lt = h 0 (omega arith)
each_more p d (x ∷ l) a h e (suc i) lt = each_more p d l a (λ k g. h (suc k) (omega arith)) e i (omega arith)

-- edges each above the one before, and one more above the last
abbrev pub Rising : Edge → List Edge → Type 0
Rising d l = (i : ℕ) → suc i < length l → Holds (rises (get_or l i d) (get_or l (suc i) d))

pub rising_more : (d : Edge) (l : List Edge) (a : Edge) → Rising d l → Holds (above_last l a) → Rising d (l ++ (a ∷ []))
unfolding above_last
rising_more d [] a h o i lt = let n : ⊥ = omega arith in absurd n
rising_more d (x ∷ []) a h o zero lt = o
rising_more d (x ∷ []) a h o (suc i) lt = let n : ⊥ = omega arith in absurd n
rising_more d (x ∷ y ∷ l) a h o zero lt = h 0 (omega arith)
rising_more d (x ∷ y ∷ l) a h o (suc i) lt = rising_more d (y ∷ l) a (λ k g. h (suc k) (omega arith)) o i (omega arith)

-- a padded list has its length, and 0 in each place past the list
pub padded_length : (n : ℕ) (xs : List ℕ) → length xs ≤ n → length (padded n xs) ≡ n
unfolding padded
padded_length n xs h = simp (length-append, length-replicate) (omega arith)

append_zeros : (xs : List ℕ) (n i : ℕ) → get_or (xs ++ replicate n 0) i 0 ≡ get_or xs i 0
append_zeros [] n i = zeros_at n i
append_zeros (x ∷ xs) n zero = refl
append_zeros (x ∷ xs) n (suc i) = append_zeros xs n i

pub padded_at : (n : ℕ) (xs : List ℕ) (i : ℕ) → get_or (padded n xs) i 0 ≡ get_or xs i 0
unfolding padded
padded_at n xs i = append_zeros xs (n - length xs) i

-- one part of each edge, padded
module _ (f : Edge → ℕ) (d : Edge) (z : f d ≡ 0) (es : List Edge) where
  pub column_length : length es ≤ 1024 → length (padded 1024 (map f es)) ≡ 1024
  column_length h = padded_length 1024 (map f es) (rw length-map h)

  pub column_at : (i : ℕ) → get_or (padded 1024 (map f es)) i 0 ≡ f (get_or es i d)
  column_at i = padded_at 1024 (map f es) i ∙ subst (λ (x : ℕ). get_or (map f es) i x ≡ f (get_or es i d)) z (get_or-map f es i d)

  pub column_spare : (i : ℕ) → length es ≤ i → get_or (padded 1024 (map f es)) i 0 ≡ 0
  column_spare i h = column_at i ∙ ap f (get_or-eq_default es d h) ∙ z

-- a list is empty if its length is 0, and only then
pub empty_nil : {A : Type 0} (xs : List A) → Holds (empty xs) → xs ≡ []
empty_nil [] h = refl
empty_nil (x ∷ xs) h = absurd h

pub some_in : {A : Type 0} (xs : List A) → Holds (not (empty xs)) → 1 ≤ length xs
some_in [] h = absurd h
some_in (x ∷ xs) h = omega arith

pub empty_is : {A : Type 0} (xs : List A) → length xs ≡ 0 → Holds (empty xs)
empty_is [] h = tt
empty_is (x ∷ xs) h = let n : ⊥ = omega arith in absurd n

pub empty_not : {A : Type 0} (xs : List A) → (length xs ≡ 0 → ⊥) → Holds (not (empty xs))
empty_not [] h = absurd (h refl)
empty_not (x ∷ xs) h = tt
