-- Things stored one after the other are the bytes of them all: by stores that follow on each other.
use Rattle.std.specs.Prelude.{◌≡◌, ℕ, suc, ◌+◌, ◌*◌, ◌≤◌, drop, set}
use Rattle.std.proofs.Math.Path.{refl, ap}
use Rattle.std.proofs.Common.{sym, ◌∙◌, add-zero, zero-add, arith, length-append}
use mathlib.Core.List.{List, [], ◌∷◌, ◌++◌, flat_map, append-nil, append_assoc}
use Rattle.std.proofs.Math.Numerals.{unary_clauses}
use Rattle.std.proofs.Math.ListN.{length}
use Rattle.std.proofs.lemmas.List.Edits.{sets, sets-eq}
use Rattle.base.specs.Lists.{values}
use Rattle.base.specs.Laws.Values.{length-values, values_more}

pub sets-append : (l : List ℕ) (i : ℕ) (a b : List ℕ) → sets l i (a ++ b) ≡ sets (sets l i a) (i + length a) b
sets-append l i [] b = rw (add-zero i)
sets-append l i (x ∷ a) b =
    let e : suc i + length a ≡ i + suc (length a) = omega arith in
    sets-append (set l i x) (suc i) a b ∙ ap (λ (n : ℕ). sets (sets (set l i x) (suc i) a) n b) e

-- from the first place on
pub sets_front : (l vs : List ℕ) (n : ℕ) → length vs ≡ n → n ≤ length l → sets l 0 vs ≡ vs ++ drop n l
sets_front l vs n e h = sets-eq vs l 0 (omega arith) ∙ rw (zero-add (length vs), e)

module _ {A : Type 0} (g : A → List ℕ) where
  pub flat_append : (a b : List A) → flat_map g (a ++ b) ≡ flat_map g a ++ flat_map g b
  unfolding flat_map
  flat_append [] b = refl
  flat_append (x ∷ a) b = rw (flat_append a b, append_assoc (g x) (flat_map g a) (flat_map g b))

  -- things of k bytes each
  module _ (k : ℕ) (each : (a : A) → length (g a) ≡ k) where
    pub flat_size : (xs : List A) → length (flat_map g xs) ≡ k * length xs
    unfolding flat_map
    flat_size [] = simp unary_clauses
    flat_size (x ∷ xs) = rw (length-append (g x) (flat_map g xs), each x, flat_size xs) (simp unary_clauses (omega arith))

    -- one thing more
    pub store_more : (f : ℕ → A) (l l' l'' : List ℕ) (at i : ℕ) → l' ≡ sets l at (flat_map g (values f 0 i)) →
        l'' ≡ sets l' (at + k * i) (g (f i)) → l'' ≡ sets l at (flat_map g (values f 0 (i + 1)))
    unfolding flat_map
    store_more f l l' l'' at i e h =
        let s : length (flat_map g (values f 0 i)) ≡ k * i = flat_size (values f 0 i) ∙ ap (λ (n : ℕ). k * n) (length-values f 0 i) in
        h ∙ rw (e, ← s, ← sets-append l at (flat_map g (values f 0 i)) (g (f i)))
        (ap (sets l at) (sym (ap (flat_map g) (values_more f i) ∙ flat_append (values f 0 i) (f i ∷ [])
        ∙ ap (λ (b : List ℕ). flat_map g (values f 0 i) ++ b) (append-nil (g (f i))))))
