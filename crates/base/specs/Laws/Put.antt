-- Bytes put one after the other are the bytes of them all.
use Rattle.std.specs.Prelude.{refl, ℕ, ◌+◌, set}
use Rattle.std.proofs.Common.{◌∙◌, arith, length-append}
use mathlib.Core.List.{List, [], ◌∷◌, ◌++◌, flat_map, append-nil}
use Rattle.base.specs.Lists.{values}
use Rattle.base.specs.Slices.{Put}
use Rattle.base.specs.Laws.Stored.{sets-append, flat_append}
use Rattle.base.specs.Laws.Values.{values_more}

pub put_then : {l l' l'' : List ℕ} {a b c : ℕ} {s t : List ℕ} → Put l l' a b s → Put l' l'' b c t → Put l l'' a c (s ++ t)
put_then {l} {l'} {l''} {a} {b} {c} {s} {t} p q = record {
  stored = q.stored ∙ rw (p.stored, p.past, ← sets-append l a s t);
  past = omega (arith, p.past, q.past, length-append s t);
}

pub put_none : (l : List ℕ) (a : ℕ) → Put l l a a []
put_none l a = record { stored = refl; past = omega arith }

-- the bytes of one thing more
pub put_more : {A : Type 0} (g : A → List ℕ) (f : ℕ → A) (i : ℕ) {l l' l'' : List ℕ} {a b c : ℕ} →
    Put l l' a b (flat_map g (values f 0 i)) → Put l' l'' b c (g (f i)) → Put l l'' a c (flat_map g (values f 0 (i + 1)))
unfolding flat_map
put_more g f i p q = rw (values_more f i, flat_append g (values f 0 i) (f i ∷ []), append-nil (g (f i))) (put_then p q)

-- one byte after a text
pub put_byte : {l l' : List ℕ} {a b : ℕ} {s : List ℕ} (x : ℕ) → Put l l' a b s → Put l (set l' b x) a (b + 1) (s ++ (x ∷ []))
put_byte x p = put_then p (record { stored = refl; past = refl })
