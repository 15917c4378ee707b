-- What it means that a test passes, and how a test's answer is used.
use Rattle.std.specs.Prelude.{Bool, true, false, not, ◌&&◌, ◌||◌, ◌≡◌, refl, ◌⊎◌, ℕ, ◌≤◌, ◌<◌, leb, eqb, T as Holds}
use Rattle.std.proofs.Common.{sym, subst, inl, inr, arith, leb→le, eqb→eq}
use Rattle.std.proofs.Math.Dec.{nleb→lt, eqb_refl}
use Rattle.base.specs.Choice.{pick}

-- a test passes or fails
pub either : (b : Bool) → Holds b ⊎ Holds (not b)
either true = inl tt
either false = inr tt

pub not_both : (b : Bool) → Holds (not b) → Holds b → ⊥
not_both true p q = p
not_both false p q = q

pub fails : (b : Bool) → (Holds b → ⊥) → Holds (not b)
fails true f = f tt
fails false f = tt

pub both : (a b : Bool) → Holds a → Holds b → Holds (a && b)
both true b p q = q
both false b p q = p

pub first : (a b : Bool) → Holds (a && b) → Holds a
first true b p = tt
first false b p = p

pub second : (a b : Bool) → Holds (a && b) → Holds b
second true b p = p
second false b p = absurd p

pub parts : (a b : Bool) → Holds (a && b) → Holds a × Holds b
parts a b h = (first a b h, second a b h)

pub or_left : (a b : Bool) → Holds a → Holds (a || b)
or_left true b p = tt
or_left false b p = absurd p

pub or_right : (a b : Bool) → Holds b → Holds (a || b)
or_right true b p = tt
or_right false b p = p

pub or_cases : (a b : Bool) → Holds (a || b) → Holds a ⊎ Holds b
or_cases true b p = inl tt
or_cases false b p = inr p

pub neither : (a b : Bool) → Holds (not (a || b)) → Holds (not a) × Holds (not b)
neither true b h = absurd h
neither false b h = (tt, h)

pub pick_yes : {A : Type 0} (b : Bool) (x y : A) → Holds b → pick b x y ≡ x
pick_yes true x y h = refl
pick_yes false x y h = absurd h

pub pick_no : {A : Type 0} (b : Bool) (x y : A) → Holds (not b) → pick b x y ≡ y
pick_no true x y h = absurd h
pick_no false x y h = refl

pub eq→eqb : (m n : ℕ) → m ≡ n → Holds (eqb m n)
eq→eqb m n e = subst (λ (k : ℕ). Holds (eqb m k)) e (eqb_refl m)

pub neqb→ne : (m n : ℕ) → Holds (not (eqb m n)) → m ≡ n → ⊥
neqb→ne m n h e = not_both (eqb m n) h (eq→eqb m n e)

pub ne→neqb : (m n : ℕ) → (m ≡ n → ⊥) → Holds (not (eqb m n))
ne→neqb m n h = fails (eqb m n) (λ t. h (eqb→eq m n t))

pub lt→nleb : (m n : ℕ) → n < m → Holds (not (leb m n))
lt→nleb m n h = fails (leb m n) (λ t. omega (arith, leb→le m n t))

-- what a branch tells of its test: it was taken, it was left
pub when_true : {b : Bool} → b ≡ true → Holds b
when_true e = subst Holds (sym e) tt

pub when_false : {b : Bool} → b ≡ false → Holds (not b)
when_false e = subst (λ (b : Bool). Holds (not b)) (sym e) tt

-- tests that give each other are the same
pub same_test : (a b : Bool) → (Holds a → Holds b) → (Holds b → Holds a) → a ≡ b
same_test true true f g = refl
same_test true false f g = absurd (f tt)
same_test false true f g = absurd (g tt)
same_test false false f g = refl

-- the value of a test that holds, and of one that does not
pub is_true : (b : Bool) → Holds b → b ≡ true
is_true true h = refl
is_true false h = absurd h

pub is_false : (b : Bool) → (Holds b → ⊥) → b ≡ false
is_false true h = absurd (h tt)
is_false false h = refl

pub is_not : (b : Bool) → Holds (not b) → b ≡ false
is_not b h = is_false b (not_both b h)

-- two numbers, whether they are the same and in which order: decided
pub same_or_not : (a b : ℕ) → (a ≡ b) ⊎ (a ≡ b → ⊥)
same_or_not a b = elim (either (eqb a b)) [ inl h ↦ inl (eqb→eq a b h) | inr h ↦ inr (neqb→ne a b h) ]

pub le_or_lt : (a b : ℕ) → (a ≤ b) ⊎ (b < a)
le_or_lt a b = elim (either (leb a b)) [ inl h ↦ inl (leb→le a b h) | inr h ↦ inr (nleb→lt a b h) ]

pub lt_or_ge : (a b : ℕ) → (a < b) ⊎ (b ≤ a)
lt_or_ge a b = elim (le_or_lt b a) [ inl h ↦ inr h | inr h ↦ inl h ]

pub not-not : (b : Bool) → Holds b → Holds (not (not b))
not-not true h = tt
not-not false h = h

-- the two values of a test differ
pub impossible : {A : Type 0} → false ≡ true → A
impossible e = let z : ◌≡◌ {A = ℕ} 0 1 = cc in let n : ⊥ = omega arith in absurd n
