-- Membership laws for any, all, filter, map, flat_map, greatest, smallest and best, and lists by place. By induction on the list.
use Rattle.std.specs.Prelude.{◌≡◌, refl, ◌⊎◌, Bool, true, false, not, ◌&&◌, ◌||◌, ℕ, zero, suc, ◌≤◌, ◌<◌, min, max, ltb, eqb, T as Holds}
use Rattle.std.specs.Prelude.{length, get_or, replicate}
use Rattle.std.proofs.Common.{ap, sym, ◌∙◌, subst, inl, inr, arith, ltb→lt, lt→ltb, nltb→le, eqb→eq, length-append}
use Rattle.std.proofs.Math.Option.{Option, none, some}
use mathlib.Core.List.{List, [], ◌∷◌, ◌++◌, map, flat_map}
use Rattle.std.proofs.lemmas.List.{length-map, get_or_at}
use Rattle.std.proofs.Math.ListN.{get_or-append}
use Rattle.base.specs.Choice.{pick}
use Rattle.base.specs.Lists.{◌∈◌, here, there, upto, any, all, filter, greatest, smallest, keep, best}
use Rattle.base.specs.Laws.Tests.{not_both, fails, both, first, second, or_left, or_right, or_cases, pick_yes, eq→eqb, le_or_lt}

-- what holds of the head and of each member of the tail holds of each member
pub for_cons : {A : Type 0} (P : A → Type 0) {x : A} {xs : List A}
    → P x → ((a : A) → a ∈ xs → P a) → (a : A) → a ∈ (x ∷ xs) → P a
for_cons P p q a (here e) = subst P (sym e) p
for_cons P p q a (there h) = q a h

pub in_nothing : {A : Type 0} {a : A} → a ∈ [] → ⊥
in_nothing h = elim h [ ]

pub in_left : {A : Type 0} {a : A} {s : List A} (t : List A) → a ∈ s → a ∈ (s ++ t)
in_left t (here e) = here e
in_left t (there h) = there (in_left t h)

pub in_right : {A : Type 0} {a : A} (s : List A) {t : List A} → a ∈ t → a ∈ (s ++ t)
in_right [] h = h
in_right (x ∷ s) h = there (in_right s h)

-- what holds of each member of two lists holds of each member of their join
pub for_join : {A : Type 0} (P : A → Type 0) (s t : List A)
    → ((a : A) → a ∈ s → P a) → ((a : A) → a ∈ t → P a) → (a : A) → a ∈ (s ++ t) → P a
for_join P [] t p q a h = q a h
for_join P (x ∷ s) t p q a h =
    for_cons P (p x (here refl)) (for_join P s t (λ b k. p b (there k)) q) a h

pub any_of : {A : Type 0} (p : A → Bool) (l : List A) (a : A) → a ∈ l → Holds (p a) → Holds (any p l)
unfolding any
any_of p (x ∷ xs) a (here e) t = or_left (p x) (any p xs) (subst (λ b. Holds (p b)) e t)
any_of p (x ∷ xs) a (there h) t = or_right (p x) (any p xs) (any_of p xs a h t)
any_of p [] a h t = elim h [ ]

pub any_one : {A : Type 0} (p : A → Bool) (l : List A) → Holds (any p l) → (a : A) × (a ∈ l) × Holds (p a)
unfolding any
any_one p [] t = absurd t
any_one p (x ∷ xs) t = go (or_cases (p x) (any p xs) t) (any_one p xs)
  where
    go : Holds (p x) ⊎ Holds (any p xs) → (Holds (any p xs) → (a : _) × (a ∈ xs) × Holds (p a))
        → (a : _) × (a ∈ (x ∷ xs)) × Holds (p a)
    go (inl h) r = (x, here refl, h)
    go (inr h) r = ((r h).0, there (r h).1, (r h).2)

pub any-not : {A : Type 0} (p : A → Bool) (l : List A) → Holds (not (any p l)) → (a : A) → a ∈ l → Holds (not (p a))
any-not p l h a k = fails (p a) (λ t. not_both (any p l) h (any_of p l a k t))

pub all_of : {A : Type 0} (p : A → Bool) (l : List A) → ((a : A) → a ∈ l → Holds (p a)) → Holds (all p l)
unfolding all
all_of p [] f = tt
all_of p (x ∷ xs) f = both (p x) (all p xs) (f x (here refl)) (all_of p xs (λ a h. f a (there h)))

pub all_at : {A : Type 0} (p : A → Bool) (l : List A) → Holds (all p l) → (a : A) → a ∈ l → Holds (p a)
unfolding all
all_at p [] t a h = absurd (in_nothing h)
all_at p (x ∷ xs) t a h =
    for_cons (λ b. Holds (p b)) (first (p x) (all p xs) t) (λ b k. all_at p xs (second (p x) (all p xs) t) b k) a h

pub all_not : {A : Type 0} (p : A → Bool) (l : List A) → Holds (not (all p l)) → (a : A) × (a ∈ l) × Holds (not (p a))
unfolding all
all_not p [] t = absurd t
all_not p (x ∷ xs) t = go (p x) refl t (λ k. all_not p xs k)
  where
    go : (b : Bool) → p x ≡ b → Holds (not (b && all p xs)) → (Holds (not (all p xs)) → (a : _) × (a ∈ xs) × Holds (not (p a)))
        → (a : _) × (a ∈ (x ∷ xs)) × Holds (not (p a))
    go true e k r = let z = r k in (z.0, there z.1, z.2)
    go false e k r = (x, here refl, subst (λ b. Holds (not b)) (sym e) tt)

pub filter_in : {A : Type 0} (p : A → Bool) (l : List A) (a : A) → a ∈ l → Holds (p a) → a ∈ filter p l
unfolding filter
filter_in p (x ∷ xs) a (here e) t =
    rw (pick_yes (p x) (x ∷ filter p xs) (filter p xs) (subst (λ b. Holds (p b)) e t)) (here e)
filter_in p (x ∷ xs) a (there h) t = go (p x) (filter_in p xs a h t)
  where
    go : (b : Bool) → a ∈ filter p xs → a ∈ pick b (x ∷ filter p xs) (filter p xs)
    go true k = there k
    go false k = k
filter_in p [] a h t = elim h [ ]

pub filter_of : {A : Type 0} (p : A → Bool) (l : List A) (a : A) → a ∈ filter p l → (a ∈ l) × Holds (p a)
unfolding filter
filter_of p [] a h = absurd (in_nothing h)
filter_of p (x ∷ xs) a h = go (p x) refl h (λ b k. filter_of p xs b k)
  where
    go : (b : Bool) → p x ≡ b → a ∈ pick b (x ∷ filter p xs) (filter p xs)
        → ((c : _) → c ∈ filter p xs → (c ∈ xs) × Holds (p c)) → (a ∈ (x ∷ xs)) × Holds (p a)
    go true e k r =
        for_cons (λ c. (c ∈ (x ∷ xs)) × Holds (p c)) (here refl, subst Holds (sym e) tt) (λ c q. (there (r c q).0, (r c q).1)) a k
    go false e k r = (there (r a k).0, (r a k).1)

pub greatest_ge : {A : Type 0} (f : A → ℕ) (l : List A) (a : A) → a ∈ l → f a ≤ greatest f l
unfolding greatest
greatest_ge f (x ∷ xs) a (here e) = omega (arith, ap f e)
greatest_ge f (x ∷ xs) a (there h) = omega (arith, greatest_ge f xs a h)
greatest_ge f [] a h = elim h [ ]

pub greatest_at : {A : Type 0} (f : A → ℕ) (l : List A) (t : ℕ) → t < greatest f l → (a : A) × (a ∈ l) × (t < f a)
unfolding greatest
greatest_at f [] t h = absurd (omega arith)
greatest_at f (x ∷ xs) t h = go (le_or_lt (suc t) (f x)) (λ k. greatest_at f xs t k)
  where
    go : (t < f x) ⊎ (f x < suc t) → (t < greatest f xs → (a : _) × (a ∈ xs) × (t < f a)) → (a : _) × (a ∈ (x ∷ xs)) × (t < f a)
    go (inl k) r = (x, here refl, k)
    go (inr k) r = let z = r (omega arith) in (z.0, there z.1, z.2)

-- a bound on each value is a bound on the greatest
pub greatest_most : {A : Type 0} (f : A → ℕ) (l : List A) (b : ℕ) → ((a : A) → a ∈ l → f a ≤ b) → greatest f l ≤ b
greatest_most f l b h = go (le_or_lt (greatest f l) b)
  where
    go : (greatest f l ≤ b) ⊎ (b < greatest f l) → greatest f l ≤ b
    go (inl k) = k
    go (inr k) = let z = greatest_at f l b k in absurd (omega (arith, h z.0 z.1, z.2))

pub greatest_same : {A : Type 0} (f g : A → ℕ) (l : List A) → ((a : A) → a ∈ l → f a ≡ g a) → greatest f l ≡ greatest g l
unfolding greatest
greatest_same f g [] e = refl
greatest_same f g (x ∷ xs) e = cc (e x (here refl), greatest_same f g xs (λ a h. e a (there h)))

-- no member's value is below the smallest
pub smallest_le : {A : Type 0} (f : A → ℕ) (l : List A) (a : A) → a ∈ l → smallest f l ≤ f a
unfolding smallest
smallest_le f (x ∷ []) a h = for_cons (λ b. f x ≤ f b) (omega arith) (λ b k. absurd (in_nothing k)) a h
smallest_le f (x ∷ (y ∷ l)) a h =
    for_cons (λ b. min (f x) (smallest f (y ∷ l)) ≤ f b) (omega arith) (λ b k. omega (arith, smallest_le f (y ∷ l) b k)) a h
smallest_le f [] a h = elim h [ ]

-- and one member's is this one
pub smallest_at : {A : Type 0} (f : A → ℕ) (x : A) (l : List A) → (a : A) × (a ∈ (x ∷ l)) × (smallest f (x ∷ l) ≡ f a)
unfolding smallest
smallest_at f x [] = (x, here refl, refl)
smallest_at {A} f x (y ∷ l) = go (le_or_lt (f x) (smallest f (y ∷ l))) (smallest_at f y l)
  where
    go : (f x ≤ smallest f (y ∷ l)) ⊎ (smallest f (y ∷ l) < f x) → (a : A) × (a ∈ (y ∷ l)) × (smallest f (y ∷ l) ≡ f a)
        → (a : A) × (a ∈ (x ∷ (y ∷ l))) × (min (f x) (smallest f (y ∷ l)) ≡ f a)
    go (inl k) r = (x, here refl, omega arith)
    go (inr k) r = (r.0, there r.1, omega (arith, r.2))

-- functions and tests that agree on each member
pub map_same : {A B : Type 0} (f g : A → B) (l : List A) → ((a : A) → a ∈ l → f a ≡ g a) → map f l ≡ map g l
map_same f g [] e = refl
map_same f g (x ∷ xs) e = rw (e x (here refl), map_same f g xs (λ a h. e a (there h)))

pub flat_map_same : {A B : Type 0} (f g : A → List B) (l : List A) → ((a : A) → a ∈ l → f a ≡ g a) → flat_map f l ≡ flat_map g l
unfolding flat_map
flat_map_same f g [] e = refl
flat_map_same f g (x ∷ xs) e = rw (e x (here refl), flat_map_same f g xs (λ a h. e a (there h)))

pub filter_same : {A : Type 0} (p q : A → Bool) (l : List A) → ((a : A) → a ∈ l → p a ≡ q a) → filter p l ≡ filter q l
unfolding filter
filter_same p q [] e = refl
filter_same p q (x ∷ xs) e = rw (e x (here refl), filter_same p q xs (λ a h. e a (there h)))

pub filter-append : {A : Type 0} (p : A → Bool) (s t : List A) → filter p (s ++ t) ≡ filter p s ++ filter p t
unfolding filter
filter-append p [] t = refl
filter-append {A} p (x ∷ s) t = go (p x) (filter-append p s t)
  where
    go : (b : Bool) → filter p (s ++ t) ≡ filter p s ++ filter p t
        → pick b (x ∷ filter p (s ++ t)) (filter p (s ++ t)) ≡ pick b (x ∷ filter p s) (filter p s) ++ filter p t
    go true e = ap (λ (l : List A). x ∷ l) e
    go false e = e

pub upto_in : (n i : ℕ) → i < n → i ∈ upto n
unfolding upto
upto_in zero i h = absurd (omega arith)
upto_in (suc n) i h = go (le_or_lt (suc i) n) (λ k. upto_in n i k)
  where
    go : (i < n) ⊎ (n < suc i) → (i < n → i ∈ upto n) → i ∈ (upto n ++ (n ∷ []))
    go (inl k) r = in_left (n ∷ []) (r k)
    go (inr k) r = in_right (upto n) (here (omega arith))

pub upto_of : (n i : ℕ) → i ∈ upto n → i < n
unfolding upto
upto_of zero i h = absurd (in_nothing h)
upto_of (suc n) i h =
    for_join (λ k. k < suc n) (upto n) (n ∷ []) (λ k q. omega (arith, upto_of n k q))
    (for_cons (λ k. k < suc n) (omega arith) (λ k q. absurd (in_nothing q))) i h

pub flat_map_in : {A B : Type 0} (f : A → List B) (l : List A) (a : A) (b : B) → a ∈ l → b ∈ f a → b ∈ flat_map f l
unfolding flat_map
flat_map_in f (x ∷ xs) a b (here e) k = in_left (flat_map f xs) (subst (λ c. b ∈ f c) e k)
flat_map_in f (x ∷ xs) a b (there h) k = in_right (f x) (flat_map_in f xs a b h k)
flat_map_in f [] a b h k = elim h [ ]

pub flat_map_of : {A B : Type 0} (f : A → List B) (l : List A) (b : B) → b ∈ flat_map f l → (a : A) × (a ∈ l) × (b ∈ f a)
unfolding flat_map
flat_map_of f [] b h = absurd (in_nothing h)
flat_map_of {A} f (x ∷ xs) b h =
    for_join (λ c. (a : A) × (a ∈ (x ∷ xs)) × (c ∈ f a)) (f x) (flat_map f xs)
    (λ c k. (x, here refl, k)) (λ c k. let r = flat_map_of f xs c k in (r.0, there r.1, r.2)) b h

pub map_in : {A B : Type 0} (f : A → B) (l : List A) (a : A) → a ∈ l → f a ∈ map f l
map_in f (x ∷ xs) a (here e) = here (ap f e)
map_in f (x ∷ xs) a (there h) = there (map_in f xs a h)
map_in f [] a h = elim h [ ]

pub map_of : {A B : Type 0} (f : A → B) (l : List A) (b : B) → b ∈ map f l → (a : A) × (a ∈ l) × (b ≡ f a)
map_of f [] b h = absurd (in_nothing h)
map_of {A} f (x ∷ xs) b h =
    for_cons (λ c. (a : A) × (a ∈ (x ∷ xs)) × (c ≡ f a)) (x, here refl, refl)
    (λ c k. let r = map_of f xs c k in (r.0, there r.1, r.2)) b h

-- ---- lengths and places

pub length-filter_most : {A : Type 0} (p : A → Bool) (l : List A) → length (filter p l) ≤ length l
unfolding filter
length-filter_most p [] = omega arith
length-filter_most p (x ∷ l) = go (p x) (length-filter_most p l)
  where
    go : (b : Bool) → length (filter p l) ≤ length l → length (pick b (x ∷ filter p l) (filter p l)) ≤ suc (length l)
    go true r = omega arith
    go false r = omega arith

pub length-upto : (n : ℕ) → length (upto n) ≡ n
unfolding upto
length-upto zero = refl
length-upto (suc n) = omega (arith, length-append (upto n) (n ∷ []), length-upto n)

pub upto_at : (n i d : ℕ) → i < n → get_or (upto n) i d ≡ i
unfolding upto
upto_at zero i d h = absurd (omega arith)
upto_at (suc n) i d h = go (le_or_lt (suc i) n) (λ k. upto_at n i d k)
  where
    go : (i < n) ⊎ (n < suc i) → (i < n → get_or (upto n) i d ≡ i) → get_or (upto n ++ (n ∷ [])) i d ≡ i
    go (inl k) r = get_or-append (upto n) (n ∷ []) d i (omega (arith, length-upto n)) ∙ r k
    go (inr k) r = let e : i ≡ n = omega arith in get_or_at (upto n) n [] d i (length-upto n ∙ sym e) ∙ sym e

pub map_at : {A B : Type 0} (f : A → B) (l : List A) (i : ℕ) (a : A) (b : B) → i < length l → get_or (map f l) i b ≡ f (get_or l i a)
map_at f [] i a b h = absurd (omega arith)
map_at f (x ∷ l) zero a b h = refl
map_at f (x ∷ l) (suc i) a b h = map_at f l i a b (omega arith)

-- the entry at place i of f 0, f 1, .. , f (n - 1)
pub map-upto_at : {B : Type 0} (f : ℕ → B) (n i : ℕ) (b : B) → i < n → get_or (map f (upto n)) i b ≡ f i
map-upto_at f n i b h = map_at f (upto n) i 0 b (omega (arith, length-upto n)) ∙ ap f (upto_at n i 0 h)

pub map-upto-length : {B : Type 0} (f : ℕ → B) (n : ℕ) → length (map f (upto n)) ≡ n
map-upto-length f n = length-map (upto n) f ∙ length-upto n

-- a member of a list stands at a place in it
pub place : {A : Type 0} (d : A) (l : List A) (a : A) → a ∈ l → (i : ℕ) × (i < length l) × (get_or l i d ≡ a)
place d (x ∷ xs) a (here e) = (0, omega arith, sym e)
place d (x ∷ xs) a (there h) = let z = place d xs a h in (suc z.0, omega (arith, z.1), z.2)
place d [] a h = elim h [ ]

-- and what stands at a place is a member
pub at_in : {A : Type 0} (d : A) (l : List A) (i : ℕ) → i < length l → get_or l i d ∈ l
at_in d [] i h = absurd (omega arith)
at_in d (x ∷ xs) zero h = here refl
at_in d (x ∷ xs) (suc i) h = there (at_in d xs i (omega arith))

-- ---- the best member

-- beating is an order: of two, not each beats the other, and what does not beat b does not beat what b does not beat
pub record Order {A : Type 0} (beats : A → A → Bool) : Type 0 where
  pub one_way : (a b : A) → Holds (beats a b) → Holds (not (beats b a))
  pub through : (a b c : A) → Holds (not (beats a b)) → Holds (not (beats b c)) → Holds (not (beats a c))

-- what `best` gives
pub data Best {A : Type 0} (beats : A → A → Bool) (l : List A) : Option A → Type 0 where
  nothing : ((a : A) → a ∈ l → ⊥) → Best beats l none
  found : (b : A) → b ∈ l → ((a : A) → a ∈ l → Holds (not (beats a b))) → Best beats l (some b)

-- nothing beats itself
self : {A : Type 0} (beats : A → A → Bool) → Order beats → (a : A) → Holds (not (beats a a))
self beats O a = fails (beats a a) (λ h. not_both (beats a a) (O.one_way a a h) h)

keep_is : {A : Type 0} (beats : A → A → Bool) → Order beats → (x : A) (l : List A) (o : Option A) → Best beats l o
    → Best beats (x ∷ l) (some (keep beats x o))
unfolding keep
keep_is beats O x l none (nothing z) =
    found x (here refl) (for_cons (λ a. Holds (not (beats a x))) (self beats O x) (λ a h. absurd (z a h)))
keep_is beats O x l (some y) (found b h low) = go (beats y x) refl
  where
    go : (t : Bool) → beats y x ≡ t → Best beats (x ∷ l) (some (pick t y x))
    go true e = found y (there h) (for_cons (λ a. Holds (not (beats a y))) (O.one_way y x (subst Holds (sym e) tt)) low)
    go false e =
        found x (here refl) (for_cons (λ a. Holds (not (beats a x))) (self beats O x)
        (λ a k. O.through a y x (low a k) (subst (λ t. Holds (not t)) (sym e) tt)))

pub best_is : {A : Type 0} (beats : A → A → Bool) → Order beats → (l : List A) → Best beats l (best beats l)
unfolding best
best_is beats O [] = nothing (λ a h. in_nothing h)
best_is beats O (x ∷ xs) = keep_is beats O x xs (best beats xs) (best_is beats O xs)

-- less by a measure is an order
pub by_least : {A : Type 0} (f : A → ℕ) → Order (λ a b. ltb (f a) (f b))
by_least f = record {
  one_way = λ a b h. fails (ltb (f b) (f a)) (λ k. absurd (omega (arith, ltb→lt (f a) (f b) h, ltb→lt (f b) (f a) k)));
  through = λ a b c h k.
      fails (ltb (f a) (f c)) (λ q. absurd (omega (arith, nltb→le (f a) (f b) h, nltb→le (f b) (f c) k, ltb→lt (f a) (f c) q)));
}

-- and so is greater
pub by_greatest : {A : Type 0} (f : A → ℕ) → Order (λ a b. ltb (f b) (f a))
by_greatest f =
    record { one_way = λ a b h. (by_least f).one_way b a h; through = λ a b c h k. (by_least f).through c b a k h }

-- and so is greater by f, then less by g
pub by_greatest_then_least : {A : Type 0} (f g : A → ℕ) → Order (λ a b. ltb (f b) (f a) || (eqb (f a) (f b) && ltb (g a) (g b)))
by_greatest_then_least {A} f g = record {
  one_way = λ a b h. fails (beats b a) (λ k. apart a b (of a b h) (of b a k));
  through = λ a b c h k. fails (beats a c) (λ q. along a b c (of_not a b h) (of_not b c k) (of a c q));
}
  where
    beats : A → A → Bool
    beats a b = ltb (f b) (f a) || (eqb (f a) (f b) && ltb (g a) (g b))

    Beats : A → A → Type 0
    Beats a b = (f b < f a) ⊎ ((f a ≡ f b) × (g a < g b))

    of : (a b : A) → Holds (beats a b) → Beats a b
    of a b h = split (or_cases (ltb (f b) (f a)) (eqb (f a) (f b) && ltb (g a) (g b)) h)
      where
        split : Holds (ltb (f b) (f a)) ⊎ Holds (eqb (f a) (f b) && ltb (g a) (g b)) → Beats a b
        split (inl k) = inl (ltb→lt (f b) (f a) k)
        split (inr k) =
            inr (
              eqb→eq (f a) (f b) (first (eqb (f a) (f b)) (ltb (g a) (g b)) k),
              ltb→lt (g a) (g b) (second (eqb (f a) (f b)) (ltb (g a) (g b)) k),
            )

    of_not : (a b : A) → Holds (not (beats a b)) → Beats a b → ⊥
    of_not a b h (inl k) =
        not_both (beats a b) h (or_left (ltb (f b) (f a)) (eqb (f a) (f b) && ltb (g a) (g b)) (lt→ltb (f b) (f a) k))
    of_not a b h (inr k) =
        not_both (beats a b) h
        (or_right (ltb (f b) (f a)) (eqb (f a) (f b) && ltb (g a) (g b))
        (both (eqb (f a) (f b)) (ltb (g a) (g b)) (eq→eqb (f a) (f b) k.0) (lt→ltb (g a) (g b) k.1)))

    apart : (a b : A) → Beats a b → Beats b a → ⊥
    apart a b (inl h) (inl k) = absurd (omega arith)
    apart a b (inl h) (inr k) = absurd (omega arith)
    apart a b (inr h) (inl k) = absurd (omega arith)
    apart a b (inr h) (inr k) = absurd (omega arith)

    along : (a b c : A) → (Beats a b → ⊥) → (Beats b c → ⊥) → Beats a c → ⊥
    along a b c x y z = cases (le_or_lt (f a) (f b)) (le_or_lt (f b) (f c)) (le_or_lt (f b) (f a)) (le_or_lt (f c) (f b)) z
      where
        cases : (f a ≤ f b) ⊎ (f b < f a) → (f b ≤ f c) ⊎ (f c < f b) → (f b ≤ f a) ⊎ (f a < f b) → (f c ≤ f b) ⊎ (f b < f c)
            → Beats a c → ⊥
        cases (inr p) q r s z = x (inl p)
        cases (inl p) (inr q) r s z = y (inl q)
        cases (inl p) (inl q) r s (inl z) = absurd (omega arith)
        cases (inl p) (inl q) (inr r) s (inr z) = absurd (omega arith)
        cases (inl p) (inl q) (inl r) (inr s) (inr z) = absurd (omega arith)
        cases (inl p) (inl q) (inl r) (inl s) (inr z) = ties (le_or_lt (g b) (g a)) (le_or_lt (g c) (g b))
          where
            ties : (g b ≤ g a) ⊎ (g a < g b) → (g c ≤ g b) ⊎ (g b < g c) → ⊥
            ties (inr u) v = x (inr (omega arith, u))
            ties (inl u) (inr v) = y (inr (omega arith, v))
            ties (inl u) (inl v) = absurd (omega arith)

-- the greatest over two lists joined
pub greatest-append : {A : Type 0} (f : A → ℕ) (s t : List A) → greatest f (s ++ t) ≡ max (greatest f s) (greatest f t)
unfolding greatest
greatest-append f [] t = omega arith
greatest-append f (x ∷ s) t = omega (arith, greatest-append f s t)

pub zeros_at : (n i : ℕ) → get_or {A = ℕ} (replicate n 0) i 0 ≡ 0
zeros_at zero i = refl
zeros_at (suc n) zero = refl
zeros_at (suc n) (suc i) = zeros_at n i

-- what stands in each place of a list of one number
pub same_at : (n x i : ℕ) → i < n → get_or {A = ℕ} (replicate n x) i 0 ≡ x
same_at zero x i h = absurd (omega arith)
same_at (suc n) x zero h = refl
same_at (suc n) x (suc i) h = same_at n x i (omega arith)
