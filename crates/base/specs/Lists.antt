-- The words for lists that the definitions are written with.
use Rattle.std.specs.Prelude.{Bool, true, false, ◌&&◌, ◌||◌, ◌≡◌, List, [], ◌∷◌, ◌++◌, ℕ, zero, suc, min, max}
use Rattle.std.proofs.Math.Option.{Option, none, some}
use Rattle.base.specs.Choice.{pick}

-- a is a member of a list
infix 50 ◌∈◌
pub data ◌∈◌ {A : Type 0} (a : A) : List A → Type 0 where
  here : {x : A} {xs : List A} → a ≡ x → a ∈ (x ∷ xs)
  there : {x : A} {xs : List A} → a ∈ xs → a ∈ (x ∷ xs)

-- 0, 1, .. , n - 1
unfoldable pub upto : ℕ → List ℕ
upto zero = []
upto (suc n) = upto n ++ (n ∷ [])

-- some member passes the test
unfoldable pub any : {A : Type 0} → (A → Bool) → List A → Bool
any p [] = false
any p (x ∷ xs) = p x || any p xs

-- each member passes the test
unfoldable pub all : {A : Type 0} → (A → Bool) → List A → Bool
all p [] = true
all p (x ∷ xs) = p x && all p xs

-- the members that pass the test, in their order
unfoldable pub filter : {A : Type 0} → (A → Bool) → List A → List A
filter p [] = []
filter p (x ∷ xs) = pick (p x) (x ∷ filter p xs) (filter p xs)

-- the greatest value of f on a list, 0 on the empty list
unfoldable pub greatest : {A : Type 0} → (A → ℕ) → List A → ℕ
greatest f [] = 0
greatest f (x ∷ xs) = max (f x) (greatest f xs)

-- the smallest value of f on a list, 0 on the empty list
unfoldable pub smallest : {A : Type 0} → (A → ℕ) → List A → ℕ
smallest f [] = 0
smallest f (x ∷ []) = f x
smallest f (x ∷ (y ∷ l)) = min (f x) (smallest f (y ∷ l))

-- x, unless the best of those after it beats x
unfoldable pub keep : {A : Type 0} → (A → A → Bool) → A → Option A → A
keep beats x none = x
keep beats x (some y) = pick (beats y x) y x

-- the first member of a list that no other beats (`beats` is strict: equals do not beat one another); none in the empty list
unfoldable pub best : {A : Type 0} → (A → A → Bool) → List A → Option A
best beats [] = none
best beats (x ∷ xs) = some (keep beats x (best beats xs))

-- f i, f (i + 1), ..: k values
unfoldable pub values : {A : Type 0} → (ℕ → A) → ℕ → ℕ → List A
values f i zero = []
values f i (suc k) = f i ∷ values f (suc i) k
