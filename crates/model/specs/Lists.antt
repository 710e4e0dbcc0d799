-- Words on lists: as tests that compute, and as relations. Assumes nothing.
use Rattle.std.specs.Prelude.{◌≡◌, ℕ, ◌+◌, Bool, true, false, cond, ◌&&◌, ◌||◌, List, [], ◌∷◌, ◌++◌, Some, None, Option}
use mathlib.Core.List.{Memᴰ}

-- each test passes
unfoldable pub all : List Bool → Bool
all [] = true
all (b ∷ bs) = b && all bs

-- some element passes the test
abbrev pub any : {A : Type 0} → (A → Bool) → List A → Bool
any test [] = false
any test (x ∷ xs) = test x || any test xs

-- the first element that passes the test
abbrev pub first : {A : Type 0} → (A → Bool) → List A → Option A
first test [] = None
first test (x ∷ xs) = cond (test x) (Some x) (first test xs)

-- how many pass the test
abbrev pub count : {A : Type 0} → (A → Bool) → List A → ℕ
count test [] = 0
count test (x ∷ xs) = cond (test x) 1 0 + count test xs

-- x is the first of which P holds
pub record First {A : Type 0} (P : A → Type 0) (xs : List A) (x : A) : Type 0 where
  pub before : List A
  pub behind : List A
  pub split : xs ≡ before ++ (x ∷ behind)
  pub is : P x
  pub none : (y : A) → Memᴰ y before → ¬ (P y)

-- the second list is those of the first of which P holds, in order
pub data Sifted {A : Type 0} (P : A → Type 0) : List A → List A → Type 0 where
  over : Sifted P [] []
  keeps : {x : A} {xs ys : List A} → P x → Sifted P xs ys → Sifted P (x ∷ xs) (x ∷ ys)
  drops : {x : A} {xs ys : List A} → ¬ (P x) → Sifted P xs ys → Sifted P (x ∷ xs) ys

-- no two elements have the same f
abbrev pub DifferBy : {A B : Type 0} → (A → B) → List A → Type 0
DifferBy f [] = Unit {0}
DifferBy {A} f (x ∷ xs) = ((y : A) → Memᴰ y xs → ¬ (f y ≡ f x)) × DifferBy f xs
