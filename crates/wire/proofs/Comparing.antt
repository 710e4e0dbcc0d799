-- What `==` answers on byte strings, and on lists of them. Assumes nothing.
use Rattle.std.proofs.Common.{◌≡◌, ℕ, Bool, ◌&&◌, List, [], ◌∷◌, refl, ◌∙◌}
use Rattle.std.specs.Cmp.Lexicographic.{pointwise}
use Rattle.std.specs.Prelude.{nat_eq}
use Rattle.model.specs.Same.{same_by, same_list}

-- the library's test on two lists is the law's, with any test of their items
same_by-pointwise : {A : Type 0} (D E : A → A → Bool) → ((x y : A) → D x y ≡ E x y) → (xs ys : List A) → pointwise D xs ys ≡ same_by E xs ys
same_by-pointwise D E h [] [] = refl
same_by-pointwise D E h [] (y ∷ ys) = refl
same_by-pointwise D E h (x ∷ xs) [] = refl
same_by-pointwise D E h (x ∷ xs) (y ∷ ys) = λ i. h x y i && same_by-pointwise D E h xs ys i

-- byte strings
pub bytes_same : (a b : List ℕ) (r : Bool) → r ≡ pointwise nat_eq a b → r ≡ same_list a b
bytes_same a b r h = h ∙ same_by-pointwise nat_eq nat_eq (λ x y. refl) a b

-- lists of them
pub lists-same : (a b : List (List ℕ)) (r : Bool) → r ≡ pointwise (pointwise nat_eq) a b → r ≡ same_by same_list a b
lists-same a b r h = h ∙ same_by-pointwise (pointwise nat_eq) same_list (same_by-pointwise nat_eq nat_eq (λ x y. refl)) a b
