-- What `contains` answers on lists of byte strings. Assumes nothing.
use Rattle.std.proofs.Common.{◌≡◌, ℕ, Bool, ◌&&◌, ◌||◌, List, [], ◌∷◌, refl, ◌∙◌, arith}
use Rattle.std.specs.Prelude.{nat_eq}
use Rattle.std.specs.List.{list_any}
use Rattle.std.specs.Cmp.Lexicographic.{pointwise}
use Rattle.std.proofs.lemmas.Bool.Decides.{nat_tests}
use Rattle.model.specs.Quorums.{is_in}
use Rattle.model.specs.Same.{same_list}
use Rattle.wire.proofs.Comparing.{bytes_same}

nat_eq-sym : (x y : ℕ) → nat_eq x y ≡ nat_eq y x
nat_eq-sym x y = grind (arith, nat_tests)

-- the library's test of two byte strings is the law's with its sides the other way round
same_list-turned : (a b : List ℕ) → pointwise nat_eq a b ≡ same_list b a
same_list-turned [] [] = refl
same_list-turned [] (y ∷ ys) = refl
same_list-turned (x ∷ xs) [] = refl
same_list-turned (x ∷ xs) (y ∷ ys) = λ i. nat_eq-sym x y i && same_list-turned xs ys i

contains-is : (xs : List (List ℕ)) (x : List ℕ) → list_any (λ y. pointwise nat_eq y x) xs ≡ is_in x xs
contains-is [] x = refl
contains-is (y ∷ ys) x = λ i. same_list-turned y x i || contains-is ys x i

pub among : (xs : List (List ℕ)) (x : List ℕ) (r : Bool) → r ≡ list_any (λ y. pointwise nat_eq y x) xs → r ≡ is_in x xs
among xs x r h = h ∙ contains-is xs x

pub bytes_equal : (a b : List ℕ) (r : Bool) → r ≡ pointwise nat_eq a b → r ≡ same_list a b
bytes_equal = bytes_same
