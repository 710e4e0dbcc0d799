-- The search for the first byte string that passes a test, which passes over those that stood there before. Assumes nothing.
use Rattle.std.proofs.Common.{◌≡◌, ℕ, ◌+◌, ◌<◌, ◌≤◌, Bool, true, false, cond, not, ◌&&◌, T, List, [], ◌∷◌, ◌++◌, map, length, get_or, take, drop, Some, None, sym, refl, ap, ◌∙◌, arith}
use Rattle.std.specs.Option.{option_map}
use Rattle.std.proofs.lemmas.List.{take_more, take_all, take-append-drop, at_drop_more}
use Rattle.model.specs.Lists.{first}
use Rattle.model.specs.Quorums.{is_in}
use Rattle.model.proofs.Count.{in_list}
use Rattle.model.proofs.Facts.{is_true}
use Rattle.model.proofs.ListFacts.{first-none}

-- none of the first list, so what is behind it decides
first-behind : {A : Type 0} (test : A → Bool) (xs ys : List A) → first test xs ≡ None → first test (xs ++ ys) ≡ first test ys
first-behind test [] ys e = refl
first-behind {A} test (x ∷ xs) ys e = at (test x) e (first-behind test xs ys)
  where
    at : (b : Bool) → cond b (Some x) (first test xs) ≡ None → (first test xs ≡ None → first test (xs ++ ys) ≡ first test ys) → cond b (Some x) (first test (xs ++ ys)) ≡ first test ys
    at true h go = absurd (let z : ◌≡◌ {A = ℕ} 0 1 = cc in omega arith)
    at false h go = go h

first-map : {A B : Type 0} (f : A → B) (test : B → Bool) (xs : List A) → first test (map f xs) ≡ option_map f (first (λ x. test (f x)) xs)
first-map f test [] = refl
first-map f test (x ∷ xs) = at (test (f x)) (first-map f test xs)
  where
    at : (b : Bool) → first test (map f xs) ≡ option_map f (first (λ y. test (f y)) xs) → cond b (Some (f x)) (first test (map f xs)) ≡ option_map f (cond b (Some x) (first (λ y. test (f y)) xs))
    at true e = refl
    at false e = e

-- what did not pass before does not pass again
again : (test : List ℕ → Bool) (xs : List (List ℕ)) (x : List ℕ) → first test xs ≡ None → T (is_in x xs) → test x ≡ false
again test xs x e t = at (test x) refl
  where
    at : (b : Bool) → test x ≡ b → test x ≡ false
    at true h = absurd (first-none (λ y. T (test y)) test (λ y. ((λ u. u), (λ u. u))) xs e x ((in_list x xs).0 t) (is_true (test x) h))
    at false h = h

-- passes, and stood not there before
abbrev is_new : (List ℕ → Bool) → List (List ℕ) → List ℕ → Bool
is_new test xs x = test x && not (is_in x xs)

not_new : (test : List ℕ → Bool) (xs : List (List ℕ)) (x : List ℕ) → first test xs ≡ None → is_new test xs x ≡ false → test x ≡ false
not_new test xs x e h = at (test x) refl (is_in x xs) refl h
  where
    at : (b : Bool) → test x ≡ b → (c : Bool) → is_in x xs ≡ c → (b && not c) ≡ false → test x ≡ false
    at true u true v w = again test xs x e (is_true (is_in x xs) v)
    at true u false v w = absurd (let z : ◌≡◌ {A = ℕ} 0 1 = cc in omega arith)
    at false u c v w = u

passes : (a b : Bool) → (a && b) ≡ true → a ≡ true
passes true b h = refl
passes false b h = h

-- test: of what a byte string stands for; none of the first i passes
module _ {B : Type 0} (to : List ℕ → B) (test : B → Bool) (xs : List (List ℕ)) (i : ℕ) (none : first (λ x. test (to x)) (take i xs) ≡ None) where
  pub search-more : (d : List ℕ) → i < length xs → is_new (λ x. test (to x)) (take i xs) (get_or xs i d) ≡ false → first (λ x. test (to x)) (take (i + 1) xs) ≡ None
  search-more d inside h =
      ap (first (λ x. test (to x))) (take_more xs i d inside)
      ∙ first-behind (λ x. test (to x)) (take i xs) (get_or xs i d ∷ []) none
      ∙ ap (λ b. cond b (Some (get_or xs i d)) None) (not_new (λ x. test (to x)) (take i xs) (get_or xs i d) none h)

  pub search-found : (d : List ℕ) → i < length xs → is_new (λ x. test (to x)) (take i xs) (get_or xs i d) ≡ true → Some (to (get_or xs i d)) ≡ first test (map to xs)
  search-found d inside h =
      sym (first-map to test xs
      ∙ ap (λ l. option_map to (first (λ x. test (to x)) l)) (sym (take-append-drop i xs))
      ∙ ap (option_map to) (first-behind (λ x. test (to x)) (take i xs) (drop i xs) none)
      ∙ ap (option_map to) (at_drop_more (first (λ x. test (to x))) xs i d inside)
      ∙ ap (λ b. option_map to (cond b (Some (get_or xs i d)) (first (λ x. test (to x)) (drop (i + 1) xs)))) (passes (test (to (get_or xs i d))) (not (is_in (get_or xs i d) (take i xs))) h))

  pub search-over : length xs ≤ i → None ≡ first test (map to xs)
  search-over le = sym (first-map to test xs ∙ ap (λ l. option_map to (first (λ x. test (to x)) l)) (sym (take_all i xs le)) ∙ ap (option_map to) none)
