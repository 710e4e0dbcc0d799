-- Paths compared step by step. Assumes nothing.
use Rattle.std.proofs.Common.{◌≡◌, ℕ, Bool, false, cond, not, eqb, ltb, List, [], ◌∷◌, length, sym, refl, ap, ◌∙◌, arith}
use Rattle.std.proofs.lemmas.List.{nil_from_length}
use Rattle.std.proofs.lemmas.Bool.{eq-eqb, ne_eqb}
use Rattle.wire.specs.Numbers.{big_endian}
use Rattle.wire.specs.Leaves.{below, steps_of}

-- the second path ends first
pub second-ends : (left right : List (List ℕ)) (x : List ℕ) (xs : List (List ℕ)) → left ≡ x ∷ xs → length right ≡ 0 → below (steps_of left) (steps_of right) ≡ false
second-ends left right x xs e h = λ i. below (steps_of (e i)) (steps_of (nil_from_length right h i))

-- the first ends first, or both end
pub first_ends : (left right : List (List ℕ)) → length left ≡ 0 → below (steps_of left) (steps_of right) ≡ not (eqb (length right) 0)
first_ends left right h = ap (λ (l : List (List ℕ)). below (steps_of l) (steps_of right)) (nil_from_length left h) ∙ at right
  where
    at : (right : List (List ℕ)) → below [] (steps_of right) ≡ not (eqb (length right) 0)
    at [] = refl
    at (y ∷ ys) = sym (ap not (ne_eqb (length (y ∷ ys)) 0 (λ e. let z : ◌≡◌ {A = ℕ} 0 1 = omega (arith, e) in omega (arith, z))))

module _ (left right : List (List ℕ)) (x y : List ℕ) (xs ys : List (List ℕ)) (e : left ≡ x ∷ xs) (f : right ≡ y ∷ ys) (m n : ℕ) (is_m : big_endian x ≡ m) (is-n : big_endian y ≡ n) where
  heads : below (steps_of left) (steps_of right) ≡ cond (eqb m n) (below (steps_of xs) (steps_of ys)) (ltb m n)
  heads =
      (λ i. below (steps_of (e i)) (steps_of (f i))) ∙ (λ i. cond (eqb (is_m i) (is-n i)) (below (steps_of xs) (steps_of ys)) (ltb (is_m i) (is-n i)))

  pub steps-differ : ¬ (m ≡ n) → below (steps_of left) (steps_of right) ≡ ltb m n
  steps-differ d = heads ∙ ap (λ (b : Bool). cond b (below (steps_of xs) (steps_of ys)) (ltb m n)) (ne_eqb m n d)

  pub steps-same : m ≡ n → below (steps_of left) (steps_of right) ≡ below (steps_of xs) (steps_of ys)
  steps-same s = heads ∙ ap (λ (b : Bool). cond b (below (steps_of xs) (steps_of ys)) (ltb m n)) (eq-eqb m n s)
