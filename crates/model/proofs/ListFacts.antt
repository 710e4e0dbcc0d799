-- The words on lists: tests that compute against relations. Assumes nothing.
use Rattle.std.proofs.Common.{◌≡◌, Bool, true, false, cond, T, ◌⊎◌, List, [], ◌∷◌, ◌++◌, Some, None, filter, sym, refl, ap, ◌∙◌, subst, inl, inr}
use mathlib.Core.List.{Memᴰ}
use Rattle.model.specs.Lists.{any, first, First, Sifted, over, keeps, drops, DifferBy}
use Rattle.model.proofs.Facts.{or_case, or_l, or_r, is_true, is_false, some-not, none-not, some_same, Decides}

-- what holds of all elements behind a cons
pub cons-all : {A : Type 0} (P : A → Type 0) (x : A) (xs : List A) → P x → ((y : A) → Memᴰ y xs → P y) → (y : A) → Memᴰ y (x ∷ xs) → P y
cons-all P x xs p h y (Memᴰ.head e) = subst P (sym e) p
cons-all P x xs p h y (Memᴰ.tail m) = h y m

-- FIRST

module _ {A : Type 0} (P : A → Type 0) (test : A → Bool) (dec : (x : A) → Decides (test x) (P x)) where
  pub first-is : (xs : List A) (x : A) → first test xs ≡ Some x → First P xs x
  first-is [] x e = absurd (none-not x e)
  first-is (y ∷ ys) x e = at (test y) refl e (first-is ys x)
    where
      at : (b : Bool) → test y ≡ b → cond b (Some y) (first test ys) ≡ Some x → (first test ys ≡ Some x → First P ys x) → First P (y ∷ ys) x
      at true h u go =
          let same : y ≡ x = some_same y x u in
          record { before = []; behind = ys; split = ap (λ z. z ∷ ys) same; is = subst P same ((dec y).0 (is_true (test y) h)); none = λ z m. elim m [ ] }
      at false h u go =
          let f = go u in
          record {
            before = y ∷ f.before;
            behind = f.behind;
            split = ap (λ zs. y ∷ zs) f.split;
            is = f.is;
            none = cons-all (λ z. ¬ (P z)) y f.before (λ p. is_false (test y) h ((dec y).1 p)) f.none;
          }

  pub first-none : (xs : List A) → first test xs ≡ None → (x : A) → Memᴰ x xs → ¬ (P x)
  first-none [] e = λ x m. elim m [ ]
  first-none (y ∷ ys) e = at (test y) refl e (first-none ys)
    where
      at : (b : Bool) → test y ≡ b → cond b (Some y) (first test ys) ≡ None → (first test ys ≡ None → (x : A) → Memᴰ x ys → ¬ (P x)) → (x : A) → Memᴰ x (y ∷ ys) → ¬ (P x)
      at true h u go = absurd (some-not y u)
      at false h u go = cons-all (λ z. ¬ (P z)) y ys (λ p. is_false (test y) h ((dec y).1 p)) (go u)

  some_first : (before behind : List A) (x : A) → P x → ((y : A) → Memᴰ y before → ¬ (P y)) → first test (before ++ (x ∷ behind)) ≡ Some x
  some_first [] behind x p n = at (test x) ((dec x).1 p)
    where
      at : (b : Bool) → T b → cond b (Some x) (first test behind) ≡ Some x
      at true t = refl
      at false t = absurd t
  some_first (y ∷ ys) behind x p n = at (test y) refl (some_first ys behind x p (λ z m. n z (Memᴰ.tail m)))
    where
      at : (b : Bool) → test y ≡ b → first test (ys ++ (x ∷ behind)) ≡ Some x → cond b (Some y) (first test (ys ++ (x ∷ behind))) ≡ Some x
      at true h e = absurd (n y (Memᴰ.head refl) ((dec y).0 (is_true (test y) h)))
      at false h e = e

  -- the relation has the answer of the test
  pub is-first : (xs : List A) (x : A) → First P xs x → first test xs ≡ Some x
  is-first xs x f = ap (λ (zs : List A). first test zs) f.split ∙ some_first f.before f.behind x f.is f.none

  -- KEPT BY

  pub sifted : (xs : List A) → Sifted P xs (filter test xs)
  sifted [] = over
  sifted (x ∷ xs) = at (test x) refl (sifted xs)
    where
      at : (b : Bool) → test x ≡ b → Sifted P xs (filter test xs) → Sifted P (x ∷ xs) (cond b (x ∷ filter test xs) (filter test xs))
      at true h s = keeps ((dec x).0 (is_true (test x) h)) s
      at false h s = drops (λ p. is_false (test x) h ((dec x).1 p)) s

  pub sifted-same : {xs ys : List A} → Sifted P xs ys → filter test xs ≡ ys
  sifted-same over = refl
  sifted-same (keeps {x = x} {xs = xs} {ys = ys} p s) = at (test x) ((dec x).1 p) (sifted-same s)
    where
      at : (b : Bool) → T b → filter test xs ≡ ys → cond b (x ∷ filter test xs) (filter test xs) ≡ x ∷ ys
      at true t e = ap (λ zs. x ∷ zs) e
      at false t e = absurd t
  sifted-same (drops {x = x} {xs = xs} {ys = ys} n s) = at (test x) (dec x).0 (sifted-same s)
    where
      at : (b : Bool) → (T b → P x) → filter test xs ≡ ys → cond b (x ∷ filter test xs) (filter test xs) ≡ ys
      at true t e = absurd (n (t tt))
      at false t e = e

  -- ANY

  pub any-is : (xs : List A) → T (any test xs) → (x : A) × Memᴰ x xs × P x
  any-is [] t = absurd t
  any-is (x ∷ xs) t = at (or_case (test x) (any test xs) t) (any-is xs)
    where
      at : T (test x) ⊎ T (any test xs) → (T (any test xs) → (y : A) × Memᴰ y xs × P y) → (y : A) × Memᴰ y (x ∷ xs) × P y
      at (inl h) go = (x, Memᴰ.head refl, (dec x).0 h)
      at (inr h) go = let g = go h in (g.0, Memᴰ.tail g.1, g.2)

  pub is_any : (xs : List A) (x : A) → Memᴰ x xs → P x → T (any test xs)
  is_any [] x m p = elim m [ ]
  is_any (y ∷ ys) x (Memᴰ.head e) p = or_l (test y) (any test ys) ((dec y).1 (subst P e p))
  is_any (y ∷ ys) x (Memᴰ.tail m) p = or_r (test y) (any test ys) (is_any ys x m p)

-- a first element is in the list
pub first-in : {A : Type 0} (P : A → Type 0) (xs : List A) (x : A) → First P xs x → Memᴰ x xs
first-in {A} P xs x f = subst (λ (zs : List A). Memᴰ x zs) (sym f.split) (among f.before)
  where
    among : (zs : List A) → Memᴰ x (zs ++ (x ∷ f.behind))
    among [] = Memᴰ.head refl
    among (z ∷ zs) = Memᴰ.tail (among zs)

-- what is kept was there and passes; and the other way round
pub kept_in : {A : Type 0} (test : A → Bool) (xs : List A) (x : A) → Memᴰ x (filter test xs) → Memᴰ x xs × T (test x)
kept_in test [] x m = elim m [ ]
kept_in {A} test (y ∷ ys) x m = at (test y) refl m (kept_in test ys x)
  where
    here : T (test y) → Memᴰ x (y ∷ filter test ys) → (Memᴰ x (filter test ys) → Memᴰ x ys × T (test x)) → Memᴰ x (y ∷ ys) × T (test x)
    here t (Memᴰ.head e) go = (Memᴰ.head e, subst (λ (z : A). T (test z)) (sym e) t)
    here t (Memᴰ.tail n) go = (Memᴰ.tail (go n).0, (go n).1)

    at : (b : Bool) → test y ≡ b → Memᴰ x (cond b (y ∷ filter test ys) (filter test ys)) → (Memᴰ x (filter test ys) → Memᴰ x ys × T (test x)) → Memᴰ x (y ∷ ys) × T (test x)
    at true h n go = here (is_true (test y) h) n go
    at false h n go = (Memᴰ.tail (go n).0, (go n).1)

pub in_kept : {A : Type 0} (test : A → Bool) (xs : List A) (x : A) → Memᴰ x xs → T (test x) → Memᴰ x (filter test xs)
in_kept test [] x m t = elim m [ ]
in_kept {A} test (y ∷ ys) x (Memᴰ.head e) t = at (test y) (subst (λ (z : A). T (test z)) e t)
  where
    at : (b : Bool) → T b → Memᴰ x (cond b (y ∷ filter test ys) (filter test ys))
    at true u = Memᴰ.head e
    at false u = absurd u
in_kept test (y ∷ ys) x (Memᴰ.tail m) t = at (test y) (in_kept test ys x m t)
  where
    at : (b : Bool) → Memᴰ x (filter test ys) → Memᴰ x (cond b (y ∷ filter test ys) (filter test ys))
    at true u = Memᴰ.tail u
    at false u = u

pub kept-differ : {A B : Type 0} (f : A → B) (test : A → Bool) (xs : List A) → DifferBy f xs → DifferBy f (filter test xs)
kept-differ f test [] d = tt
kept-differ f test (x ∷ xs) d = at (test x) (kept-differ f test xs d.1)
  where
    at : (b : Bool) → DifferBy f (filter test xs) → DifferBy f (cond b (x ∷ filter test xs) (filter test xs))
    at true u = ((λ y m. d.0 y (kept_in test xs y m).0), u)
    at false u = u

-- what a search by a test finds is there and passes
pub first_found : {A : Type 0} (test : A → Bool) (xs : List A) (x : A) → first test xs ≡ Some x → Memᴰ x xs × T (test x)
first_found test xs x e =
    let f = first-is (λ y. T (test y)) test (λ y. ((λ t. t), (λ t. t))) xs x e in
    (first-in (λ y. T (test y)) xs x f, f.is)

-- elements with the same f are the same
pub differ_same : {A B : Type 0} (f : A → B) (xs : List A) → DifferBy f xs → (x y : A) → Memᴰ x xs → Memᴰ y xs → f x ≡ f y → x ≡ y
differ_same f [] d x y m n e = elim m [ ]
differ_same f (z ∷ zs) d x y (Memᴰ.head h) (Memᴰ.head k) e = h ∙ sym k
differ_same f (z ∷ zs) d x y (Memᴰ.head h) (Memᴰ.tail k) e = absurd (d.0 y k (sym e ∙ ap f h))
differ_same f (z ∷ zs) d x y (Memᴰ.tail h) (Memᴰ.head k) e = absurd (d.0 x h (e ∙ ap f k))
differ_same f (z ∷ zs) d x y (Memᴰ.tail h) (Memᴰ.tail k) e = differ_same f zs d.1 x y h k e
