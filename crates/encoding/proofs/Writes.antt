-- What a loop that writes item by item keeps. Assumes nothing.
use Rattle.std.proofs.Common.{◌≡◌, ℕ, ◌+◌, ◌<◌, ◌≤◌, List, [], ◌∷◌, ◌++◌, map, length, get_or, take, sym, refl, ap, ◌∙◌, append_assoc, append-nil}
use Rattle.std.specs.List.{flat_map}
use Rattle.std.proofs.lemmas.List.{flat_map_more, take_more, take_all}

module _ {X : Type 0} (f : X → List ℕ) (before : List ℕ) (xs : List X) where
  -- the first i items are written
  abbrev pub Sofar : List ℕ → ℕ → Type 0
  Sofar out i = out ≡ before ++ flat_map f (take i xs)

  pub wrote-more : (out after : List ℕ) (i : ℕ) (d : X) → i < length xs → Sofar out i → after ≡ out ++ f (get_or xs i d) → Sofar after (i + 1)
  wrote-more out after i d h o a =
      a ∙ ap (λ l. l ++ f (get_or xs i d)) o ∙ flat_map_more f before (take i xs) (get_or xs i d) ∙ ap (λ l. before ++ flat_map f l) (sym (take_more xs i d h))

  pub wrote-all : (out : List ℕ) (i : ℕ) → length xs ≤ i → Sofar out i → out ≡ before ++ flat_map f xs
  wrote-all out i h o = o ∙ ap (λ l. before ++ flat_map f l) (take_all i xs h)

-- a loop over what is left: one item more, and the end
module _ {X : Type 0} (f : X → List ℕ) (out : List ℕ) where
  pub left-more : (after : List ℕ) (left : List X) (x : X) (rest : List X) (whole : List ℕ) → left ≡ x ∷ rest → after ≡ out ++ f x → out ++ flat_map f left ≡ whole → after ++ flat_map f rest ≡ whole
  left-more after left x rest whole e a h =
      ap (λ l. l ++ flat_map f rest) a ∙ append_assoc out (f x) (flat_map f rest) ∙ ap (λ (l : List X). out ++ flat_map f l) (sym e) ∙ h

  pub left-none : (left : List X) (whole : List ℕ) → left ≡ [] → out ++ flat_map f left ≡ whole → out ≡ whole
  left-none left whole e h = sym (append-nil out) ∙ ap (λ (l : List X). out ++ flat_map f l) (sym e) ∙ h

pub joined-map : {X Y : Type 0} (f : Y → List ℕ) (g : X → Y) (xs : List X) → flat_map (λ x. f (g x)) xs ≡ flat_map f (map g xs)
joined-map f g [] = refl
joined-map f g (x ∷ xs) = ap (λ l. f (g x) ++ l) (joined-map f g xs)
