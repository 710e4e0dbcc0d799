-- What a search through a table finds. Assumes nothing.
use Rattle.std.proofs.Common.{◌≡◌, ◌&&◌, Bool, cond, List, [], ◌∷◌, Some, None, Option, refl, ap, ◌∙◌}
use Rattle.std.specs.List.{find, list_all}
use Rattle.std.specs.Option.{option_map}
use Rattle.model.specs.Lists.{first}
use Rattle.model.specs.Metadata.{Meta}
use Rattle.model.specs.Taking.{at_least, version_in, covers}

-- the library's search is the law's
pub find-first : {A : Type 0} (test : A → Bool) (xs : List A) → find test xs ≡ first test xs
find-first test [] = refl
find-first test (x ∷ xs) = ap (λ r. cond (test x) (Some x) r) (find-first test xs)

-- what is taken of an item that was found, where the item stands for y
pub found-then : {V A B : Type 0} (v : V → A) (f : A → B) (r : Option V) (o : Option B) (test : A → Bool) (xs : List A) →
    o ≡ option_map (λ x. f (v x)) r → option_map v r ≡ find test xs → o ≡ option_map f (first test xs)
found-then {V} {A} {B} v f r o test xs h e = h ∙ twice r ∙ ap (option_map f) (e ∙ find-first test xs)
  where
    twice : (r : Option V) → option_map (λ x. f (v x)) r ≡ option_map f (option_map v r)
    twice None = refl
    twice (Some x) = refl

-- the library's test of all is the law's covering
pub all-covered : (new xs : List Meta) → list_all (λ (m : Meta). at_least m.version (version_in m.role new)) xs ≡ covers new xs
all-covered new [] = refl
all-covered new (x ∷ xs) = ap (λ b. at_least x.version (version_in x.role new) && b) (all-covered new xs)
