-- A filter under a map. Assumes nothing.
use Rattle.std.proofs.Common.{◌≡◌, Bool, true, false, cond, List, [], ◌∷◌, map, filter, refl, ap}

pub map-kept : {X Y : Type 0} (f : X → Y) (q : Y → Bool) (xs : List X) → map f (filter (λ x. q (f x)) xs) ≡ filter q (map f xs)
map-kept f q [] = refl
map-kept f q (x ∷ xs) = elim (q (f x)) as (λ b. map f (cond b (x ∷ filter (λ y. q (f y)) xs) (filter (λ y. q (f y)) xs)) ≡ cond b (f x ∷ filter q (map f xs)) (filter q (map f xs))) [ true ↦ ap (λ l. f x ∷ l) (map-kept f q xs) | false ↦ map-kept f q xs ]
