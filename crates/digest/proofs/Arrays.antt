-- Arrays that closures make: the words of a block, the bytes of the digest. Assumes nothing.
use Rattle.std.proofs.Common.{◌≡◌, ℕ, zero, suc, ◌+◌, ◌<◌, List, ◌∷◌, length, get_or, map, drop, sym, refl, ap, ◌∙◌, arith}
use Rattle.std.specs.Array.{IsMapOf, IsFromFnResult, IsFromFnResultFrom}
use Rattle.std.specs.Simd.{first_chunks}
use Rattle.std.proofs.lemmas.List.{same_lists, get_or-map, length-map, get_or-take}
use denote.Param.Members.{Mut, Called}
use Rattle.digest.specs.Sha256.{word, words}

-- an array that `map` made of numbers, where each call gives a function's value
pub map-is : {F B : Type 0} (g : Mut F (ℕ × Unit {0}) B) (h : ℕ → B) {f : F} (xs : List ℕ) {ys : List B} {n : ℕ} → length xs ≡ n → IsMapOf g f xs ys n
    → ((p q : F) (x : ℕ) (y : B) → Called g p (x, tt) y q → y ≡ h x) → ys ≡ map h xs
map-is g h xs {ys} l m calls =
    same_lists ys (map h xs) (m.long ∙ sym (length-map xs h ∙ l))
    (λ k d less.
    let a = m.at k 0 d (omega (arith, less, m.long)) in
    calls a.0 a.1 (get_or xs k 0) (get_or ys k d) a.2 ∙ sym (get_or-map h xs k 0 d (omega (arith, less, m.long))))

-- a word from its four bytes
abbrev pub word_in : List ℕ → ℕ
word_in bs = word (get_or bs 0 0) (get_or bs 1 0) (get_or bs 2 0) (get_or bs 3 0)

pub words-in_chunks : (n : ℕ) (bs : List ℕ) → map word_in (first_chunks 4 n bs) ≡ words n bs
words-in_chunks zero bs = refl
words-in_chunks (suc n) bs =
    let e0 = get_or-take 4 bs 0 0 (omega arith) in
    let e1 = get_or-take 4 bs 1 0 (omega arith) in
    let e2 = get_or-take 4 bs 2 0 (omega arith) in
    let e3 = get_or-take 4 bs 3 0 (omega arith) in
    rw (e0, e1, e2, e3) (ap (λ (v : List ℕ). word (get_or bs 0 0) (get_or bs 1 0) (get_or bs 2 0) (get_or bs 3 0) ∷ v) (words-in_chunks n (drop 4 bs)))

-- an array that `from_fn` made, where each call gives a function's value at an element of a list
from_fn-at : {F A B : Type 0} (g : Mut F (ℕ × Unit {0}) B) (f : F) (h : A → B) (e : A) (xs : List A) (ys : List B)
    → ((i : ℕ) (y : B) (q : F) → Called g f (i, tt) y q → (y ≡ h (get_or xs i e)) × (q ≡ f))
    → (n i j k : ℕ) (q : F) → q ≡ f → IsFromFnResultFrom g q ys i n → k ≡ i + j → j < n → (d : B) → get_or ys k d ≡ h (get_or xs k e)
from_fn-at g f h e xs ys calls zero i j k q same r at less d = absurd (omega (arith, less))
from_fn-at g f h e xs ys calls (suc n) i zero k q same r at less d =
    let s : k ≡ i = omega (arith, at) in
    let call = calls i r.1 r.0 (rw same at r.3) in
    rw s (r.2.1 d ∙ call.0)
from_fn-at g f h e xs ys calls (suc n) i (suc j) k q same r at less d =
    let call = calls i r.1 r.0 (rw same at r.3) in
    from_fn-at g f h e xs ys calls n (i + 1) j k r.0 call.1 r.4 (omega (arith, at)) (omega (arith, less)) d

pub from_fn-is : {F A B : Type 0} (g : Mut F (ℕ × Unit {0}) B) (f : F) (h : A → B) (e : A) (xs : List A) (ys : List B) (n : ℕ) → length xs ≡ n
    → IsFromFnResult g f ys n
    → ((i : ℕ) (y : B) (q : F) → Called g f (i, tt) y q → (y ≡ h (get_or xs i e)) × (q ≡ f)) → ys ≡ map h xs
from_fn-is g f h e xs ys n l r calls =
    same_lists ys (map h xs) (r.long ∙ sym (length-map xs h ∙ l))
    (λ k d less.
    let b : k < n = omega (arith, less, r.long) in
    from_fn-at g f h e xs ys calls n 0 k k f refl r.each (omega arith) b d ∙ sym (get_or-map h xs k e d (omega (arith, b, l))))
