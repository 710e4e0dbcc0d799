-- The constants come from the roots of the first primes: one computed test over each table. Assumes nothing.
use Rattle.std.proofs.Common.{ℕ, zero, suc, ◌+◌, ◌*◌, ◌^◌, Bool, true, false, cond, ◌&&◌, T, ltb, leb, List, [], ◌∷◌, ltb→lt, leb→le}
use Rattle.digest.specs.Sha256.{constants, initial, words_in}
use Rattle.digest.specs.Constants.{primes_below, FractionOfRoot, FractionsOfRoots, ConstantsRight}

both : (a b : Bool) → T (a && b) → T a × T b
both true b t = (tt, t)
both false b t = absurd t

-- the largest number up to n whose k-th power is at most p
abbrev whole_part : ℕ → ℕ → ℕ → ℕ
whole_part k p zero = 0
whole_part k p (suc n) = cond (leb (suc n ^ k) p) (suc n) (whole_part k p n)

abbrev is_fraction : ℕ → ℕ → ℕ → ℕ → Bool
is_fraction k p c n =
    ltb c (2 ^ 32) && (leb ((n * 2 ^ 32 + c) ^ k) (p * 2 ^ (32 * k)) && ltb (p * 2 ^ (32 * k)) ((n * 2 ^ 32 + c + 1) ^ k))

fraction : (k p c n : ℕ) → T (is_fraction k p c n) → FractionOfRoot k p c
fraction k p c n t =
    let a = both (ltb c (2 ^ 32)) (leb ((n * 2 ^ 32 + c) ^ k) (p * 2 ^ (32 * k)) && ltb (p * 2 ^ (32 * k)) ((n * 2 ^ 32 + c + 1) ^ k)) t in
    let b = both (leb ((n * 2 ^ 32 + c) ^ k) (p * 2 ^ (32 * k))) (ltb (p * 2 ^ (32 * k)) ((n * 2 ^ 32 + c + 1) ^ k)) a.1 in
    (n, ltb→lt c (2 ^ 32) a.0, leb→le ((n * 2 ^ 32 + c) ^ k) (p * 2 ^ (32 * k)) b.0, ltb→lt (p * 2 ^ (32 * k)) ((n * 2 ^ 32 + c + 1) ^ k) b.1)

abbrev are_fractions : ℕ → List ℕ → List ℕ → Bool
are_fractions k [] [] = true
are_fractions k [] (c ∷ cs) = false
are_fractions k (p ∷ ps) [] = false
are_fractions k (p ∷ ps) (c ∷ cs) = is_fraction k p c (whole_part k p p) && are_fractions k ps cs

fractions : (k : ℕ) (ps cs : List ℕ) → T (are_fractions k ps cs) → FractionsOfRoots k ps cs
fractions k [] [] t = tt
fractions k [] (c ∷ cs) t = t
fractions k (p ∷ ps) [] t = t
fractions k (p ∷ ps) (c ∷ cs) t =
    let a = both (is_fraction k p c (whole_part k p p)) (are_fractions k ps cs) t in
    (fraction k p c (whole_part k p p) a.0, fractions k ps cs a.1)

pub constants-right : ConstantsRight
constants-right = (fractions 3 (primes_below 312) constants tt, fractions 2 (primes_below 20) (words_in initial) tt)
