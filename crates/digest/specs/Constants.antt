-- Where the constants come from. Assumes nothing.
use Rattle.std.specs.Prelude.{ℕ, zero, suc, ◌+◌, ◌*◌, ◌%◌, ◌^◌, ◌<◌, ◌≤◌, Bool, true, false, cond, not, ◌&&◌, List, [], ◌∷◌, ◌++◌, ◌==◌}
use Rattle.digest.specs.Sha256.{constants, initial, words_in}

-- no number from 2 to d + 1 divides n
abbrev undivided : ℕ → ℕ → Bool
undivided zero n = true
undivided (suc d) n = not (n % suc (suc d) == 0) && undivided d n

-- n is 2 or more, and no number from 2 to n - 1 divides it
abbrev is_prime : ℕ → Bool
is_prime zero = false
is_prime (suc zero) = false
is_prime (suc (suc d)) = undivided d (suc (suc d))

-- the primes below n, in order
abbrev pub primes_below : ℕ → List ℕ
primes_below zero = []
primes_below (suc n) = primes_below n ++ cond (is_prime n) (n ∷ []) []

-- the word c is the first 32 bits of the fraction in the k-th root of p, which has some whole part n
abbrev pub FractionOfRoot : ℕ → ℕ → ℕ → Type 0
FractionOfRoot k p c =
    (n : ℕ) × (c < 2 ^ 32) × ((n * 2 ^ 32 + c) ^ k ≤ p * 2 ^ (32 * k)) × (p * 2 ^ (32 * k) < (n * 2 ^ 32 + c + 1) ^ k)

-- as many words as primes, each from the root of its prime
abbrev pub FractionsOfRoots : ℕ → List ℕ → List ℕ → Type 0
FractionsOfRoots k [] [] = Unit {0}
FractionsOfRoots k [] (c ∷ cs) = ⊥
FractionsOfRoots k (p ∷ ps) [] = ⊥
FractionsOfRoots k (p ∷ ps) (c ∷ cs) = FractionOfRoot k p c × FractionsOfRoots k ps cs

-- the constants are from the cube roots of the first 64 primes, and the initial hash value from the square roots of the first 8
abbrev pub ConstantsRight : Type 0
ConstantsRight = FractionsOfRoots 3 (primes_below 312) constants × FractionsOfRoots 2 (primes_below 20) (words_in initial)
