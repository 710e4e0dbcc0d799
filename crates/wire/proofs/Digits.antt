-- The bytes of a number, one by one. Assumes nothing.
use Rattle.std.proofs.Common.{◌≡◌, ℕ, ◌/◌, ◌%◌, ◌<◌, [], ◌∷◌, refl, ap, arith}
use Rattle.wire.specs.Numbers.{bytes_of}

pub one_byte : (x : ℕ) → x < 256 → bytes_of 1 x ≡ x ∷ []
unfolding bytes_of
one_byte x h = let e : x % 256 ≡ x = omega arith in ap (λ (d : ℕ). d ∷ []) e

-- a byte takes no more than the lowest digit
pub low_byte : (x : ℕ) → bytes_of 1 (x % 256) ≡ bytes_of 1 x
unfolding bytes_of
low_byte x = let e : x % 256 % 256 ≡ x % 256 = omega arith in ap (λ (d : ℕ). d ∷ []) e

pub two_bytes : (x : ℕ) → bytes_of 2 x ≡ x / 256 % 256 ∷ x % 256 ∷ []
unfolding bytes_of
two_bytes x = refl

pub four_bytes : (x : ℕ) → bytes_of 4 x ≡ x / 16777216 % 256 ∷ x / 65536 % 256 ∷ x / 256 % 256 ∷ x % 256 ∷ []
unfolding bytes_of
four_bytes x =
    let a : x / 256 / 256 ≡ x / 65536 = omega arith in
    let b : x / 256 / 256 / 256 ≡ x / 16777216 = omega arith in
    (λ i. b i % 256 ∷ a i % 256 ∷ x / 256 % 256 ∷ x % 256 ∷ [])

pub eight-bytes : (x : ℕ) →
    bytes_of 8 x ≡ x / 72057594037927936 % 256 ∷ x / 281474976710656 % 256 ∷ x / 1099511627776 % 256 ∷ x / 4294967296 % 256 ∷ x / 16777216 % 256 ∷ x / 65536 % 256 ∷ x / 256 % 256 ∷ x % 256 ∷ []
unfolding bytes_of
eight-bytes x =
    let a : x / 256 / 256 ≡ x / 65536 = omega arith in
    let b : x / 256 / 256 / 256 ≡ x / 16777216 = omega arith in
    let c : x / 256 / 256 / 256 / 256 ≡ x / 4294967296 = omega arith in
    let d : x / 256 / 256 / 256 / 256 / 256 ≡ x / 1099511627776 = omega arith in
    let e : x / 256 / 256 / 256 / 256 / 256 / 256 ≡ x / 281474976710656 = omega arith in
    let f : x / 256 / 256 / 256 / 256 / 256 / 256 / 256 ≡ x / 72057594037927936 = omega arith in
    (λ i. f i % 256 ∷ e i % 256 ∷ d i % 256 ∷ c i % 256 ∷ b i % 256 ∷ a i % 256 ∷ x / 256 % 256 ∷ x % 256 ∷ [])
