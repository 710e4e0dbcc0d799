-- Numbers as bytes, for every width. Assumes nothing.
use Rattle.std.proofs.Common.{◌≡◌, ℕ, zero, suc, ◌+◌, ◌*◌, ◌/◌, ◌%◌, ◌^◌, ◌<◌, ◌≤◌, List, [], ◌∷◌, ◌++◌, length, get_or, take, sym, refl, ap, ◌∙◌, subst, div-lt_iff_lt-mul, pow-suc, add-one, arith}
use native.Mathlib.Nat.{pow-zero}
use Rattle.std.specs.Int.Digits.{number_from_digits as number_in}
use Rattle.std.proofs.lemmas.List.{take_all, take_more, length-append}
use Rattle.std.proofs.ByRecursion.{All-get_or}
use Rattle.std.proofs.lemmas.Int.Digits.{number_more, number_push, number_lt}
use Rattle.model.specs.declared.fault.Fault.TheVariants.{OutOfRange}
use Rattle.wire.specs.Formats.{Lawful, Bytes}
use Rattle.wire.specs.Numbers.{big_endian, bytes_of, number, version}
use Rattle.wire.proofs.Laws.{lawful-recoded, lawful-only}

whole : (n : ℕ) (xs : List ℕ) → length xs ≡ n → number_in 256 (take n xs) ≡ number_in 256 xs
whole n xs h = ap (λ (l : List ℕ). number_in 256 l) (take_all n xs (omega (arith, h)))

pub one : (xs : List ℕ) → length xs ≡ 1 → big_endian xs ≡ get_or xs 0 0
unfolding big_endian
one xs h = omega (arith, whole 1 xs h, number_more 256 xs 0 (omega (arith, h)))

pub two : (xs : List ℕ) → length xs ≡ 2 → big_endian xs ≡ get_or xs 0 0 * 256 + get_or xs 1 0
unfolding big_endian
two xs h = omega (arith, whole 2 xs h, number_more 256 xs 0 (omega (arith, h)), number_more 256 xs 1 (omega (arith, h)))

pub four : (xs : List ℕ) → length xs ≡ 4 → big_endian xs ≡ get_or xs 0 0 * 16777216 + get_or xs 1 0 * 65536 + get_or xs 2 0 * 256 + get_or xs 3 0
unfolding big_endian
four xs h = omega (arith, whole 4 xs h, number_more 256 xs 0 (omega (arith, h)), number_more 256 xs 1 (omega (arith, h)), number_more 256 xs 2 (omega (arith, h)), number_more 256 xs 3 (omega (arith, h)))

pub eight : (xs : List ℕ) → length xs ≡ 8 →
    big_endian xs ≡ get_or xs 0 0 * 72057594037927936 + get_or xs 1 0 * 281474976710656 + get_or xs 2 0 * 1099511627776 + get_or xs 3 0 * 4294967296 + get_or xs 4 0 * 16777216 + get_or xs 5 0 * 65536 + get_or xs 6 0 * 256 + get_or xs 7 0
unfolding big_endian
eight xs h = omega (
  arith,
  whole 8 xs h,
  number_more 256 xs 0 (omega (arith, h)),
  number_more 256 xs 1 (omega (arith, h)),
  number_more 256 xs 2 (omega (arith, h)),
  number_more 256 xs 3 (omega (arith, h)),
  number_more 256 xs 4 (omega (arith, h)),
  number_more 256 xs 5 (omega (arith, h)),
  number_more 256 xs 6 (omega (arith, h)),
  number_more 256 xs 7 (omega (arith, h)),
)

-- THE LAWS, FOR EVERY WIDTH

pub length-bytes_of : (n x : ℕ) → length (bytes_of n x) ≡ n
unfolding bytes_of
length-bytes_of zero x = refl
length-bytes_of (suc n) x = omega (arith, length-append (bytes_of n (x / 256)) (x % 256 ∷ []), length-bytes_of n (x / 256))

-- the bytes of a number write it
pub back-again : (n x : ℕ) → x < 256 ^ n → big_endian (bytes_of n x) ≡ x
unfolding big_endian bytes_of
back-again zero x h = omega (arith, h, pow-zero 256)
back-again (suc n) x h =
    let smaller : x / 256 < 256 ^ n = (div-lt_iff_lt-mul (omega arith)).1 (subst (λ m. x < m) (pow-suc 256 n) h) in
    omega (arith, number_push 256 (bytes_of n (x / 256)) (x % 256), back-again n (x / 256) smaller)

-- the first i bytes are those of their number
front-again : (xs : List ℕ) → Bytes xs → (i : ℕ) → i ≤ length xs → bytes_of i (number_in 256 (take i xs)) ≡ take i xs
unfolding bytes_of
front-again xs b zero h = refl
front-again xs b (suc i) h =
    let d = get_or xs i 0 in
    let m = number_in 256 (take i xs) in
    let small : d < 256 = All-get_or (λ y. y < 256) xs i 0 (omega (arith, h)) b in
    let step : number_in 256 (take (suc i) xs) ≡ m * 256 + d = ap (λ k. number_in 256 (take k xs)) (sym (add-one i)) ∙ number_more 256 xs i (omega (arith, h)) in
    let high : number_in 256 (take (suc i) xs) / 256 ≡ m = omega (arith, step, small) in
    let low : number_in 256 (take (suc i) xs) % 256 ≡ d = omega (arith, step, small) in
    (λ j. bytes_of i (high j) ++ (low j ∷ [])) ∙ (ap (λ l. l ++ (d ∷ [])) (front-again xs b i (omega (arith, h))) ∙ (sym (take_more xs i 0 (omega (arith, h))) ∙ ap (λ k. take k xs) (add-one i)))

pub once_more : (n : ℕ) (xs : List ℕ) → length xs ≡ n → Bytes xs → (bytes_of n (big_endian xs) ≡ xs) × (big_endian xs < 256 ^ n)
unfolding big_endian
once_more n xs l b =
    (ap (λ (m : ℕ). bytes_of n m) (sym (whole n xs l)) ∙ (front-again xs b n (omega (arith, l)) ∙ take_all n xs (omega (arith, l))), subst (λ (m : ℕ). number_in 256 xs < 256 ^ m) l (number_lt 256 xs b))

pub lawful-number : (n : ℕ) → Lawful (number n)
lawful-number n = lawful-recoded n big_endian (bytes_of n) (λ x. x < 256 ^ n) (λ x w. length-bytes_of n x) (back-again n) (once_more n)

pub lawful-version : Lawful version
lawful-version = lawful-only (number 4) _ OutOfRange (lawful-number 4)
