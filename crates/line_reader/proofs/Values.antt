-- Decimal and hexadecimal digits, as the code takes them apart. Assumes nothing.
use Rattle.std.proofs.Common.{◌≡◌, ℕ, zero, suc, ◌+◌, ◌*◌, ◌^◌, ◌<◌, ◌≤◌, Bool, true, false, cond, not, eqb, List, [], ◌∷◌, ◌++◌, map, length, get_or, take, drop, set, IsUtf8, decimal, Ok, Err, Result, sym, refl, ap, ◌∙◌, subst, true≢false, arith}
use Rattle.std.specs.Str.Parse.{AllDigits, ParsesUnsigned, digits_value, without_leading_plus}
use Rattle.std.specs.Simd.{first_chunks}
use Rattle.std.specs.List.{AllByRecursion}
use Rattle.std.proofs.lemmas.Fmt.{decimal_is_IsNumeral, decimal_digit, decimal-digits_value, first_decimal, IsAscii-decimal, parse-decimal, decimal_injective}
use Rattle.std.proofs.ByRecursion.{All-get_or}
use Rattle.std.proofs.lemmas.List.{get_or-map, map_push, take_more, take_more_set}
use Rattle.std.proofs.lemmas.Str.Parse.{numerals_by_value, tells_digits, digit_at}
use Rattle.std.proofs.lemmas.Bool.{eqb-true, eq-eqb, ne_eqb}
use Rattle.std.proofs.lemmas.Str.{IsUtf8-from_ascii}
use Rattle.std.specs.Result.{OkIff, result_ok}
use Rattle.wire.proofs.Laws.{not-ok}
use Rattle.line_reader.specs.Finds.{Found, well_begun}
use Rattle.line.specs.Lines.{hex_of_byte, hex_of}

-- DECIMAL

module _ (ds : List ℕ) (x : ℕ) (small : x < 2 ^ 64) (e : ds ≡ decimal x) where
  pub digits_utf8 : IsUtf8 ds
  digits_utf8 = subst IsUtf8 (sym e) (IsUtf8-from_ascii (decimal x) (IsAscii-decimal x small))

  pub digits-some : 0 < length ds
  digits-some = omega (arith, (decimal_is_IsNumeral x small).0.0, ap length e)

  pub first-digit : (first : ℕ) (more : List ℕ) → ds ≡ first ∷ more → 48 ≤ first
  first-digit first more h =
      let d = digit_at (decimal x) 0 (decimal_is_IsNumeral x small).0.1 (decimal_is_IsNumeral x small).0.0 in
      let same : get_or (decimal x) 0 0 ≡ first = ap (λ l. get_or l 0 0) (sym e ∙ h) in
      omega (arith, d.0, same)

  -- a zero leads only where it is all
  pub zero-alone : (more : List ℕ) → ds ≡ 48 ∷ more → length more ≡ 0
  zero-alone more h = at x refl
    where
      at : (y : ℕ) → x ≡ y → length more ≡ 0
      at zero z =
          let one : 48 ∷ more ≡ 48 ∷ [] = sym h ∙ e ∙ ap decimal z ∙ decimal_digit 0 (omega arith) in
          omega (arith, ap length one)
      at (suc y) z =
          let same : get_or (decimal x) 0 0 ≡ 48 = ap (λ l. get_or l 0 0) (sym e ∙ h) in
          absurd (omega (arith, first_decimal x (omega (arith, z)) small, same))

pub well-begun : (ds : List ℕ) (x : ℕ) → x < 2 ^ 64 → ds ≡ decimal x → (first : ℕ) (more : List ℕ) → ds ≡ first ∷ more → well_begun first more ≡ true
well-begun ds x small e first more h = at (eqb first 48) refl
  where
    at : (t : Bool) → eqb first 48 ≡ t → cond t (eqb (length more) 0) (not (eqb first 43)) ≡ true
    at true z = eq-eqb (length more) 0 (zero-alone ds x small e more (h ∙ ap (λ n. n ∷ more) (eqb-true first 48 z)))
    at false z = ap not (ne_eqb first 43 (λ w. omega (arith, first-digit ds x small e first more h, w)))

no_plus : (ds : List ℕ) (first : ℕ) (more : List ℕ) → ds ≡ first ∷ more → (first ≡ 43 → ⊥) → without_leading_plus ds ≡ ds
no_plus ds first more h n =
    let same : get_or ds 0 0 ≡ first = ap (λ l. get_or l 0 0) h in
    ap (λ t. drop (cond t 1 0) ds) (ne_eqb (get_or ds 0 0) 43 (λ z. n (sym same ∙ z)))

-- what was parsed is what the digits write
pub parsed-digits : (ds text : List ℕ) (first : ℕ) (more : List ℕ) (n : ℕ) → text ≡ ds → ds ≡ first ∷ more → well_begun first more ≡ true →
    (((0 < length (without_leading_plus text)) × AllDigits 10 (without_leading_plus text)) × (digits_value 10 (without_leading_plus text) < 2 ^ 64)) × (n ≡ digits_value 10 (without_leading_plus text)) → (ds ≡ decimal n) × (n < 2 ^ 64)
parsed-digits ds text first more n t h w r =
    let p : first ≡ 43 → ⊥ = λ z. true≢false (sym w ∙ ap (λ f. well_begun f more) z) in
    let alone : first ≡ 48 → length ds ≡ 1 = λ z. omega (arith, ap length h, eqb-true (length more) 0 (sym (ap (λ f. well_begun f more) z) ∙ w)) in
    let same : without_leading_plus text ≡ ds = ap without_leading_plus t ∙ no_plus ds first more h p in
    let k = subst (λ (l : List ℕ). (((0 < length l) × AllDigits 10 l) × (digits_value 10 l < 2 ^ 64)) × (n ≡ digits_value 10 l)) same r in
    let first-is : get_or ds 0 0 ≡ first = ap (λ l. get_or l 0 0) h in
    (sym (ap decimal k.1 ∙ decimal-digits_value (numerals_by_value _ tells_digits) ds k.0.0.1 k.0.0.0 (λ l. alone (sym first-is ∙ l)) k.0.1), omega (arith, k.1, k.0.1))

pub parsed : {E : Type 0} (ds text : List ℕ) (first : ℕ) (more : List ℕ) (r : Result ℕ E) → text ≡ ds → ds ≡ first ∷ more → well_begun first more ≡ true → ParsesUnsigned 64 10 text r → Found (λ n. n) decimal (λ n. n < 2 ^ 64) (result_ok r) ds
parsed ds text first more (Ok n) t h w p = parsed-digits ds text first more n t h w p
parsed ds text first more (Err e) t h w p = λ x small d. not-ok (parse-decimal 64 x text (Err e) small small (t ∙ d) p)

-- a number that two bytes hold
pub narrowed : {E : Type 0} (ds : List ℕ) (n : ℕ) (r : Result ℕ E) → ds ≡ decimal n → n < 2 ^ 64 → OkIff r (n < 2 ^ 16) n → Found (λ n. n) decimal (λ n. n < 65536) (result_ok r) ds
narrowed ds n (Ok m) d l p = (d ∙ ap decimal (sym p.1), omega (arith, p.0, p.1))
narrowed ds n (Err e) d l p = λ x small w. p (omega (arith, small, decimal_injective n x l (omega (arith, small)) (sym d ∙ w)))

-- HEXADECIMAL

pub length-hex : (bs : List ℕ) → length (hex_of bs) ≡ length bs * 2
length-hex [] = refl
length-hex (b ∷ bs) = omega (arith, length-hex bs)

-- the pairs of the digits of bytes
pub pairs-hex : (bs : List ℕ) → first_chunks 2 (length bs) (hex_of bs) ≡ map hex_of_byte bs
pairs-hex [] = refl
pairs-hex (b ∷ bs) = ap (λ l. hex_of_byte b ∷ l) (pairs-hex bs)

-- what the pairs stand for is written by their digits
pub hex-pairs : (bs digits : List ℕ) → length digits ≡ length bs * 2 → map hex_of_byte bs ≡ first_chunks 2 (length bs) digits → digits ≡ hex_of bs
hex-pairs [] [] l h = refl
hex-pairs [] (d ∷ ds) l h = absurd (omega arith)
hex-pairs (b ∷ bs) [] l h = absurd (omega arith)
hex-pairs (b ∷ bs) (c ∷ []) l h = absurd (omega arith)
hex-pairs (b ∷ bs) (c ∷ d ∷ ds) l h =
    let one : hex_of_byte b ≡ c ∷ d ∷ [] = cc in
    let more : map hex_of_byte bs ≡ first_chunks 2 (length bs) ds = cc in
    (λ i. sym one i ++ hex-pairs bs ds (omega arith) more i)

-- one byte more
pub hex-more : (bytes : List ℕ) (pairs : List (List ℕ)) (i b : ℕ) → i < length bytes → i < length pairs → map hex_of_byte (take i bytes) ≡ take i pairs → get_or pairs i [] ≡ hex_of_byte b →
    map hex_of_byte (take (i + 1) (set bytes i b)) ≡ take (i + 1) pairs
hex-more bytes pairs i b h k e g =
    ap (map hex_of_byte) (take_more_set bytes i b h) ∙ map_push hex_of_byte (take i bytes) b
    ∙ (λ j. e j ++ (sym g j ∷ [])) ∙ sym (take_more pairs i [] k)

-- a pair that is no byte's is none of the pairs of bytes
pub hex-none : (bs digits : List ℕ) (pairs : List (List ℕ)) (i : ℕ) → digits ≡ hex_of bs → pairs ≡ first_chunks 2 (length bs) digits → i < length bs → AllByRecursion (λ b. b < 256) bs →
    ((b : ℕ) → b < 256 → get_or pairs i [] ≡ hex_of_byte b → ⊥) → ⊥
hex-none bs digits pairs i e p h a none =
    none (get_or bs i 0) (All-get_or (λ b. b < 256) bs i 0 h a)
    (ap (λ l. get_or l i []) (p ∙ ap (first_chunks 2 (length bs)) e ∙ pairs-hex bs) ∙ get_or-map hex_of_byte bs i 0 [] h)

pub tail-same : (c : ℕ) (a b : List ℕ) → c ∷ a ≡ c ∷ b → a ≡ b
tail-same c a b e = cc
