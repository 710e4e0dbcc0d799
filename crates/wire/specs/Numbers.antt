-- Blocks of bytes, and numbers with the high byte first. Assumes nothing.
use Rattle.std.specs.Prelude.{◌≡◌, ℕ, zero, suc, ◌/◌, ◌%◌, ◌^◌, ◌<◌, cond, not, List, [], ◌∷◌, ◌++◌, length, take, drop, Ok, Err, ◌==◌, nat_lt}
use Rattle.std.specs.Int.Digits.{number_from_digits as number_in}
use Rattle.model.specs.declared.fault.Fault.TheVariants.{Malformed, OutOfRange}
use Rattle.wire.specs.Formats.{Format, and_then, only}

-- n bytes as they are
abbrev pub block : ℕ → Format (List ℕ)
block n = record {
  read = λ bs. cond (nat_lt (length bs) n) (Err Malformed) (Ok (take n bs, drop n bs));
  write = λ xs. xs;
  Wf = λ xs. length xs ≡ n;
}

-- n bytes that stand for a value
abbrev pub recoded : {A : Type 0} → ℕ → (List ℕ → A) → (A → List ℕ) → (A → Type 0) → Format A
recoded n to from Fits = record {
  read = λ bs. and_then ((block n).read bs) (λ p. Ok (to p.0, p.1));
  write = from;
  Wf = Fits;
}

-- the number that bytes write, high byte first
unfoldable pub big_endian : List ℕ → ℕ
big_endian bs = number_in 256 bs

-- a number as n bytes
unfoldable pub bytes_of : ℕ → ℕ → List ℕ
bytes_of zero x = []
bytes_of (suc n) x = bytes_of n (x / 256) ++ (x % 256 ∷ [])

-- a number of n bytes
abbrev pub number : ℕ → Format ℕ
number n = recoded n big_endian (bytes_of n) (λ x. x < 256 ^ n)

-- a version is not 0
abbrev pub version : Format ℕ
version = only (number 4) (λ x. not (x == 0)) OutOfRange
