-- Lines of text. Assumes nothing.
use Rattle.std.specs.Prelude.{ℕ, ◌+◌, ◌/◌, ◌%◌, cond, List, [], ◌∷◌, ◌++◌, decimal, nat_lt}
use Rattle.std.specs.List.{flat_map}
use Rattle.model.specs.Metadata.{Steps}

-- a line with just these bytes on it
unfoldable pub bare : List ℕ → List ℕ
bare word = word ++ (10 ∷ [])

-- a word, a space and a number
unfoldable pub numbered : List ℕ → ℕ → List ℕ
numbered word n = bare (word ++ (32 ∷ decimal n))

-- a hexadecimal digit: 0 to 9, a to f
abbrev pub digit_of : ℕ → ℕ
digit_of n = cond (nat_lt n 10) (48 + n) (87 + n)

-- the two digits of a byte
abbrev pub hex_of_byte : ℕ → List ℕ
hex_of_byte b = digit_of (b / 16) ∷ digit_of (b % 16) ∷ []

abbrev pub hex_of : List ℕ → List ℕ
hex_of bs = flat_map hex_of_byte bs

-- a word, a space and bytes
unfoldable pub hexed : List ℕ → List ℕ → List ℕ
hexed word bs = bare (word ++ (32 ∷ hex_of bs))

-- steps with a slash between them, and a mark before the first
abbrev pub steps_from : ℕ → Steps → List ℕ
steps_from mark [] = []
steps_from mark (s ∷ ss) = mark ∷ (decimal s ++ steps_from 47 ss)

-- a word, and behind a space the steps of a path, if there are any
unfoldable pub stepped : List ℕ → Steps → List ℕ
stepped word ss = bare (word ++ steps_from 32 ss)
