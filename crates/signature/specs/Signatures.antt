-- Signatures, the part of an offer that has them, and whose are right. Assumes nothing.
use Rattle.std.specs.Prelude.{ℕ, Bool, ◌&&◌, List, map, length, filter}
use Rattle.model.specs.Metadata.{Key}
use Rattle.model.specs.Same.{same_list}
use Rattle.wire.specs.Formats.{Format, pair, mapped}
use Rattle.wire.specs.Numbers.{block, number}
use Rattle.wire.specs.Tables.{table}

-- a signature, and the key that it is said to be of
pub record Signature : Type 0 where
  pub key : Key
  pub bytes : List ℕ

-- a key of 32 bytes, and 64 bytes
abbrev pub signature : Format Signature
signature = mapped (pair (block 32) (λ _. block 64)) (λ x. record { key = x.0; bytes = x.1 }) (λ s. (s.key, s.bytes))

-- one byte with their number, and then so many, in any order
abbrev pub signatures : Format (List Signature)
signatures = mapped (pair (number 1) (λ n. table signature n)) (λ x. x.1) (λ ss. (length ss, ss))

-- what a scheme accepts: key, message, signature
abbrev pub Accepts : Type 0
Accepts = Key → List ℕ → List ℕ → Bool

-- accepted as a signature of its key
abbrev pub is_right : Accepts → List ℕ → Signature → Bool
is_right accepts message s = accepts s.key message s.bytes

-- a right signature of this key
abbrev pub right_of : Accepts → List ℕ → Key → Signature → Bool
right_of accepts message k s = same_list k s.key && is_right accepts message s

-- the keys of the right signatures, in their order
abbrev pub signers_in : Accepts → List ℕ → List Signature → List Key
signers_in accepts message ss = map (λ s. s.key) (filter (is_right accepts message) ss)
