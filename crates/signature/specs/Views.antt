-- What values of the code stand for. Assumes nothing.
use Rattle.std.specs.Prelude.{ℕ, List, map, take, drop}
use Rattle.signature.specs.declared.part.Signatures.{Signatures}
use Rattle.signature.specs.Signatures as spec

-- 32 bytes of a key, and the bytes behind it
abbrev pub signature_of : List ℕ → spec.Signature
signature_of bs = record { key = take 32 bs; bytes = drop 32 bs }

abbrev pub signatures_of : Signatures → List spec.Signature
signatures_of p = map signature_of p.items.now
