-- A list of bytes is as a format asks it. Assumes nothing.
use Rattle.std.proofs.Common.{ℕ, ◌<◌, List, get_or, Fits, w8, arith}
use Rattle.std.proofs.ByRecursion.{All-from_get_or}
use Rattle.wire.specs.Formats.{Bytes}

pub octets : (bs : List ℕ) → ((i : ℕ) → Fits w8 (get_or bs i 0)) → Bytes bs
octets bs h = All-from_get_or (λ (b : ℕ). b < 256) bs 0 (λ i _. omega (arith, h i))
