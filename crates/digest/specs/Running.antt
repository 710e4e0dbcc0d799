-- What a running state means. Assumes nothing.
use Rattle.std.specs.Prelude.{◌≡◌, ℕ, ◌*◌, ◌/◌, ◌%◌, ◌^◌, List, length, take, drop}
use Rattle.digest.specs.Sha256.{Hash, initial, absorbed, blocks}
use Rattle.digest.specs.declared.block.State.{State}
use Rattle.digest.specs.declared.running.Sha256.{Sha256}

-- the hash value that the code's words are
unfoldable pub hash_of : State → Hash
hash_of s = record { a = s.a; b = s.b; c = s.c; d = s.d; e = s.e; f = s.f; g = s.g; h = s.h }

-- the bytes after the whole blocks of a list of bytes
abbrev pub remainder : List ℕ → List ℕ
remainder bs = drop (length bs / 64 * 64) bs

-- the state has taken in these bytes: it has the hash value after their whole blocks, the bytes left over, and their number
pub record Holds (s : Sha256) (bs : List ℕ) : Type 0 where
  pub hash : hash_of s.state ≡ absorbed initial (blocks bs)
  pub tail : take (length bs % 64) s.tail ≡ remainder bs
  pub count : s.count ≡ length bs % 2 ^ 64
