-- Bytes, and a few of a paper's that tell most papers apart. Assumes nothing.
use Rattle.std.specs.Prelude.{ℕ, Bool, true, ◌&&◌, List, [], ◌∷◌, nat_lt}
use Rattle.wire.specs.Numbers.{number}
use Rattle.wire.specs.Tables.{if_read}

-- the first eight bytes as a number, or 0 where there are fewer
unfoldable pub mark_of : List ℕ → ℕ
mark_of bs = if_read 0 (λ p. p.0) ((number 8).read bs)

-- each is a byte
abbrev pub is_bytes : List ℕ → Bool
is_bytes [] = true
is_bytes (b ∷ bs) = nat_lt b 256 && is_bytes bs
