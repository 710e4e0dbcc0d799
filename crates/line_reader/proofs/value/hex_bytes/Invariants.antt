use Rattle.std.proofs.Common.{◌≡◌, ◌<◌, map, length, take}
use Rattle.std.specs.List.{AllByRecursion}
use Rattle.line.specs.Lines.{hex_of_byte}
use Rattle.line_reader.proofs.value.hex_bytes.Given as goal

-- the bytes so far are those of the first pairs
abbrev pub invariant-loop-i : goal.invariant-loop-i
invariant-loop-i l = (map hex_of_byte (take l.i l.bytes) ≡ take l.i l.pairs) × (length l.bytes ≡ 32) × AllByRecursion (λ b. b < 256) l.bytes
