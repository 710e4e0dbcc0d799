use Rattle.std.proofs.Common.{vec_items}
use Rattle.line.specs.Lines.{hex_of_byte}
use Rattle.line.proofs.Writes.{Sofar}
use Rattle.line.proofs.writer.push_hex.Given as goal

abbrev pub invariant-loop-byte : goal.invariant-loop-byte
invariant-loop-byte l = Sofar hex_of_byte (vec_items l.initial.out) l.bytes (vec_items l.out) l.byte-index
