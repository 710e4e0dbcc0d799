use Rattle.std.proofs.Common.{rules}
use Rattle.wire.proofs.Digits.{one_byte}
use Rattle.wire.proofs.number.U8Number1.to_bytes.Goals as goal

pub returns : goal.returns
returns c = search (rules, one_byte)
