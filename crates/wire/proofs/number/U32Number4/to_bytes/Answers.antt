use Rattle.std.proofs.Common.{rules}
use Rattle.wire.proofs.Digits.{four_bytes}
use Rattle.wire.proofs.number.U32Number4.to_bytes.Goals as goal

pub returns : goal.returns
returns c = search (rules, four_bytes)
