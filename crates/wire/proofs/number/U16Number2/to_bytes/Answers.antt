use Rattle.std.proofs.Common.{rules}
use Rattle.wire.proofs.Digits.{two_bytes}
use Rattle.wire.proofs.number.U16Number2.to_bytes.Goals as goal

pub returns : goal.returns
returns c = search (rules, two_bytes)
