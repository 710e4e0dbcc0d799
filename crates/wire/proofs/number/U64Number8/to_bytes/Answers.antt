use Rattle.std.proofs.Common.{rules}
use Rattle.wire.proofs.Digits.{eight-bytes}
use Rattle.wire.proofs.number.U64Number8.to_bytes.Goals as goal

pub returns : goal.returns
returns c = search (rules, eight-bytes)
