use Rattle.std.proofs.Common.{rules}
use Rattle.wire.proofs.Numbers.{four}
use Rattle.wire.proofs.number.U32Number4.from_bytes.Goals as goal

pub returns : goal.returns
returns c = search (rules, four)
