use Rattle.std.proofs.Common.{rules}
use Rattle.wire.proofs.Numbers.{two}
use Rattle.wire.proofs.number.U16Number2.from_bytes.Goals as goal

pub returns : goal.returns
returns c = search (rules, two)
