use Rattle.std.proofs.Common.{rules}
use Rattle.wire.proofs.Numbers.{eight}
use Rattle.wire.proofs.number.U64Number8.from_bytes.Goals as goal

pub returns : goal.returns
returns c = search (rules, eight)
