use Rattle.std.proofs.Common.{rules}
use Rattle.wire.proofs.Numbers.{one}
use Rattle.wire.proofs.number.U8Number1.from_bytes.Goals as goal

pub returns : goal.returns
returns c = search (rules, one)
