use Rattle.std.proofs.Common.{rules}
use Rattle.wire.proofs.Digits.{low_byte}
use Rattle.encoding.proofs.leaf.write_count.Goals as goal

pub returns : goal.returns
returns c = search (rules, low_byte)
