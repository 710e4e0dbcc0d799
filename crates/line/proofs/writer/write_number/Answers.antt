use Rattle.std.proofs.Common.{append_assoc, rules}
use Rattle.line.specs.Lines.{bare, numbered}
use Rattle.line.proofs.writer.write_number.Goals as goal

pub returns : goal.returns
unfolding bare numbered
returns c = search (rules, append_assoc)
