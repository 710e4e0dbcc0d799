use Rattle.std.proofs.Common.{append_assoc, rules}
use Rattle.line.specs.Lines.{bare, hexed}
use Rattle.line.proofs.writer.write_bytes.Goals as goal

pub returns : goal.returns
unfolding bare hexed
returns c = search (rules, append_assoc)
