use Rattle.std.proofs.Common.{append_assoc, rules}
use Rattle.line.specs.Lines.{bare}
use Rattle.line.proofs.writer.write_word.Goals as goal

pub returns : goal.returns
unfolding bare
returns c = search (rules, append_assoc)
