use Rattle.std.proofs.Common.{append_assoc, rules}
use Rattle.line.specs.Lines.{bare, stepped}
use Rattle.line.proofs.writer.write_steps.Goals as goal

pub returns : goal.returns
unfolding bare stepped
returns c = search (rules, append_assoc)
