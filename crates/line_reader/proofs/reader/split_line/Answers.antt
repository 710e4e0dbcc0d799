use Rattle.std.proofs.Common.{None, [], rules}
use Rattle.line_reader.specs.Finds.{Behind}
use Rattle.line_reader.proofs.Finding.{no_end, first_end}
use Rattle.line_reader.proofs.reader.split_line.Goals as goal

pub returns-in_err-end : goal.returns-in_err-end
returns-in_err-end c = let none : Behind [] None c.args.text.now = no_end c.args.text.now c.in_err-end.ensures in search (rules, none)

pub returns : goal.returns
returns c = first_end c.args.text.now c.in_ok-end.end c.in_ok-end.ensures
