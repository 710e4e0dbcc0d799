use Rattle.std.proofs.Common.{rules}
use Rattle.journal.specs.Marks.{mark_of}
use Rattle.journal.proofs.notes.mark_of.Goals as goal

pub returns : goal.returns
unfolding mark_of
returns c = search rules
