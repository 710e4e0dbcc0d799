use Rattle.std.proofs.Common.{rules}
use Rattle.model.specs.Lists.{all}
use Rattle.journal.proofs.journal.Journal.has_room_for_root.Goals as goal

pub returns-then-fits : goal.returns-then-fits
unfolding all
returns-then-fits c = search rules

pub returns-else-fits : goal.returns-else-fits
unfolding all
returns-else-fits c = search rules
