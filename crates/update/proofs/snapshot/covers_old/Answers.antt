use Rattle.std.proofs.Common.{rules}
use Rattle.model.specs.Lists.{all}
use Rattle.update.proofs.snapshot.covers_old.Goals as goal

pub returns-then-covers : goal.returns-then-covers
unfolding all
returns-then-covers c = search rules

pub returns-else-covers : goal.returns-else-covers
unfolding all
returns-else-covers c = search rules
