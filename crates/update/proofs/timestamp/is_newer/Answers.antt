use Rattle.std.proofs.Common.{rules}
use Rattle.model.specs.Lists.{all}
use Rattle.update.proofs.timestamp.is_newer.Goals as goal

pub returns : goal.returns
unfolding all
returns c = search rules
