use Rattle.model.proofs.onward_stands.Goals as goal
use Rattle.model.proofs.Going.{onward}

pub returns : goal.returns
returns c = onward
