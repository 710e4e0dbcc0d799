use Rattle.model.proofs.recorded_stands.Goals as goal
use Rattle.model.proofs.Bounds.{recorded}

pub returns : goal.returns
returns c = recorded
