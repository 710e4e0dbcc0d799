use Rattle.model.proofs.blames_stand.Goals as goal
use Rattle.model.proofs.Blaming.{blames}

pub returns : goal.returns
returns c = blames
