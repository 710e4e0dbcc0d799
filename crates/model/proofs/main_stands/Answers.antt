use Rattle.model.proofs.main_stands.Goals as goal
use Rattle.model.proofs.Backing.{main}

pub returns : goal.returns
returns c = main
