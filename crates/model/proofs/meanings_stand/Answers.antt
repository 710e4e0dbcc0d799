use Rattle.model.proofs.meanings_stand.Goals as goal
use Rattle.model.proofs.Meant.{meanings}

pub returns : goal.returns
returns c = meanings
