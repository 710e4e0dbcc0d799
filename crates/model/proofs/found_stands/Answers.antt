use Rattle.model.proofs.found_stands.Goals as goal
use Rattle.model.proofs.Finding.{found-exactly}

pub returns : goal.returns
returns c = found-exactly
