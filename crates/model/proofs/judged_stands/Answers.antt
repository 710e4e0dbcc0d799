use Rattle.model.proofs.judged_stands.Goals as goal
use Rattle.model.proofs.Judging.{judged}

pub returns : goal.returns
returns c = judged
