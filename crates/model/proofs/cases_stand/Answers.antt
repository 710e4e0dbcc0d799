use Rattle.model.proofs.cases_stand.Goals as goal
use Rattle.model.proofs.Table.{cases}

pub returns : goal.returns
returns c = cases
