use Rattle.digest.proofs.Roots.{constants-right}
use Rattle.digest.proofs.constants_stand.Goals as goal

pub returns : goal.returns
returns c = constants-right
