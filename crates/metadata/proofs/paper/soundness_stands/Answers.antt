use Rattle.metadata.proofs.Sound.{sound}
use Rattle.metadata.proofs.paper.soundness_stands.Goals as goal

pub returns : goal.returns
returns c = sound
