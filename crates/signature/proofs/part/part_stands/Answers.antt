use Rattle.signature.proofs.Cutting.{lawful-signatures}
use Rattle.signature.proofs.part.part_stands.Goals as goal

pub returns : goal.returns
returns c = lawful-signatures
