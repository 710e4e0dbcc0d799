use Rattle.digest.proofs.Written.{padded-whole}
use Rattle.digest.proofs.padding_stands.Goals as goal

pub returns : goal.returns
returns c = padded-whole
