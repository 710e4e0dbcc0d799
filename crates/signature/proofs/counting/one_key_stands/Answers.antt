use Rattle.signature.proofs.Choosing.{one-key-once}
use Rattle.signature.proofs.counting.one_key_stands.Goals as goal

pub returns : goal.returns
returns c = one-key-once
