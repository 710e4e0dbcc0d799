use Rattle.std.proofs.Common.{refl}
use Rattle.digest.specs.Running.{hash_of}
use Rattle.digest.specs.Sha256.{added}
use Rattle.digest.proofs.block.State.plus.Goals as goal

pub returns : goal.returns
unfolding added hash_of
returns c = refl
