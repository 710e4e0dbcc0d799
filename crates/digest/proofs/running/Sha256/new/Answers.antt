use Rattle.std.proofs.Common.{refl}
use Rattle.digest.specs.Running.{hash_of}
use Rattle.digest.proofs.running.Sha256.new.Goals as goal

pub returns : goal.returns
unfolding hash_of
returns c = record { hash = refl; tail = refl; count = refl }
