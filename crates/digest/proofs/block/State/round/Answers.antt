use Rattle.digest.specs.Running.{hash_of}
use Rattle.digest.specs.Sha256.{round}
use Rattle.digest.proofs.block.State.round.Goals as goal

pub returns : goal.returns
unfolding round hash_of
returns c = simp (c.rotate_right.ensures, c.rotate_right-2.ensures, c.rotate_right-3.ensures, c.rotate_right-4.ensures, c.rotate_right-5.ensures, c.rotate_right-6.ensures)
