use Rattle.digest.specs.Sha256.{scheduled}
use Rattle.digest.proofs.block.word.Goals as goal

pub returns : goal.returns
unfolding scheduled
returns c = simp (c.rotate_right.ensures, c.rotate_right-2.ensures, c.rotate_right-3.ensures, c.rotate_right-4.ensures)
