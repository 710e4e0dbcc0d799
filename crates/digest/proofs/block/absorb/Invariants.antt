use Rattle.std.proofs.Common.{◌≡◌, drop}
use Rattle.digest.specs.Running.{hash_of}
use Rattle.digest.specs.Sha256.{absorbed}
use Rattle.digest.proofs.block.absorb.Given as goal

abbrev pub invariant-loop-block : goal.invariant-loop-block
invariant-loop-block l = absorbed (hash_of l.s) (drop l.block-index l.blocks) ≡ absorbed (hash_of l.initial.s) l.blocks
