use Rattle.std.proofs.Common.{◌≡◌, take}
use Rattle.digest.specs.Running.{hash_of}
use Rattle.digest.specs.Sha256.{constants, rounds}
use Rattle.digest.proofs.block.first.Given as goal

abbrev pub invariant-loop-k : goal.invariant-loop-k
invariant-loop-k l = rounds (hash_of l.s) l.k-iterator.a.rest.now l.k-iterator.b.rest.now ≡ rounds (hash_of l.fn.s) (take 16 constants) l.fn.words
