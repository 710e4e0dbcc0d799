use Rattle.std.proofs.Common.{◌≡◌, length}
use Rattle.digest.specs.Running.{hash_of}
use Rattle.digest.specs.Sha256.{constants, extended, rounds, words}
use Rattle.digest.proofs.Windows.{to_end}
use Rattle.digest.proofs.block.compress.Given as goal

abbrev pub invariant-loop-k : goal.invariant-loop-k
invariant-loop-k l = record {
  sixteen : length l.words ≡ 16;
  leads : to_end l.k-index (hash_of l.t) l.words ≡ rounds (hash_of l.fn.s) constants (extended 48 (words 16 l.fn.block));
}
