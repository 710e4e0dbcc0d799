use Rattle.digest.specs.Running.{Holds}
use Rattle.sha256_vectors.specs.Messages.{repeated}
use Rattle.sha256_vectors.proofs.digest_of.Given as goal

abbrev pub invariant-loop : goal.invariant-loop
invariant-loop l = Holds l.running (repeated l.counter l.part)
