-- What the tests mean. Assumes nothing.
use Rattle.model.specs.Same.{same_quorums, same_papers}
use Rattle.model.specs.Meanings.{Meanings}
use Rattle.model.proofs.Same.{tells, quorums, papers}
use Rattle.model.proofs.Count.{counts, enough-means}

pub meanings : Meanings
meanings = record { enough = enough-means; counted = counts; same-quorum = tells same_quorums quorums; same-paper = tells same_papers papers }
