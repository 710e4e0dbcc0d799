-- What values of the code stand for. Assumes nothing.
use Rattle.model.specs.Metadata as model
use Rattle.wire.specs.declared.quorum.Quorum.{Quorum}

abbrev pub quorum_of : Quorum → model.Quorum
quorum_of q = record { keys = q.keys.now; threshold = q.threshold }
