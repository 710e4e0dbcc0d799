use Rattle.std.proofs.Common.{sym, ◌∙◌}
use Rattle.std.proofs.lemmas.Slice.Zip.{either_empty_from_Zip}
use Rattle.digest.specs.Running.{hash_of}
use Rattle.digest.proofs.Windows.{rounds-none}
use Rattle.digest.proofs.block.first.Goals as goal

pub returns : goal.returns
returns c =
    sym (rounds-none (hash_of c.loop-k.s) _ _ (either_empty_from_Zip c.loop-k.k-iterator c.next.new.self c.next.result c.in-None.is c.next.ensures.steps)) ∙ c.loop-k.invariant
