use borrow.Author.Rules.{rules}
use Rattle.model.specs.Lists.{all}
use Rattle.rotation.proofs.stays.Goals as goal

pub returns-then-same_quorum : goal.returns-then-same_quorum
unfolding all
returns-then-same_quorum c = search rules

pub returns-else-same_quorum : goal.returns-else-same_quorum
unfolding all
returns-else-same_quorum c = search rules
