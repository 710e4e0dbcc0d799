use Rattle.std.proofs.Common.{rules}
use Rattle.wire.proofs.Tables.{items_few}
use Rattle.metadata.specs.Papers.{delegation}
use Rattle.metadata.proofs.contents.Targets.delegation_count.Goals as goal

pub overflow_cast-result : goal.overflow_cast-result
overflow_cast-result c = let few = items_few delegation c.args.self.delegations.count c.args.self.delegations.bytes.now in search rules
