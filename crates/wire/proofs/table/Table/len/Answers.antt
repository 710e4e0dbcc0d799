use Rattle.std.proofs.Common.{rules}
use Rattle.wire.proofs.Tables.{items_few}
use Rattle.wire.proofs.table.Table.len.Goals as goal

pub count-requires-clause-fits : goal.count-requires-clause-fits
count-requires-clause-fits g c = let few = items_few g.K.Kind.form c.args.self.count c.args.self.bytes.now in search rules

pub overflow_cast-result : goal.overflow_cast-result
overflow_cast-result g c = let few = items_few g.K.Kind.form c.args.self.count c.args.self.bytes.now in search rules
