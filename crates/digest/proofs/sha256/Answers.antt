use Rattle.std.proofs.Common.{[]}
use Rattle.digest.proofs.sha256.Goals as goal

pub returns : goal.returns
returns c = c.finish.ensures c.args.message.now (c.update.ensures [] c.new-running.ensures)
