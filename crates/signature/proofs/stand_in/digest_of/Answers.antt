use Rattle.std.proofs.Common.{[], ◌++◌}
use Rattle.signature.proofs.stand_in.digest_of.Goals as goal

pub returns : goal.returns
returns c =
    let front = c.args.front.now in
    c.finish.ensures (front ++ c.args.back.now) (c.update-2.ensures front (c.update.ensures [] c.new-running.ensures))
