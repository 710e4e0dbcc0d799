use Rattle.std.proofs.Common.{length, drop, map, vec_items, ap}
use Rattle.std.proofs.lemmas.List.{drop_all}
use Rattle.wire.specs.Views.{quorum_of}
use Rattle.signature.specs.Views.{signature_of, signatures_of}
use Rattle.signature.proofs.Choosing.{firsts-over}
use Rattle.signature.proofs.counting.Signed.right_signatures.Goals as goal

pub returns : goal.returns
returns g c =
    firsts-over g.V.Verifier.accepts c.args.self.now.message.now (signatures_of c.args.self.now.signatures) (quorum_of c.args.quorum) (drop c.loop-i.i c.args.quorum.keys.now) (map signature_of (vec_items c.loop-i.right))
    (ap length (drop_all c.loop-i.i c.args.quorum.keys.now c.loop-i-test.false)) c.loop-i.invariant
