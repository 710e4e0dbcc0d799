use Rattle.std.proofs.Common.{length, ap, arith}
use Rattle.std.proofs.lemmas.List.{drop_all}
use Rattle.model.specs.Quorums.{once}
use Rattle.wire.specs.Views.{quorum_of}
use Rattle.signature.specs.Views.{signatures_of}
use Rattle.signature.proofs.Choosing.{firsts, chosen, chosen-many}
use Rattle.signature.proofs.counting.Signed.count_keys.Goals as goal

pub returns : goal.returns
returns g c =
    let accepts = g.V.Verifier.accepts in
    let m = c.args.self.now.message.now in
    let ss = signatures_of c.args.self.now.signatures in
    let q = quorum_of c.args.quorum in
    let none = ap (λ ks. length (firsts accepts m ss (once ks))) (drop_all c.loop-i.i c.args.quorum.keys.now c.loop-i-test.false) in
    omega (arith, c.loop-i.invariant.0, none, chosen-many accepts m ss q (firsts accepts m ss (once q.keys)) (chosen accepts m ss q))
