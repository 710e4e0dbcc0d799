use Rattle.std.proofs.Common.{Bool, T, leb, ap, ◌∙◌, subst}
use Rattle.wire.specs.Views.{quorum_of}
use Rattle.signature.specs.Views.{signatures_of}
use Rattle.signature.proofs.Choosing.{enough-backed}
use Rattle.signature.proofs.counting.Signed.is_enough.Goals as goal

pub returns-clause-backed : goal.returns-clause-backed
returns-clause-backed g c = λ t.
    enough-backed g.V.Verifier.accepts g.V.Verifier.signed g.met.V.Verifier.sound c.args.self.now.message.now (signatures_of c.args.self.now.signatures) (quorum_of c.args.quorum)
    (subst (λ (b : Bool). T b) (c.reaches.ensures ∙ ap (λ n. leb c.args.quorum.threshold n) c.count_keys.ensures) t)
