use Rattle.std.proofs.Common.{◌≡◌, take, None}
use Rattle.model.specs.Lists.{first}
use Rattle.signature.specs.Signatures.{right_of}
use Rattle.signature.specs.Views.{signature_of}
use Rattle.signature.proofs.counting.Signed.first_right.Given as goal

-- none so far
abbrev pub invariant-loop-i : goal.invariant-loop-i
invariant-loop-i g l = first (λ b. right_of g.V.Verifier.accepts l.self.message.now l.key (signature_of b)) (take l.i l.items) ≡ None
