use Rattle.std.proofs.Common.{◌≡◌, ◌++◌, map, drop, vec_items}
use Rattle.model.specs.Quorums.{once}
use Rattle.signature.specs.Views.{signature_of, signatures_of}
use Rattle.signature.proofs.Choosing.{firsts}
use Rattle.signature.proofs.counting.Signed.right_signatures.Given as goal

-- those so far, and those of the keys that are left
abbrev pub invariant-loop-i : goal.invariant-loop-i
invariant-loop-i g l =
    map signature_of (vec_items l.right) ++ firsts g.V.Verifier.accepts l.self.message.now (signatures_of l.self.signatures) (once (drop l.i l.quorum.keys.now))
    ≡ firsts g.V.Verifier.accepts l.self.message.now (signatures_of l.self.signatures) (once l.quorum.keys.now)
