use Rattle.std.proofs.Common.{◌≡◌, ◌+◌, ◌≤◌, length, drop}
use Rattle.model.specs.Quorums.{once}
use Rattle.signature.specs.Views.{signatures_of}
use Rattle.signature.proofs.Choosing.{firsts}
use Rattle.signature.proofs.counting.Signed.count_keys.Given as goal

-- those so far, and those of the keys that are left
abbrev pub invariant-loop-i : goal.invariant-loop-i
invariant-loop-i g l =
    (l.count + length (firsts g.V.Verifier.accepts l.self.message.now (signatures_of l.self.signatures) (once (drop l.i l.quorum.keys.now)))
    ≡ length (firsts g.V.Verifier.accepts l.self.message.now (signatures_of l.self.signatures) (once l.quorum.keys.now))) ×
    (l.count ≤ l.i)
