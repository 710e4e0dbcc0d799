use Rattle.std.proofs.Common.{[], sym, ◌∙◌}
use Rattle.signature.specs.Signatures.{right_of}
use Rattle.signature.specs.Views.{signature_of}
use Rattle.signature.proofs.Searching.{search-more, search-found, search-over}
use Rattle.signature.proofs.counting.Signed.first_right.Goals as goal

pub loop-i-preserved : goal.loop-i-preserved
loop-i-preserved g c =
    search-more signature_of (right_of g.V.Verifier.accepts c.args.self.now.message.now c.args.key.now) c.args.self.now.signatures.items.now c.loop-i.i c.loop-i.invariant [] c.loop-i-test.true
    (sym c.is_new_and_right.ensures ∙ c.if-is_new_and_right.false)

pub returns-then-is_new_and_right : goal.returns-then-is_new_and_right
returns-then-is_new_and_right g c =
    search-found signature_of (right_of g.V.Verifier.accepts c.args.self.now.message.now c.args.key.now) c.args.self.now.signatures.items.now c.loop-i.i c.loop-i.invariant [] c.loop-i-test.true
    (sym c.is_new_and_right.ensures ∙ c.if-is_new_and_right.true)

pub returns : goal.returns
returns g c =
    search-over signature_of (right_of g.V.Verifier.accepts c.args.self.now.message.now c.args.key.now) c.args.self.now.signatures.items.now c.loop-i.i c.loop-i.invariant c.loop-i-test.false
