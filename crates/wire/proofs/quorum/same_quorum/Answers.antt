use Rattle.std.proofs.Common.{◌≡◌, nat_eq, ◌&&◌, ◌∙◌, refl, Bool, true, false}
use Rattle.model.specs.Lists.{all}
use Rattle.wire.proofs.Comparing.{lists-same}
use Rattle.wire.proofs.quorum.same_quorum.Goals as goal

both : (a b : Bool) → (a && b) ≡ (a && (b && true))
both true true = refl
both true false = refl
both false b = refl

pub returns : goal.returns
unfolding all
returns c = c.eq.ensures ∙ (λ i. (nat_eq c.args.a.threshold c.args.b.threshold) && lists-same c.args.a.keys.now c.args.b.keys.now _ refl i) ∙ both _ _
