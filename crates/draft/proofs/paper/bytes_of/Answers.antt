use Rattle.std.proofs.Common.{◌<◌, ◌++◌, sym, ap, ◌∙◌, arith}
use Rattle.std.proofs.ByRecursion.{All-from_get_or}
use Rattle.metadata.specs.Papers.{bytes_of_paper}
use Rattle.text_form.proofs.Papers.{one-text}
use Rattle.draft.proofs.paper.bytes_of.Goals as goal

pub returns-in-Ok-clause-faithful : goal.returns-in-Ok-clause-faithful
returns-in-Ok-clause-faithful c =
    let w = c.in-Ok.ensures in
    let k = one-text.accepted c.args.text.now w.0 (All-from_get_or (λ b. b < 256) c.args.text.now 0 (λ i h. omega (arith, c.type_inv.text i))) w.1 in
    record { paper = w.0; formed = k.0; is-text = sym k.2; is-bytes = w.2 ∙ ap (λ l. l ++ bytes_of_paper w.0) c.new-out.ensures.items }
