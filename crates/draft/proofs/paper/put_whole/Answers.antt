use Rattle.std.proofs.Common.{vec_items, sym}
use Rattle.metadata.specs.Papers.{bytes_of_paper}
use Rattle.text_form.specs.Texts.{paper}
use Rattle.text_form.proofs.Papers.{text-bad, text-more, text-whole}
use Rattle.draft_parts.proofs.Stops.{part-bad}
use Rattle.draft.proofs.Stops.{whole-stopped}
use Rattle.draft.proofs.paper.put_whole.Goals as goal

pub returns-in_err-rest : goal.returns-in_err-rest
returns-in_err-rest c =
    whole-stopped c.args.text.now (vec_items c.args.out.now) (vec_items c.put_paper.new.out) c.from_residual.result c.in_err-rest.field-0.0 c.from_residual.ensures.1 (λ b e.
    text-bad c.args.text.now b (part-bad paper bytes_of_paper c.args.text.now (vec_items c.args.out.now) (vec_items c.put_paper.new.out) c.in_err-rest.field-0.0 c.in_err-rest.ensures b e))

pub returns-then-not-is_empty : goal.returns-then-not-is_empty
returns-then-not-is_empty c =
    let one = c.in_ok-rest.ensures in
    text-more c.args.text.now c.in_ok-rest.rest.now one.value one.is_read (sym c.if-not-is_empty.ensures)

pub returns : goal.returns
returns c =
    let one = c.in_ok-rest.ensures in
    (one.value, text-whole c.args.text.now c.in_ok-rest.rest.now one.value one.is_read (sym c.if-not-is_empty.ensures), one.is-written)
