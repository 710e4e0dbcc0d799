use Rattle.std.proofs.Common.{◌≡◌, ◌+◌, Some, vec_items, sym, ap, ◌∙◌, subst}
use Rattle.std.specs.List.{flat_map}
use Rattle.std.specs.Option.{option_map}
use Rattle.text_form.specs.Chains.{chain}
use Rattle.text_form.proofs.Chains.{Sofar, chain_more, chain-bad}
use Rattle.draft_parts.proofs.Stops.{stopped, item-bad}
use Rattle.draft_parts.proofs.table.put_table.Goals as goal

pub returns-in_err-key : goal.returns-in_err-key
returns-in_err-key g c =
    let p = g.P.Part in
    let at = c.loop-done in
    stopped (chain p.form p.key c.args.count) (λ xs. flat_map p.bytes xs) c.args.text.now (vec_items c.args.out.now) (vec_items c.put.new.out) c.from_residual.result c.in_err-key.field-0.0 c.from_residual.ensures.1 (λ b e.
    chain-bad p.form p.key p.bytes c.args.text.now (vec_items c.args.out.now) c.args.count at.rest.now (vec_items at.out) (option_map p.stands_for at.last) at.done at.invariant b c.loop-done-test.true
    (sym (ap (λ o. (p.form (option_map p.stands_for o)).read at.rest.now) c.as_ref.ensures.value)
    ∙ item-bad (p.form (option_map p.stands_for (option_map (λ x. x.now) c.as_ref.result))) p.bytes at.rest.now (vec_items at.out) (vec_items c.put.new.out) (λ x k. p.key x ≡ p.stands_for k) c.in_err-key.field-0.0 c.in_err-key.ensures b e))

pub loop-done-preserved : goal.loop-done-preserved
loop-done-preserved g c =
    let p = g.P.Part in
    let at = c.loop-done in
    let one = c.in_ok-key.ensures in
    subst (λ k. Sofar p.form p.key p.bytes c.args.text.now (vec_items c.args.out.now) c.args.count c.in_ok-key.after.now (vec_items c.put.new.out) (Some k) (at.done + 1)) one.keyed
    (chain_more p.form p.key p.bytes c.args.text.now (vec_items c.args.out.now) c.args.count at.rest.now (vec_items at.out) (option_map p.stands_for at.last) at.done at.invariant one.value c.in_ok-key.after.now (vec_items c.put.new.out) c.loop-done-test.true
    (sym (ap (λ o. (p.form (option_map p.stands_for o)).read at.rest.now) c.as_ref.ensures.value) ∙ one.is_read) one.is-written)
