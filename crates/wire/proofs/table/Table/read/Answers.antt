use Rattle.std.proofs.Common.{List, [], ◌∷◌, ◌++◌, None, Ok, sym, ap, ◌∙◌}
use Rattle.std.specs.Option.{option_map}
use Rattle.std.proofs.lemmas.Result.{err_from_is_err_and}
use Rattle.wire.proofs.Tables.{rising-start, rising-more, rising-fault, rising-order, rising-done, items-rising}
use Rattle.wire.proofs.table.Table.read.Goals as goal

pub loop-done-init : goal.loop-done-init
loop-done-init g c = ([], rising-start g.K.Kind.form g.K.Kind.key g.K.Kind.below c.args.count c.args.bytes.now)

pub returns-in_err-item-clause-read : goal.returns-in_err-item-clause-read
returns-in_err-item-clause-read g c =
    let p = err_from_is_err_and c.from_residual.result c.from_residual.ensures.1 in
    rw (p.1, p.2) (sym (rising-fault g.K.Kind.form g.K.Kind.key g.K.Kind.below c.loop-done.invariant.0 (option_map (λ x. g.K.Kind.key (g.K.Kind.plain x)) c.loop-done.last) c.args.count c.loop-done.done c.loop-done.rest.now c.in_err-item.field-0.0 c.loop-done-test.true c.in_err-item.ensures ∙ c.loop-done.invariant.1))

pub returns-then-not-may_follow-clause-read : goal.returns-then-not-may_follow-clause-read
returns-then-not-may_follow-clause-read g c =
    sym (rising-order g.K.Kind.form g.K.Kind.key g.K.Kind.below c.loop-done.invariant.0 (option_map (λ x. g.K.Kind.key (g.K.Kind.plain x)) c.loop-done.last) c.args.count c.loop-done.done c.loop-done.rest.now c.in_ok-item.after.now (g.K.Kind.plain c.in_ok-item.item) c.loop-done-test.true c.in_ok-item.ensures (sym c.if-not-may_follow.ensures) ∙ c.loop-done.invariant.1)

pub loop-done-preserved : goal.loop-done-preserved
loop-done-preserved g c = (
  c.loop-done.invariant.0 ++ g.K.Kind.plain c.in_ok-item.item ∷ [],
  rising-more g.K.Kind.form g.K.Kind.key g.K.Kind.below c.loop-done.invariant.0 (option_map (λ x. g.K.Kind.key (g.K.Kind.plain x)) c.loop-done.last) c.args.count c.loop-done.done c.loop-done.rest.now c.in_ok-item.after.now (g.K.Kind.plain c.in_ok-item.item) c.loop-done-test.true c.in_ok-item.ensures (sym c.if-not-may_follow.ensures)
      ∙ c.loop-done.invariant.1,
)

pub returns-clause-read : goal.returns-clause-read
returns-clause-read g c =
    let read = sym (rising-done g.K.Kind.form g.K.Kind.key g.K.Kind.below c.loop-done.invariant.0 (option_map (λ x. g.K.Kind.key (g.K.Kind.plain x)) c.loop-done.last) c.args.count c.loop-done.done c.loop-done.rest.now c.loop-done-test.false ∙ c.loop-done.invariant.1) in
    read ∙ ap (λ (l : List g.K.Kind.Plain). Ok (l, c.loop-done.rest.now)) (sym (items-rising g.K.Kind.form g.K.Kind.key g.K.Kind.below c.args.count None c.args.bytes.now (c.loop-done.invariant.0, c.loop-done.rest.now) read))
