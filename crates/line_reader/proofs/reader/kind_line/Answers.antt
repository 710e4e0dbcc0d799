use Rattle.std.proofs.Common.{[], sym, subst, ◌∙◌, rules}
use Rattle.line.proofs.Leaves.{no-kind-line, no_kind, one-kind, named-is, named-none}
use Rattle.line_reader.specs.Finds.{Behind}
use Rattle.line_reader.proofs.reader.kind_line.Goals as goal

pub returns-in_err-line : goal.returns-in_err-line
returns-in_err-line c =
    let none = subst (λ r. Behind [] r c.args.text.now) c.in_err-line.ensures.ok_part c.split_line.ensures in
    search (rules, no-kind-line c.args.text.now none)

pub returns-in_err-kind : goal.returns-in_err-kind
returns-in_err-kind c =
    let b = subst (λ r. Behind [] r c.args.text.now) c.in_ok-line.ensures.ok_part c.split_line.ensures in
    search (rules, no_kind c.args.text.now c.in_ok-line.line.now c.in_ok-line.rest.now b (named-none c.in_ok-line.line.now (sym c.named.ensures ∙ c.in_err-kind.ensures.ok_part)))

pub returns : goal.returns
returns c =
    let b = subst (λ r. Behind [] r c.args.text.now) c.in_ok-line.ensures.ok_part c.split_line.ensures in
    one-kind c.args.text.now c.in_ok-line.line.now c.in_ok-line.rest.now b c.in_ok-kind.kind (named-is c.in_ok-line.line.now c.in_ok-kind.kind (sym c.named.ensures ∙ c.in_ok-kind.ensures.ok_part))
