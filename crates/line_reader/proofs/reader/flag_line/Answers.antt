use Rattle.std.proofs.Common.{◌≡◌, true, false, [], codes, sym, ap, ◌∙◌, subst, rules}
use Rattle.std.specs.Prelude.{nat_eq}
use Rattle.std.specs.Cmp.Lexicographic.{pointwise}
use Rattle.wire.proofs.Comparing.{bytes_same}
use Rattle.line.proofs.Leaves.{no-flag-line, no_flag, one-flag}
use Rattle.line_reader.specs.Finds.{Behind}
use Rattle.line_reader.proofs.reader.flag_line.Goals as goal

pub returns-in_err-line : goal.returns-in_err-line
returns-in_err-line c =
    let none = subst (λ r. Behind [] r c.args.text.now) c.in_err-line.ensures.ok_part c.split_line.ensures in
    search (rules, no-flag-line c.args.text.now none)

pub returns-then-eq : goal.returns-then-eq
returns-then-eq c =
    let yes : c.as_slice.result.now ≡ codes "last yes" = search rules in
    let b = subst (λ r. Behind [] r c.args.text.now) c.in_ok-line.ensures.ok_part c.split_line.ensures in
    one-flag c.args.text.now c.in_ok-line.line.now c.in_ok-line.rest.now b true (sym (bytes_same c.in_ok-line.line.now (codes "last yes") true (c.if-eq.ensures ∙ ap (λ l. pointwise nat_eq c.in_ok-line.line.now l) yes)))

pub returns-then-eq-2 : goal.returns-then-eq-2
returns-then-eq-2 c =
    let no : c.as_slice-2.result.now ≡ codes "last no" = search rules in
    let b = subst (λ r. Behind [] r c.args.text.now) c.in_ok-line.ensures.ok_part c.split_line.ensures in
    one-flag c.args.text.now c.in_ok-line.line.now c.in_ok-line.rest.now b false (sym (bytes_same c.in_ok-line.line.now (codes "last no") true (c.if-eq-2.ensures ∙ ap (λ l. pointwise nat_eq c.in_ok-line.line.now l) no)))

pub returns : goal.returns
returns c =
    let yes : c.as_slice.result.now ≡ codes "last yes" = search rules in
    let no : c.as_slice-2.result.now ≡ codes "last no" = search rules in
    let b = subst (λ r. Behind [] r c.args.text.now) c.in_ok-line.ensures.ok_part c.split_line.ensures in
    no_flag c.args.text.now c.in_ok-line.line.now c.in_ok-line.rest.now b
    (sym (bytes_same c.in_ok-line.line.now (codes "last yes") false (c.if-eq.ensures ∙ ap (λ l. pointwise nat_eq c.in_ok-line.line.now l) yes))) (sym (bytes_same c.in_ok-line.line.now (codes "last no") false (c.if-eq-2.ensures ∙ ap (λ l. pointwise nat_eq c.in_ok-line.line.now l) no)))
