use Rattle.std.proofs.Common.{◌≡◌, ◌+◌, cond, eqb, take, sym, refl, ap, ◌∙◌, rules}
use Rattle.std.specs.List.{count_by}
use Rattle.std.proofs.lemmas.List.Recursion.{is_sum_by}
use Rattle.text_form.specs.Texts.{line_ends, line_at}
use Rattle.draft.proofs.paper.line_at.Goals as goal

pub returns : goal.returns
unfolding line_at
returns c =
    let before = take c.saturating_sub.result c.args.text.now in
    let many : c.count.result ≡ count_by (λ b. eqb b 10) before = search rules in
    ap (λ n. n + 1) (many ∙ sym (is_sum_by line_ends (λ b. cond (eqb b 10) 1 0) refl (λ b bs. refl) before)) ∙ ap (λ n. line_ends (take n c.args.text.now) + 1) c.saturating_sub.ensures
