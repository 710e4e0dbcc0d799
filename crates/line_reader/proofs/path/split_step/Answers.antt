use Rattle.std.proofs.Common.{◌≡◌, length, sym, ap, ◌∙◌, take, drop}
use Rattle.std.specs.Option.{unwrap_or}
use Rattle.line_reader.proofs.Finding.{first, first-or, step_taken, step_left}
use Rattle.line_reader.proofs.path.split_step.Goals as goal

pub returns-clause-digits : goal.returns-clause-digits
returns-clause-digits c =
    let at : c.unwrap_or-end.result ≡ first 47 c.args.text.now = c.unwrap_or-end.ensures ∙ ap (λ o. unwrap_or o (length c.args.text.now)) c.find_byte.ensures ∙ first-or 47 c.args.text.now in
    c.split_at.ensures.front ∙ ap (λ n. take n c.args.text.now) at ∙ sym (step_taken c.args.text.now)

pub returns-clause-rest : goal.returns-clause-rest
returns-clause-rest c =
    let at : c.unwrap_or-end.result ≡ first 47 c.args.text.now = c.unwrap_or-end.ensures ∙ ap (λ o. unwrap_or o (length c.args.text.now)) c.find_byte.ensures ∙ first-or 47 c.args.text.now in
    c.split_at.ensures.back ∙ ap (λ n. drop n c.args.text.now) at ∙ sym (step_left c.args.text.now)
