use Rattle.std.proofs.Common.{◌≡◌, eqb, rules, ◌++◌, None, sym, ap, ◌∙◌}
use Rattle.std.proofs.ByRecursion.{All-append}
use Rattle.std.proofs.lemmas.Slice.Eq.{strip_prefix_is}
use Rattle.line_reader.specs.Finds.{Behind}
use Rattle.line.specs.Words.{word_of}
use Rattle.line.proofs.Forms.{one_line}
use Rattle.line.proofs.Leaves.{unended-word}
use Rattle.line_reader.proofs.reader.behind.Goals as goal
use Rattle.std.proofs.lemmas.Bool.Decides.{Decides-eqb}

pub returns-in_err-value : goal.returns-in_err-value
returns-in_err-value c =
    let word : c.as_bytes.result.now ≡ word_of c.args.word = c.as_bytes.ensures.value ∙ c.word.ensures in
    let b = c.in_ok-line.ensures in
    let none : Behind (word_of c.args.word) None c.args.text.now = λ v rest u e.
    let same = one_line c.in_ok-line.line.now (word_of c.args.word ++ v) c.in_ok-line.rest.now rest b.one (All-append (λ b. eqb b 10 ≡ _) (word_of c.args.word) v (unended-word c.args.word) u) (sym b.whole ∙ e) in
    strip_prefix_is Decides-eqb c.in_ok-line.line.now c.as_bytes.result.now None c.in_err-value.ensures.cases v (same.0 ∙ ap (λ l. l ++ v) (sym word)) in
    search (rules, none)
