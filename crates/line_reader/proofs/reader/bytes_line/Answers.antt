use Rattle.std.proofs.Common.{◌≡◌, true, ◌∷◌, sym, ap, ◌∙◌, subst, rules}
use Rattle.line.specs.Lines.{hex_of}
use Rattle.line.specs.Words.{word_of}
use Rattle.line.specs.Forms.{allowed_bytes}
use Rattle.line.proofs.Leaves.{no-bytes-word, no_bytes, one-bytes}
use Rattle.line_reader.specs.Finds.{Behind, Found}
use Rattle.line_reader.proofs.Values.{tail-same}
use Rattle.line_reader.proofs.reader.bytes_line.Goals as goal

pub returns-in_err-value : goal.returns-in_err-value
returns-in_err-value c =
    let none = subst (λ r. Behind (word_of c.args.word) r c.args.text.now) c.in_err-value.ensures.ok_part c.behind.ensures in
    search (rules, no-bytes-word c.args.word c.args.text.now none)

pub returns-in_err-digits : goal.returns-in_err-digits
returns-in_err-digits c =
    let b = subst (λ r. Behind (word_of c.args.word) r c.args.text.now) c.in_ok-value.ensures.ok_part c.behind.ensures in
    let none = subst (λ r. Found (λ v. v.now) (λ v. 32 ∷ v) (λ _. Unit {0}) r c.in_ok-value.value.now) c.in_err-digits.ensures.ok_part c.spaced.ensures in
    search (rules, no_bytes c.args.word c.args.text.now c.in_ok-value.value.now c.in_ok-value.rest.now b (λ bs a e. none (hex_of bs) tt e))

pub returns-in_err-bytes : goal.returns-in_err-bytes
returns-in_err-bytes c =
    let b = subst (λ r. Behind (word_of c.args.word) r c.args.text.now) c.in_ok-value.ensures.ok_part c.behind.ensures in
    let s = subst (λ r. Found (λ v. v.now) (λ v. 32 ∷ v) (λ _. Unit {0}) r c.in_ok-value.value.now) c.in_ok-digits.ensures.ok_part c.spaced.ensures in
    let none = subst (λ r. Found (λ x. x) hex_of (λ x. allowed_bytes x ≡ true) r c.in_ok-digits.digits.now) c.in_err-bytes.ensures.ok_part c.hex_bytes.ensures in
    search (rules, no_bytes c.args.word c.args.text.now c.in_ok-value.value.now c.in_ok-value.rest.now b (λ bs a e. none bs a (tail-same 32 c.in_ok-digits.digits.now (hex_of bs) (sym s.0 ∙ e))))

pub returns : goal.returns
returns c =
    let b = subst (λ r. Behind (word_of c.args.word) r c.args.text.now) c.in_ok-value.ensures.ok_part c.behind.ensures in
    let s = subst (λ r. Found (λ v. v.now) (λ v. 32 ∷ v) (λ _. Unit {0}) r c.in_ok-value.value.now) c.in_ok-digits.ensures.ok_part c.spaced.ensures in
    let h = subst (λ r. Found (λ x. x) hex_of (λ x. allowed_bytes x ≡ true) r c.in_ok-digits.digits.now) c.in_ok-bytes.ensures.ok_part c.hex_bytes.ensures in
    one-bytes c.args.word c.args.text.now c.in_ok-value.value.now c.in_ok-value.rest.now b c.in_ok-bytes.bytes h.1 (s.0 ∙ ap (λ l. 32 ∷ l) h.0)
