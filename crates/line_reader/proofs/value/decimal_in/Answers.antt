use Rattle.std.proofs.Common.{◌≡◌, ℕ, ◌^◌, ◌<◌, None, IsUtf8, decimal, sym, ◌∙◌, subst, true≢false, arith, rules}
use Rattle.line_reader.specs.Finds.{Found}
use Rattle.line_reader.proofs.Values.{digits_utf8, digits-some, well-begun, parsed}
use Rattle.line_reader.proofs.value.decimal_in.Goals as goal

pub returns-in_err-first : goal.returns-in_err-first
returns-in_err-first c =
    let none : Found {V = ℕ} {A = ℕ} (λ n. n) decimal (λ n. n < 2 ^ 64) None c.args.digits.now = λ x small e. omega (arith, digits-some c.args.digits.now x small e, c.in_err-first.ensures.cases) in
    search (rules, none)

pub returns-then-not-begins_well : goal.returns-then-not-begins_well
returns-then-not-begins_well c = λ x small e.
    true≢false (sym (well-begun c.args.digits.now x small e c.in_ok-first.first.now c.in_ok-first.more.now c.in_ok-first.ensures.cases.0) ∙ sym c.if-not-begins_well.ensures)

pub returns-in_err-ok : goal.returns-in_err-ok
returns-in_err-ok c =
    let no : IsUtf8 c.args.digits.now → ⊥ = search rules in
    let none : Found {V = ℕ} {A = ℕ} (λ n. n) decimal (λ n. n < 2 ^ 64) None c.args.digits.now = λ x small e. no (digits_utf8 c.args.digits.now x small e) in
    search (rules, none)

pub returns : goal.returns
returns c =
    let text : c.in_ok-ok.field-0.now ≡ c.args.digits.now = search rules in
    subst (λ o. Found (λ n. n) decimal (λ n. n < 2 ^ 64) o c.args.digits.now) (sym c.ok-2.ensures.value)
    (parsed c.args.digits.now c.in_ok-ok.field-0.now c.in_ok-first.first.now c.in_ok-first.more.now c.parse.result text c.in_ok-first.ensures.cases.0 (sym c.if-not-begins_well.ensures) c.parse.ensures.value.0)
