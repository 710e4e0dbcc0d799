use Rattle.std.proofs.Common.{ℕ, ◌^◌, ◌<◌, ◌≤◌, ◌⊎◌, inl, inr, leb, ◌∷◌, decimal, sym, ap, ◌∙◌, subst, arith, rules}
use Rattle.std.proofs.lemmas.Fmt.{decimal_injective}
use Rattle.std.proofs.lemmas.Bool.{and_from, le-leb}
use Rattle.line.specs.Words.{word_of}
use Rattle.line.proofs.Leaves.{from-within, no-number-word, no_number, one_number}
use Rattle.line_reader.specs.Finds.{Behind, Found}
use Rattle.line_reader.proofs.Values.{tail-same}
use Rattle.line_reader.proofs.reader.number_or.Goals as goal

pub returns-in_err-value-clause-read : goal.returns-in_err-value-clause-read
returns-in_err-value-clause-read c =
    let none = subst (λ r. Behind (word_of c.args.word) r c.args.text.now) c.in_err-value.ensures.ok_part c.behind.ensures in
    search (rules, no-number-word c.args.expected c.args.word c.args.low c.args.high c.ranges.high.fits c.args.text.now none)

pub returns-in_err-digits-clause-read : goal.returns-in_err-digits-clause-read
returns-in_err-digits-clause-read c =
    let b = subst (λ r. Behind (word_of c.args.word) r c.args.text.now) c.in_ok-value.ensures.ok_part c.behind.ensures in
    let none = subst (λ r. Found (λ v. v.now) (λ v. 32 ∷ v) (λ _. Unit {0}) r c.in_ok-value.value.now) c.in_err-digits.ensures.ok_part c.spaced.ensures in
    search (rules, no_number c.args.expected c.args.word c.args.low c.args.high c.ranges.high.fits c.args.text.now c.in_ok-value.value.now c.in_ok-value.rest.now b (λ n a e. none (decimal n) tt e))

pub returns-in_err-n-clause-read : goal.returns-in_err-n-clause-read
returns-in_err-n-clause-read c =
    let b = subst (λ r. Behind (word_of c.args.word) r c.args.text.now) c.in_ok-value.ensures.ok_part c.behind.ensures in
    let s = subst (λ r. Found (λ v. v.now) (λ v. 32 ∷ v) (λ _. Unit {0}) r c.in_ok-value.value.now) c.in_ok-digits.ensures.ok_part c.spaced.ensures in
    let none = subst (λ r. Found (λ x. x) decimal (λ x. x < 2 ^ 64) r c.in_ok-digits.digits.now) c.in_err-n.ensures.ok_part c.decimal_in.ensures in
    search (
      rules,
      no_number c.args.expected c.args.word c.args.low c.args.high c.ranges.high.fits c.args.text.now c.in_ok-value.value.now c.in_ok-value.rest.now b
          (λ n a e. none n (omega (arith, (from-within c.args.low c.args.high n a).1, c.ranges.high.fits)) (tail-same 32 c.in_ok-digits.digits.now (decimal n) (sym s.0 ∙ e))),
    )

outside : (low high n : ℕ) → (n < low) ⊎ (low ≤ n × high < n) → (low ≤ n) × (n ≤ high) → ⊥
outside low high n (inl h) w = omega (arith, h, w.0)
outside low high n (inr h) w = omega (arith, h.1, w.1)

pub returns-then-n-low-clause-read : goal.returns-then-n-low-clause-read
returns-then-n-low-clause-read c =
    let b = subst (λ r. Behind (word_of c.args.word) r c.args.text.now) c.in_ok-value.ensures.ok_part c.behind.ensures in
    let s = subst (λ r. Found (λ v. v.now) (λ v. 32 ∷ v) (λ _. Unit {0}) r c.in_ok-value.value.now) c.in_ok-digits.ensures.ok_part c.spaced.ensures in
    let d = subst (λ r. Found (λ x. x) decimal (λ x. x < 2 ^ 64) r c.in_ok-digits.digits.now) c.in_ok-n.ensures.ok_part c.decimal_in.ensures in
    no_number c.args.expected c.args.word c.args.low c.args.high c.ranges.high.fits c.args.text.now c.in_ok-value.value.now c.in_ok-value.rest.now b (λ n a e.
    let w = from-within c.args.low c.args.high n a in
    let small : n < 2 ^ 64 = omega (arith, w.1, c.ranges.high.fits) in
    let same = decimal_injective c.in_ok-n.n n d.1 small (sym d.0 ∙ tail-same 32 c.in_ok-digits.digits.now (decimal n) (sym s.0 ∙ e)) in
    outside c.args.low c.args.high n (subst (λ m. (m < c.args.low) ⊎ (c.args.low ≤ m × c.args.high < m)) same c.then-n-low.either) w)

pub returns-clause-read : goal.returns-clause-read
returns-clause-read c =
    let b = subst (λ r. Behind (word_of c.args.word) r c.args.text.now) c.in_ok-value.ensures.ok_part c.behind.ensures in
    let s = subst (λ r. Found (λ v. v.now) (λ v. 32 ∷ v) (λ _. Unit {0}) r c.in_ok-value.value.now) c.in_ok-digits.ensures.ok_part c.spaced.ensures in
    let d = subst (λ r. Found (λ x. x) decimal (λ x. x < 2 ^ 64) r c.in_ok-digits.digits.now) c.in_ok-n.ensures.ok_part c.decimal_in.ensures in
    one_number c.args.expected c.args.word c.args.low c.args.high c.ranges.high.fits c.args.text.now c.in_ok-value.value.now c.in_ok-value.rest.now b c.in_ok-n.n
    (and_from (leb c.args.low c.in_ok-n.n) (leb c.in_ok-n.n c.args.high) (le-leb c.args.low c.in_ok-n.n c.if-n-low.false) (le-leb c.in_ok-n.n c.args.high c.if-n-high.false))
    (s.0 ∙ ap (λ l. 32 ∷ l) d.0)
