use Rattle.std.proofs.Common.{◌≡◌, ℕ, rules, subst, ◌≤◌, true, leb, length, sym, ap, ◌∙◌, arith}
use lib.ListN.{length-map}
use Rattle.std.proofs.lemmas.Bool.{and_parts, and_from, le-leb}
use Rattle.wire.specs.Leaves.{within}
use Rattle.wire.specs.Numbers.{big_endian}
use Rattle.model.specs.Metadata.{Steps}
use Rattle.line.specs.Lines.{steps_from}
use Rattle.line.specs.Forms.{all_below, steps_in, allowed_steps}
use Rattle.line.specs.Words.{word_of}
use Rattle.line_reader.specs.Finds.{Behind, Found}
use Rattle.line_reader.specs.Paths.{path_of, FewSteps}
use Rattle.line.proofs.Leaves.{from-within, all-below, below_all, steps-again, no-steps-word, no_steps, one-steps}
use Rattle.line_reader.proofs.path.steps_line.Goals as goal

few : (low : ℕ) (ss : Steps) → allowed_steps low ss ≡ true → (low ≤ length ss) × FewSteps ss
few low ss a =
    let t = and_parts (within low 8 (length ss)) (all_below 65536 ss) a in
    let w = from-within low 8 (length ss) t.0 in
    (w.0, (w.1, all-below 65536 ss t.1))

pub returns-in_err-value : goal.returns-in_err-value
returns-in_err-value c =
    let none = subst (λ r. Behind (word_of c.args.word) r c.args.text.now) c.in_err-value.ensures.ok_part c.behind.ensures in
    search (rules, no-steps-word c.args.word c.args.low c.args.text.now none)

pub returns-in_err-path : goal.returns-in_err-path
returns-in_err-path c =
    let b = subst (λ r. Behind (word_of c.args.word) r c.args.text.now) c.in_ok-value.ensures.ok_part c.behind.ensures in
    let none = subst (λ r. Found path_of (steps_from 32) FewSteps r c.in_ok-value.value.now) c.in_err-path.ensures.ok_part c.path_in.ensures in
    search (rules, no_steps c.args.word c.args.low c.args.text.now c.in_ok-value.value.now c.in_ok-value.rest.now b (λ ss a e. none ss (few c.args.low ss a).1 e))

-- the same text has the same steps
same-steps : (ss ts : Steps) → FewSteps ss → FewSteps ts → steps_from 32 ss ≡ steps_from 32 ts → ss ≡ ts
same-steps ss ts f g e = sym (steps-again ss f.1) ∙ ap steps_in e ∙ steps-again ts g.1

pub returns-then-steps-from : goal.returns-then-steps-from
returns-then-steps-from c =
    let b = subst (λ r. Behind (word_of c.args.word) r c.args.text.now) c.in_ok-value.ensures.ok_part c.behind.ensures in
    let p = subst (λ r. Found path_of (steps_from 32) FewSteps r c.in_ok-value.value.now) c.in_ok-path.ensures.ok_part c.path_in.ensures in
    no_steps c.args.word c.args.low c.args.text.now c.in_ok-value.value.now c.in_ok-value.rest.now b (λ ss a e.
    let f = few c.args.low ss a in
    let same = same-steps (path_of c.in_ok-path.path) ss p.1 f.1 (sym p.0 ∙ e) in
    omega (arith, f.0, ap length same, ap length c.steps.ensures.value, length-map c.steps.result.now big_endian, c.from.ensures, c.if-steps-from.true))

pub returns : goal.returns
returns c =
    let b = subst (λ r. Behind (word_of c.args.word) r c.args.text.now) c.in_ok-value.ensures.ok_part c.behind.ensures in
    let p = subst (λ r. Found path_of (steps_from 32) FewSteps r c.in_ok-value.value.now) c.in_ok-path.ensures.ok_part c.path_in.ensures in
    let ss = path_of c.in_ok-path.path in
    let enough : c.args.low ≤ length ss = omega (arith, ap length c.steps.ensures.value, length-map c.steps.result.now big_endian, c.from.ensures, c.if-steps-from.false) in
    one-steps c.args.word c.args.low c.args.text.now c.in_ok-value.value.now c.in_ok-value.rest.now b ss
    (and_from (within c.args.low 8 (length ss)) (all_below 65536 ss) (and_from (leb c.args.low (length ss)) (leb (length ss) 8) (le-leb c.args.low (length ss) enough) (le-leb (length ss) 8 p.1.0)) (below_all 65536 ss p.1.1)) p.0
