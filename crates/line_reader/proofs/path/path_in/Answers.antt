use Rattle.std.proofs.Common.{ℕ, ◌+◌, ◌<◌, List, length, None, sym, ap, ◌∙◌, subst, arith, rules}
use Rattle.std.proofs.lemmas.List.{length-append}
use Rattle.line.specs.Lines.{steps_from}
use Rattle.line_reader.specs.Finds.{Found}
use Rattle.line_reader.specs.Paths.{path_of, step_text, behind_step, FewSteps}
use Rattle.line_reader.proofs.Steps.{Walk, step-parts, walk-mark, walk-digits, walk_more}
use Rattle.line_reader.proofs.path.path_in.Goals as goal

pub returns-then-first-mark : goal.returns-then-first-mark
returns-then-first-mark c =
    walk-mark c.args.value.now c.loop-first.left.now c.loop-first.mark (path_of c.loop-first.path) c.loop-first.invariant c.in-Some.first.now c.in-Some.rest.now c.in-Some.ensures.cases.0 c.if-first-mark.true

pub returns-in_err-step_in : goal.returns-in_err-step_in
returns-in_err-step_in c =
    let none : Found path_of (steps_from 32) FewSteps None c.args.value.now =
    walk-digits c.args.value.now c.loop-first.left.now c.loop-first.mark (path_of c.loop-first.path) c.loop-first.invariant c.in-Some.first.now c.in-Some.rest.now c.in-Some.ensures.cases.0
    (λ n s e. c.in_err-step_in.ensures n s (c.split_step.ensures.digits ∙ e)) in
    search (rules, none)

shorter : (rest : List ℕ) → length (behind_step rest) < length rest + 1
shorter rest = omega (arith, ap length (step-parts rest), length-append (step_text rest) (behind_step rest))

pub loop-first-smaller : goal.loop-first-smaller
loop-first-smaller c = omega (arith, shorter c.in-Some.rest.now, ap length c.split_step.ensures.rest, c.in-Some.ensures.cases.1)

pub loop-first-preserved : goal.loop-first-preserved
loop-first-preserved c =
    let step = c.in_ok-step_in.ensures in
    let longer = c.in_ok-path.ensures in
    subst (λ (l : List ℕ). Walk c.args.value.now l 47 (path_of c.in_ok-path.path)) (sym c.split_step.ensures.rest)
    (walk_more c.args.value.now c.loop-first.left.now c.loop-first.mark (path_of c.loop-first.path) c.loop-first.invariant c.in-Some.first.now c.in-Some.rest.now c.in-Some.ensures.cases.0 c.in_ok-step_in.field-0 (path_of c.in_ok-path.path)
    c.if-first-mark.false (sym c.split_step.ensures.digits ∙ step.0) step.1 longer.1 longer.0)
