use Rattle.std.proofs.Common.{◌≡◌, ◌+◌, ℕ, List, [], ◌∷◌, ◌++◌, get_or, drop, vec_items, decimal, sym, ap, ◌∙◌, append_assoc, append-nil}
use Rattle.std.proofs.lemmas.List.{at_drop_more, at_drop_all}
use Rattle.wire.specs.Numbers.{big_endian}
use Rattle.wire.specs.Leaves.{steps_of}
use Rattle.wire.proofs.Numbers.{two}
use Rattle.line.specs.Lines.{steps_from}
use Rattle.line.proofs.writer.push_steps.Goals as goal

-- one step more
more : (out marked after : List ℕ) (mark n : ℕ) (left : List (List ℕ)) (step : List ℕ) (rest : List (List ℕ)) → left ≡ step ∷ rest → big_endian step ≡ n → marked ≡ out ++ (mark ∷ []) → after ≡ marked ++ decimal n →
    after ++ steps_from 47 (steps_of rest) ≡ out ++ steps_from mark (steps_of left)
more out marked after mark n left step rest e b m a =
    ap (λ l. l ++ steps_from 47 (steps_of rest)) (a ∙ ap (λ l. l ++ decimal n) m)
    ∙ append_assoc (out ++ (mark ∷ [])) (decimal n) (steps_from 47 (steps_of rest))
    ∙ append_assoc out (mark ∷ []) (decimal n ++ steps_from 47 (steps_of rest))
    ∙ ap (λ (k : ℕ). out ++ (mark ∷ (decimal k ++ steps_from 47 (steps_of rest)))) (sym b)
    ∙ ap (λ (l : List (List ℕ)). out ++ steps_from mark (steps_of l)) (sym e)

pub loop-step-preserved : goal.loop-step-preserved
loop-step-preserved c =
    let i = c.loop-step.step-index in
    let step = get_or c.args.steps.now i [] in
    let n : big_endian step ≡ c.from.result = two step (c.told-steps i c.loop-step-test.true) ∙ (sym c.from_be_bytes.ensures ∙ sym c.from.ensures) in
    more (vec_items c.loop-step.out) (vec_items c.push.new.self) (vec_items c.push_decimal.new.out) c.loop-step.mark c.from.result (drop i c.args.steps.now) step (drop (i + 1) c.args.steps.now)
    (at_drop_more (λ (l : List (List ℕ)). l) c.args.steps.now i [] c.loop-step-test.true) n c.in_ok-push.ensures.items c.in_ok-push_decimal.ensures
    ∙ c.loop-step.invariant

pub returns : goal.returns
returns c =
    let out = vec_items c.loop-step.out in
    sym (append-nil out) ∙ (sym (at_drop_all (λ (l : List (List ℕ)). out ++ steps_from c.loop-step.mark (steps_of l)) c.args.steps.now c.loop-step.step-index c.loop-step-test.false) ∙ c.loop-step.invariant)
