use Rattle.std.proofs.Common.{◌≡◌, ℕ, List, [], ◌++◌, get_or, vec_items, sym, ap, ◌∙◌}
use Rattle.wire.specs.Numbers.{big_endian, bytes_of}
use Rattle.wire.proofs.Numbers.{two}
use Rattle.encoding.proofs.Writes.{wrote-more, wrote-all, joined-map}
use Rattle.encoding.proofs.leaf.write_each.Goals as goal

abbrev step : List ℕ → List ℕ
step p = bytes_of 2 (big_endian p)

-- the step's own number was written
as_read : (out after : List ℕ) (n m : ℕ) → after ≡ out ++ bytes_of 2 n → m ≡ n → after ≡ out ++ bytes_of 2 m
as_read out after n m a e = a ∙ ap (λ (k : ℕ). out ++ bytes_of 2 k) (sym e)

pub loop-step-preserved : goal.loop-step-preserved
loop-step-preserved c =
    let p = get_or c.args.steps.now c.loop-step.step-index [] in
    let n : big_endian p ≡ c.from_be_bytes.result = two p (c.told-steps c.loop-step.step-index c.loop-step-test.true) ∙ sym c.from_be_bytes.ensures in
    wrote-more step (vec_items c.args.out.now) c.args.steps.now (vec_items c.loop-step.out) (vec_items c.write_number.new.out) c.loop-step.step-index [] c.loop-step-test.true c.loop-step.invariant
    (as_read (vec_items c.loop-step.out) (vec_items c.write_number.new.out) c.from_be_bytes.result (big_endian p) c.in_ok-write_number.ensures n)

pub returns : goal.returns
returns c =
    wrote-all step (vec_items c.args.out.now) c.args.steps.now (vec_items c.loop-step.out) c.loop-step.step-index c.loop-step-test.false c.loop-step.invariant
    ∙ ap (λ (l : List ℕ). vec_items c.args.out.now ++ l) (joined-map (bytes_of 2) big_endian c.args.steps.now)
