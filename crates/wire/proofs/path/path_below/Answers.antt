use Rattle.std.proofs.Common.{◌≡◌, ℕ, not, List, [], ◌∷◌, length, sym, refl, ap, ◌∙◌, subst}
use Rattle.std.specs.List.{AllByRecursion}
use Rattle.std.proofs.ByRecursion.{All-from_get_or}
use Rattle.wire.proofs.Numbers.{two}
use Rattle.wire.proofs.Paths.{second-ends, first_ends, steps-differ, steps-same}
use Rattle.wire.proofs.path.path_below.Goals as goal

abbrev Two : List ℕ → Type 0
Two p = length p ≡ 2

parts : (left : List (List ℕ)) (x : List ℕ) (xs : List (List ℕ)) → left ≡ x ∷ xs → AllByRecursion Two left → Two x × AllByRecursion Two xs
parts left x xs e a = let b = subst (λ (l : List (List ℕ)). AllByRecursion Two l) e a in (b.0, b.1)

pub loop-x-init : goal.loop-x-init
loop-x-init c = (refl, All-from_get_or Two c.args.a.now [] c.told-a, All-from_get_or Two c.args.b.now [] c.told-b)

pub returns-in_default-split_first : goal.returns-in_default-split_first
returns-in_default-split_first c =
    sym (second-ends c.loop-x.left.now c.loop-x.right.now c.in-Some.x.now c.in-Some.xs.now c.in-Some.ensures.cases.0 c.in_default-split_first.ensures.cases) ∙ c.loop-x.invariant.0

pub returns-then-x-y : goal.returns-then-x-y
returns-then-x-y c =
    let e = c.in-Some.ensures.cases.0 in
    let f = c.in-Some-split_first.ensures.cases.0 in
    let a = parts c.loop-x.left.now c.in-Some.x.now c.in-Some.xs.now e c.loop-x.invariant.1 in
    let b = parts c.loop-x.right.now c.in-Some-split_first.y.now c.in-Some-split_first.ys.now f c.loop-x.invariant.2 in
    sym (steps-differ c.loop-x.left.now c.loop-x.right.now c.in-Some.x.now c.in-Some-split_first.y.now c.in-Some.xs.now c.in-Some-split_first.ys.now e f c.from_be_bytes-x.result c.from_be_bytes-y.result
    (two c.in-Some.x.now a.0 ∙ sym c.from_be_bytes-x.ensures) (two c.in-Some-split_first.y.now b.0 ∙ sym c.from_be_bytes-y.ensures) c.if-x-y.true) ∙ c.loop-x.invariant.0

pub loop-x-preserved : goal.loop-x-preserved
loop-x-preserved c =
    let e = c.in-Some.ensures.cases.0 in
    let f = c.in-Some-split_first.ensures.cases.0 in
    let a = parts c.loop-x.left.now c.in-Some.x.now c.in-Some.xs.now e c.loop-x.invariant.1 in
    let b = parts c.loop-x.right.now c.in-Some-split_first.y.now c.in-Some-split_first.ys.now f c.loop-x.invariant.2 in (
      sym (steps-same c.loop-x.left.now c.loop-x.right.now c.in-Some.x.now c.in-Some-split_first.y.now c.in-Some.xs.now c.in-Some-split_first.ys.now e f c.from_be_bytes-x.result c.from_be_bytes-y.result
          (two c.in-Some.x.now a.0 ∙ sym c.from_be_bytes-x.ensures) (two c.in-Some-split_first.y.now b.0 ∙ sym c.from_be_bytes-y.ensures) c.if-x-y.false) ∙ c.loop-x.invariant.0,
      a.1,
      b.1,
    )

pub returns : goal.returns
returns c = ap not c.is_empty.ensures ∙ (sym (first_ends c.loop-x.left.now c.loop-x.right.now c.in_default.ensures.cases) ∙ c.loop-x.invariant.0)
