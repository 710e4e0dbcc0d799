use Rattle.std.proofs.Common.{◌≡◌, length}
use Rattle.std.specs.List.{AllByRecursion}
use Rattle.wire.specs.Leaves.{below, steps_of}
use Rattle.wire.proofs.path.path_below.Given as goal

-- what is left decides
abbrev pub invariant-loop-x : goal.invariant-loop-x
invariant-loop-x l =
    (below (steps_of l.left) (steps_of l.right) ≡ below (steps_of l.a) (steps_of l.b)) ×
    AllByRecursion (λ p. length p ≡ 2) l.left × AllByRecursion (λ p. length p ≡ 2) l.right

abbrev pub decreases-loop-x : goal.decreases-loop-x
decreases-loop-x l = length l.left
