use Rattle.std.proofs.Common.{vec_items}
use Rattle.encoding.proofs.Writes.{Sofar}
use Rattle.encoding.proofs.leaf.write_keys.Given as goal

abbrev pub invariant-loop-key : goal.invariant-loop-key
invariant-loop-key l = Sofar (λ k. k) (vec_items l.initial.out) l.keys (vec_items l.out) l.key-index
