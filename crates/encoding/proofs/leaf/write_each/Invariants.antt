use Rattle.std.proofs.Common.{vec_items}
use Rattle.wire.specs.Numbers.{big_endian, bytes_of}
use Rattle.encoding.proofs.Writes.{Sofar}
use Rattle.encoding.proofs.leaf.write_each.Given as goal

abbrev pub invariant-loop-step : goal.invariant-loop-step
invariant-loop-step l = Sofar (λ p. bytes_of 2 (big_endian p)) (vec_items l.initial.out) l.steps (vec_items l.out) l.step-index
