use Rattle.std.proofs.Common.{vec_items}
use Rattle.text.specs.Texts.{key_text}
use Rattle.line.proofs.Writes.{Sofar}
use Rattle.text.proofs.paper.write_keys.Given as goal

abbrev pub invariant-loop-key : goal.invariant-loop-key
invariant-loop-key l = Sofar key_text (vec_items l.initial.out) l.keys (vec_items l.out) l.key-index
