use Rattle.std.proofs.Common.{vec_items}
use Rattle.std.specs.Option.{option_map}
use Rattle.text_form.proofs.Chains.{Sofar}
use Rattle.draft_parts.proofs.table.put_table.Given as goal

abbrev pub invariant-loop-done : goal.invariant-loop-done
invariant-loop-done g l =
    Sofar g.P.Part.form g.P.Part.key g.P.Part.bytes l.text (vec_items l.initial.out) l.count l.rest (vec_items l.out) (option_map g.P.Part.stands_for l.last) l.done
