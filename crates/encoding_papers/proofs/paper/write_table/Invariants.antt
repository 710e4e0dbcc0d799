use Rattle.std.proofs.Common.{◌≡◌, ◌++◌, vec_items}
use Rattle.std.specs.List.{flat_map}
use Rattle.wire.specs.Tables.{items}
use Rattle.encoding_papers.proofs.paper.write_table.Given as goal

-- what is written and what is left make up the whole
abbrev pub invariant-loop-item : goal.invariant-loop-item
invariant-loop-item g l =
    vec_items l.out ++ flat_map g.K.Kind.form.write (items g.K.Kind.form l.item-iterator.count l.item-iterator.bytes.now)
    ≡ vec_items l.initial.out ++ flat_map g.K.Kind.form.write (items g.K.Kind.form l.table.count l.table.bytes.now)
