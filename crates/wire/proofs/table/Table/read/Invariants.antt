use Rattle.std.proofs.Common.{◌≡◌, ◌-◌, List}
use Rattle.std.specs.Option.{option_map}
use Rattle.wire.specs.Tables.{read_rising, rising}
use Rattle.wire.proofs.Tables.{extended}
use Rattle.wire.proofs.table.Table.read.Given as goal

-- what was read and what is left make up the whole
abbrev pub invariant-loop-done : goal.invariant-loop-done
invariant-loop-done g l =
    (xs : List g.K.Kind.Plain) ×
    (extended xs (read_rising g.K.Kind.form g.K.Kind.key g.K.Kind.below (option_map (λ x. g.K.Kind.key (g.K.Kind.plain x)) l.last) (l.count - l.done) l.rest) ≡ (rising g.K.Kind.form g.K.Kind.key g.K.Kind.below l.count).read l.bytes)
