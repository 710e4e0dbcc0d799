-- What a check says of the paper that was read. Assumes nothing.
use Rattle.std.specs.Prelude.{ℕ, List, ◌++◌, Ok, Err, codes, decimal, Result}
use Rattle.model.specs.declared.fault.Fault.{Fault}
use Rattle.model.specs.Metadata as model
use Rattle.line.specs.Words.{kind_word}
use Rattle.line.specs.declared.kind.Kind.{Kind}
use Rattle.line.specs.declared.kind.Kind.TheVariants as kind
use Rattle.desk.specs.declared.Good.{Good}

abbrev pub good : Kind → ℕ → Good
good k n = record { kind = k; number = n }

-- the kind and number of a paper, or the fault
abbrev pub checked_of : Result model.Metadata Fault → Result Good Fault
checked_of (Ok (model.ARoot r)) = Ok (good kind.Root r.version)
checked_of (Ok (model.ATimestamp t)) = Ok (good kind.Clock t.version)
checked_of (Ok (model.ASnapshot x)) = Ok (good kind.Index x.version)
checked_of (Ok (model.ATargets t)) = Ok (good kind.List t.version)
checked_of (Err f) = Err f

-- as users read it
abbrev pub good_text : Good → List ℕ
good_text g = codes "ok " ++ (kind_word g.kind ++ (codes " " ++ decimal g.number))
