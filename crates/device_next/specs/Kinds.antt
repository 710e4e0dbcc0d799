-- Which bytes are a paper of a kind. Assumes nothing.
use Rattle.std.specs.Prelude.{ℕ, Bool, false, List, Ok, Err, Result, ◌==◌}
use Rattle.model.specs.declared.fault.Fault.{Fault}
use Rattle.model.specs.Metadata.{Metadata, ARoot, ATimestamp, ASnapshot, ATargets}
use Rattle.metadata.specs.Papers.{paper_in}

-- the kind byte of a paper
abbrev pub kind_of : Metadata → ℕ
kind_of (ARoot r) = 1
kind_of (ATimestamp t) = 2
kind_of (ASnapshot x) = 3
kind_of (ATargets t) = 4

abbrev pub is_of_kind : ℕ → Result Metadata Fault → Bool
is_of_kind kind (Ok p) = kind == kind_of p
is_of_kind kind (Err f) = false

abbrev pub reads_as : ℕ → List ℕ → Bool
reads_as kind bs = is_of_kind kind (paper_in bs)
