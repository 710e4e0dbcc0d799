-- What comes of tests. Assumes nothing.
use Rattle.std.specs.Prelude.{◌≡◌, List, Some, None, Result, MatchResult}
use Rattle.model.specs.declared.fault.Fault.{Fault}
use Rattle.model.specs.Taking.{Check, first_fault}

-- nothing if no test fails, else the fault of the first that does
abbrev pub Verdict : List Check → Result (Unit {0}) Fault → Type 0
Verdict checks r = MatchResult r (λ _. first_fault checks ≡ None) (λ f. first_fault checks ≡ Some f)
