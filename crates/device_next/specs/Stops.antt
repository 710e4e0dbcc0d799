-- How a result of the code is read, where memory may end. Assumes nothing.
use Rattle.std.specs.Prelude.{Ok, Err, Result}
use Rattle.model.specs.declared.fault.Fault.{Fault}
use Rattle.device_next.specs.declared.stop.Stop.{Stop}
use Rattle.device_next.specs.declared.stop.Stop.TheVariants.{Memory, Refused}

-- what holds of the value or the fault, and what holds where memory ended
abbrev pub MatchStop : {A : Type 0} → Result A Stop → (Result A Fault → Type 0) → Type 0 → Type 0
MatchStop (Ok x) P Q = P (Ok x)
MatchStop (Err (Refused f)) P Q = P (Err f)
MatchStop (Err (Memory e)) P Q = Q
