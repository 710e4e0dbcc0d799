-- The number of each fault. Assumes nothing.
use Rattle.std.specs.Prelude.{ℕ}
use Rattle.model.specs.declared.fault.Fault.{Fault}
use Rattle.model.specs.declared.fault.Fault.TheVariants.{Malformed, OutOfRange, OutOfOrder, NotEnough, NotNext, NotNewer, NotNamed, Regresses, NotListed, NotDelegated, Expired, Full, NotFound, Terminated, Broken, Differs}

abbrev pub number_of : Fault → ℕ
number_of Malformed = 1
number_of OutOfRange = 2
number_of OutOfOrder = 3
number_of NotEnough = 4
number_of NotNext = 5
number_of NotNewer = 6
number_of NotNamed = 7
number_of Regresses = 8
number_of NotListed = 9
number_of NotDelegated = 10
number_of Expired = 11
number_of Full = 12
number_of NotFound = 13
number_of Terminated = 14
number_of (Broken role) = 15
number_of Differs = 16
