-- What an answer of the code stands for. Assumes nothing.
use Rattle.std.specs.Prelude.{ℕ, List, [], ◌++◌, codes, decimal, Ok, Err, Result}
use Rattle.model.specs.declared.fault.Fault.{Fault}
use Rattle.model.specs.declared.fault.Fault.TheVariants.{Broken}
use Rattle.model.specs.Numbers.{number_of}
use Rattle.model.specs.Device as law

-- what code answers: nothing is said of what is taken
abbrev pub Answer : Type 0
Answer = Result (Unit {0}) Fault

-- the answer of the law
abbrev pub answer_of : Answer → law.Answer
answer_of (Ok taken) = law.Taken
answer_of (Err f) = law.Refused f

-- behind a broken look-up's number stands the role
abbrev pub role_text : Fault → List ℕ
role_text (Broken r) = codes " " ++ decimal r
role_text f = []

-- a fault as users read it
abbrev pub fault_text : Fault → List ℕ
fault_text f = decimal (number_of f) ++ role_text f

-- an answer as users read it
abbrev pub answer_text : Answer → List ℕ
answer_text (Ok u) = codes "taken"
answer_text (Err f) = fault_text f
