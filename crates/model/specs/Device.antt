-- What a device keeps, and what it answers. Assumes nothing.
use Rattle.std.specs.Prelude.{ℕ, List, [], Some, None, Option}
use Rattle.model.specs.declared.fault.Fault.{Fault}
use Rattle.model.specs.Metadata.{Root, Timestamp, Snapshot, Targets, File, Signed}
use Rattle.model.specs.Journal.{Entry}

-- targets: the newest of each role with all their signers, the latest taken first; journal: the latest first
pub record Device : Type 0 where
  pub root : Root
  pub timestamp : Option Timestamp
  pub snapshot : Option Snapshot
  pub targets : List (Signed Targets)
  pub journal : List Entry
  pub today : ℕ

-- a device that is made with a first root begins on day 0
abbrev pub fresh : Root → Device
fresh r = record { root = r; timestamp = None; snapshot = None; targets = []; journal = []; today = 0 }

pub data Answer : Type 0 where
  Taken : Answer
  Gives : File → Answer
  Refused : Fault → Answer

-- what comes of an event: the device after it, and the answer
pub record Outcome : Type 0 where
  pub device : Device
  pub answer : Answer

-- the new device if nothing speaks against it; what is refused changes nothing
abbrev pub settle : Option Fault → Device → Device → Outcome
settle None new old = record { device = new; answer = Taken }
settle (Some f) new old = record { device = old; answer = Refused f }
