-- Events, and what a device makes of them. Assumes nothing.
use Rattle.std.specs.Prelude.{ℕ, ◌+◌, cond, List, [], ◌∷◌, Some, None, Option, ◌==◌}
use Rattle.model.specs.declared.fault.Fault.{Fault}
use Rattle.model.specs.declared.fault.Fault.TheVariants.{OutOfRange, NotFound, Terminated, Broken, Expired, Differs}
use Rattle.model.specs.Lists.{all}
use Rattle.model.specs.Metadata.{Digest, Steps, Snapshot, Offer}
use Rattle.model.specs.Same.{same_list}
use Rattle.model.specs.Device.{Device, Answer, Gives, Refused, Outcome, settle}
use Rattle.model.specs.Taking.{offered}
use Rattle.model.specs.Look.{Found, Sure, Missing, Ended, Stale, Gap, look}

-- an offer; a day that begins, by its number; a question for a path; a file to install, with its size and the digest of its bytes
pub data Event : Type 0 where
  Offers : Offer → Event
  Begins : ℕ → Event
  Asks : Steps → Event
  Installs : Steps → ℕ → Digest → Event

-- the answer to a look-up
abbrev pub told : Found → Answer
told (Sure f) = Gives f
told Missing = Refused NotFound
told Ended = Refused Terminated
told Stale = Refused Expired
told (Gap r) = Refused (Broken r)

-- a file is installed only if its size and digest are those found
abbrev pub checked : ℕ → Digest → Found → Answer
checked size digest (Sure f) = cond (all ((size == f.size) ∷ same_list digest f.digest ∷ [])) (Gives f) (Refused Differs)
checked size digest Missing = told Missing
checked size digest Ended = told Ended
checked size digest Stale = told Stale
checked size digest (Gap r) = told (Gap r)

-- days pass one by one: only the next one may begin
abbrev pub day_fault : ℕ → ℕ → Option Fault
day_fault today day = cond (day == today + 1) None (Some OutOfRange)

abbrev pub on_day : ℕ → Device → Device
on_day day d = record { root = d.root; timestamp = d.timestamp; snapshot = d.snapshot; targets = d.targets; journal = d.journal; today = day }

abbrev pub step : (Snapshot → Digest) → Event → Device → Outcome
step h (Offers o) d = offered h o d
step h (Begins day) d = settle (day_fault d.today day) (on_day day d) d
step h (Asks path) d = record { device = d; answer = told (look h d path) }
step h (Installs path size digest) d = record { device = d; answer = checked size digest (look h d path) }

-- the device after a list of events
abbrev pub run : (Snapshot → Digest) → List Event → Device → Device
run h [] d = d
run h (e ∷ es) d = run h es (step h e d).device

-- its answers to them
abbrev pub answers : (Snapshot → Digest) → List Event → Device → List Answer
answers h [] d = []
answers h (e ∷ es) d = (step h e d).answer ∷ answers h es (step h e d).device
