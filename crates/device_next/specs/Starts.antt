-- A device that was just made. Assumes nothing.
use Rattle.std.specs.Prelude.{◌≡◌, ℕ, Bool, List, [], Some, None, Ok, Err, Option, Result}
use Rattle.model.specs.declared.fault.Fault.{Fault}
use Rattle.model.specs.declared.fault.Fault.TheVariants.{Malformed}
use Rattle.model.specs.World.{Reached}
use Rattle.model.specs.Metadata.{Key, Metadata, ARoot, ATimestamp, ASnapshot, ATargets}
use Rattle.signature.specs.Signatures.{Accepts}
use Rattle.device_next.specs.Holding.{Holding, as_root, paper_of, device_of}
use Rattle.device_next.specs.Offers.{world_of}
use Rattle.device_next.specs.Views.{holding_of}
use Rattle.device_next.specs.declared.state.Device.{Device}

-- what speaks against a first paper: it does not read, or is no root
abbrev pub first_fault_of : Result Metadata Fault → Option Fault
first_fault_of (Ok (ARoot r)) = None
first_fault_of (Ok (ATimestamp t)) = Some Malformed
first_fault_of (Ok (ASnapshot x)) = Some Malformed
first_fault_of (Ok (ATargets t)) = Some Malformed
first_fault_of (Err f) = Some f

-- nothing but the first root, on day 0
abbrev pub only_root : List ℕ → Holding
only_root bs = record { root = record { paper = bs; signatures = [] }; timestamp = None; snapshot = None; targets = []; notes = []; today = 0 }

abbrev pub Started : Option Fault → List ℕ → Result Device Fault → Type 0
Started None bs (Ok d) = holding_of d ≡ only_root bs
Started None bs (Err e) = ⊥
Started (Some f) bs (Ok d) = ⊥
Started (Some f) bs (Err e) = e ≡ f

-- a device that was just made can be reached from its root, whatever is accepted and was signed
abbrev pub StartsReached : List ℕ → Result Device Fault → Type 0
StartsReached bs (Ok d) = (accepts : Accepts) (signed : Key → List ℕ → Bool) → Reached (world_of signed) (as_root (paper_of bs)) (device_of accepts (holding_of d))
StartsReached bs (Err e) = Unit {0}
