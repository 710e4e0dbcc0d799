-- What a stream of bytes makes of a device: an answer for each item, to the end or the first fault. Assumes nothing.
use Rattle.std.specs.Prelude.{◌≡◌, ℕ, List, [], ◌∷◌, ◌++◌, map, Ok, Err}
use Rattle.model.specs.declared.fault.Fault.{Fault}
use Rattle.model.specs.declared.fault.Fault.TheVariants.{Malformed}
use Rattle.model.specs.Device.{Device}
use Rattle.model.specs.Answers.{Answer}
use Rattle.model.specs.Run as law
use Rattle.signature.specs.Signatures.{Accepts}
use Rattle.signature.specs.Views.{signature_of}
use Rattle.stream.specs.Items.{Item, Offers, Begins, Asks, Installs, item_in}
use Rattle.device_next.specs.Holding.{Held, Holding, device_of, snapshot_digest}
use Rattle.device_next.specs.Offers.{offered_bytes, outcome_of}

-- questions are not answered yet
abbrev pub Question : Item → Type 0
Question (Offers paper signatures) = ⊥
Question (Begins day) = ⊥
Question (Asks path) = Unit {0}
Question (Installs path file) = Unit {0}

-- from one device to another, by the law
pub data Runs (accepts : Accepts) : Device → List ℕ → List Answer → Device → Type 0 where
  ends : {d : Device} {bs : List ℕ} → bs ≡ [] → Runs accepts d bs [] d
  offers : {d e : Device} {bs rest : List ℕ} {a : Answer} {said : List Answer} (h : Held) (s : Holding) → item_in bs ≡ Ok (Offers h.paper (map signature_of h.signatures), rest) →
      offered_bytes accepts h d ≡ outcome_of accepts a s → Runs accepts (device_of accepts s) rest said e → Runs accepts d bs (a ∷ said) e
  begins : {d e : Device} {bs rest : List ℕ} {a : Answer} {said : List Answer} (day : ℕ) (s : Holding) → item_in bs ≡ Ok (Begins day, rest) →
      law.step snapshot_digest (law.Begins day) d ≡ outcome_of accepts a s → Runs accepts (device_of accepts s) rest said e → Runs accepts d bs (a ∷ said) e
  asks : {d : Device} {bs rest : List ℕ} (x : Item) → item_in bs ≡ Ok (x, rest) → Question x → Runs accepts d bs (Err Malformed ∷ []) d
  stops : {d : Device} {bs : List ℕ} (f : Fault) → ¬ (bs ≡ []) → item_in bs ≡ Err f → Runs accepts d bs (Err f ∷ []) d

-- what was answered so far, and what is left
abbrev pub SoFar : Accepts → Device → List ℕ → List Answer → Device → List ℕ → Type 0
SoFar accepts d bs said now-at left = (more : List Answer) (e : Device) → Runs accepts now-at left more e → Runs accepts d bs (said ++ more) e
