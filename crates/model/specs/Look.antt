-- Looking a file up through the targets that are at hand. Assumes nothing.
use Rattle.std.specs.Prelude.{ℕ, zero, suc, Bool, true, false, cond, ◌&&◌, List, [], ◌∷◌, Some, None, Option, ◌==◌}
use Rattle.model.specs.Lists.{all, first}
use Rattle.model.specs.Metadata.{Digest, Steps, Quorum, File, Delegation, Timestamp, Snapshot, Targets, Signed}
use Rattle.model.specs.Same.{same_list}
use Rattle.model.specs.Quorums.{enough}
use Rattle.model.specs.Device.{Device}
use Rattle.model.specs.Taking.{in_time, current, names}

-- Sure: this file; Missing: nothing found; Ended: by a terminating delegation; Gap: this role's targets are not at hand;
-- Stale: root, timestamp or snapshot do not stand today
pub data Found : Type 0 where
  Sure : File → Found
  Missing Ended Stale : Found
  Gap : ℕ → Found

-- does the path begin with the prefix
abbrev pub begins : Steps → Steps → Bool
begins [] path = true
begins (x ∷ xs) [] = false
begins (x ∷ xs) (y ∷ ys) = x == y && begins xs ys

-- at hand for a role and a quorum: kept for this role, enough for this quorum, of the version that the snapshot gives, in time
abbrev pub at_hand : Device → ℕ → Quorum → Signed Targets → Bool
at_hand d r q k = all (
    (k.paper.role == r) ∷ enough q k.signers ∷ current d.snapshot k.paper ∷ in_time d.today k.paper.expires ∷ [])

abbrev pub targets_at : Device → ℕ → Quorum → Option (Signed Targets)
targets_at d r q = first (at_hand d r q) d.targets

abbrev pub file_at : Steps → List File → Option File
file_at path fs = first (λ (f : File). same_list f.path path) fs

-- what a delegation's answer means for those behind it
abbrev pub or_on : Found → Bool → Found → Found
or_on (Sure f) terminating rest = Sure f
or_on Missing true rest = Ended
or_on Missing false rest = rest
or_on Ended terminating rest = Ended
or_on Stale terminating rest = Stale
or_on (Gap r) terminating rest = Gap r

-- delegations in order; one whose prefix does not fit is passed over
abbrev pub through : (ℕ → Quorum → Found) → Steps → List Delegation → Found
through go path [] = Missing
through go path (b ∷ bs) =
    cond (begins b.prefix path) (or_on (go b.role b.quorum) b.terminating (through go path bs)) (through go path bs)

-- a file of these targets, or else what their delegations come to
abbrev pub or_through : Option File → Found → Found
or_through None rest = rest
or_through (Some f) rest = Sure f

abbrev pub in_targets : (ℕ → Quorum → Found) → Steps → ℕ → Option (Signed Targets) → Found
in_targets go path r None = Gap r
in_targets go path r (Some k) = or_through (file_at path k.paper.files) (through go path k.paper.delegations)

-- at most so many targets one below the other
abbrev pub look_deep : ℕ → Device → Steps → ℕ → Quorum → Found
look_deep zero d path r q = Gap r
look_deep (suc n) d path r q = in_targets (λ s j. look_deep n d path s j) path r (targets_at d r q)

-- timestamp and snapshot are kept, the one names the other, and neither they nor the root have run out
abbrev pub standing : (Snapshot → Digest) → Device → Option Timestamp → Option Snapshot → Bool
standing h d None x = false
standing h d (Some t) None = false
standing h d (Some t) (Some x) = all (
    in_time d.today d.root.expires ∷ in_time d.today t.expires ∷ in_time d.today x.expires ∷ names h x t ∷ [])

-- what a device finds for a path
abbrev pub look : (Snapshot → Digest) → Device → Steps → Found
look h d path = cond (standing h d d.timestamp d.snapshot) (look_deep 8 d path 0 d.root.top) Stale
