-- What a device takes, and what it then keeps and forgets. Assumes nothing.
use Rattle.std.specs.Prelude.{ℕ, ◌+◌, Bool, true, false, cond, not, ◌&&◌, List, [], ◌∷◌, ◌++◌, is_some, Some, None, filter, Option, ◌==◌, nat_eq, nat_le, nat_lt}
use Rattle.std.specs.Option.{option_map}
use Rattle.model.specs.declared.fault.Fault.{Fault}
use Rattle.model.specs.declared.fault.Fault.TheVariants.{NotEnough, NotNext, NotNewer, NotNamed, Regresses, NotListed, NotDelegated, Expired, Full}
use Rattle.model.specs.Lists.{all, first}
use Rattle.model.specs.Metadata.{Digest, Quorum, Root, Timestamp, Meta, Snapshot, Delegation, Targets, Metadata, ARoot, ATimestamp, ASnapshot, ATargets, Signed, Offer}
use Rattle.model.specs.Same.{same_list, same_quorums}
use Rattle.model.specs.Quorums.{enough}
use Rattle.model.specs.Journal.{Entry, noted, noted_root, room, room_root}
use Rattle.model.specs.Device.{Device, Outcome, settle}

-- a test, with the fault that shows where it fails
pub record Check : Type 0 where
  pub holds : Bool
  pub fault : Fault

abbrev pub must : Bool → Fault → Check
must b f = record { holds = b; fault = f }

-- the tests are listed with the lowest number first, so the first that fails has the lowest number
abbrev pub first_fault : List Check → Option Fault
first_fault [] = None
first_fault (c ∷ cs) = cond c.holds (first_fault cs) (Some c.fault)

-- today is not after the last day
abbrev pub in_time : ℕ → ℕ → Bool
in_time today expires = nat_le today expires

-- ROOT: one version on, and enough for the present root's quorum and for its own

abbrev pub root_checks : Device → Root → Offer → List Check
root_checks d r o =
    must (enough d.root.root o.signers) NotEnough ∷
    must (enough r.root o.signers) NotNext ∷
    must (r.version == d.root.version + 1) NotNext ∷
    must (room_root d.today d.root.root r.root o d.journal) Full ∷ []

-- are the quorums of timestamp and snapshot the same under a new root
abbrev pub stays : Root → Root → Bool
stays old new = all (same_quorums new.timestamp old.timestamp ∷ same_quorums new.snapshot old.snapshot ∷ [])

abbrev pub keep_if : {A : Type 0} → Bool → Option A → Option A
keep_if b m = cond b m None

abbrev pub take_root : Root → Offer → Device → Device
take_root r o d = record {
  root = r;
  timestamp = keep_if (stays d.root r) d.timestamp;
  snapshot = keep_if (stays d.root r) d.snapshot;
  targets = d.targets;
  journal = noted_root d.today d.root.root r.root o d.journal;
  today = d.today;
}

-- TIMESTAMP: a version above the kept one's, a snapshot not below the one that it names, in time

abbrev pub newer : Timestamp → Option Timestamp → Bool
newer t None = true
newer t (Some old) = all (nat_lt old.version t.version ∷ nat_le old.snapshot t.snapshot ∷ [])

abbrev pub timestamp_checks : Device → Timestamp → Offer → List Check
timestamp_checks d t o =
    must (enough d.root.timestamp o.signers) NotEnough ∷
    must (newer t d.timestamp) NotNewer ∷
    must (in_time d.today t.expires) Expired ∷
    must (room d.today d.root.timestamp o d.journal) Full ∷ []

abbrev pub take_timestamp : Timestamp → Offer → Device → Device
take_timestamp t o d = record {
  root = d.root;
  timestamp = Some t;
  snapshot = d.snapshot;
  targets = d.targets;
  journal = noted d.today d.root.timestamp o d.journal;
  today = d.today;
}

-- SNAPSHOT: named by the kept timestamp; no role of the kept snapshot lacks or goes back; in time

-- does the timestamp name the snapshot, by version and digest
abbrev pub names : (Snapshot → Digest) → Snapshot → Timestamp → Bool
names h x t = all ((t.snapshot == x.version) ∷ same_list t.digest (h x) ∷ [])

abbrev pub named : (Snapshot → Digest) → Snapshot → Option Timestamp → Bool
named h x None = false
named h x (Some t) = names h x t

-- the version that a snapshot gives for a role
abbrev pub version_in : ℕ → List Meta → Option ℕ
version_in r ms = option_map (λ (m : Meta). m.version) (first (λ (m : Meta). nat_eq r m.role) ms)

abbrev pub at_least : ℕ → Option ℕ → Bool
at_least n None = false
at_least n (Some m) = nat_le n m

-- each role is there, with a version that is not lower
abbrev pub covers : List Meta → List Meta → Bool
covers new [] = true
covers new (m ∷ ms) = at_least m.version (version_in m.role new) && covers new ms

abbrev pub covers_kept : Snapshot → Option Snapshot → Bool
covers_kept x None = true
covers_kept x (Some old) = all (covers x.metas old.metas ∷ nat_le old.version x.version ∷ [])

abbrev pub snapshot_checks : (Snapshot → Digest) → Device → Snapshot → Offer → List Check
snapshot_checks h d x o =
    must (enough d.root.snapshot o.signers) NotEnough ∷
    must (named h x d.timestamp) NotNamed ∷
    must (covers_kept x d.snapshot) Regresses ∷
    must (in_time d.today x.expires) Expired ∷
    must (room d.today d.root.snapshot o d.journal) Full ∷ []

-- does a snapshot list the role of these targets
abbrev pub lists : Snapshot → Signed Targets → Bool
lists x k = is_some (version_in k.paper.role x.metas)

abbrev pub take_snapshot : Snapshot → Offer → Device → Device
take_snapshot x o d = record {
  root = d.root;
  timestamp = d.timestamp;
  snapshot = Some x;
  targets = filter (lists x) d.targets;
  journal = noted d.today d.root.snapshot o d.journal;
  today = d.today;
}

-- TARGETS: the version that the kept snapshot gives for the role, in time

abbrev pub is_version : ℕ → Option ℕ → Bool
is_version n None = false
is_version n (Some m) = n == m

abbrev pub current : Option Snapshot → Targets → Bool
current None t = false
current (Some x) t = is_version t.version (version_in t.role x.metas)

-- all delegations of these targets, in order
abbrev pub delegations_of : List (Signed Targets) → List Delegation
delegations_of [] = []
delegations_of (k ∷ ks) = k.paper.delegations ++ delegations_of ks

-- the delegations that count: those of current targets, the latest taken first
abbrev pub delegations_at : Device → List Delegation
delegations_at d = delegations_of (filter (λ (k : Signed Targets). current d.snapshot k.paper) d.targets)

-- the quorum asked for a role's targets: the root's for role 0, else that of the first delegation to the role
abbrev pub quorum_for : Device → ℕ → Option Quorum
quorum_for d r = cond (r == 0) (Some d.root.top) (option_map (λ (b : Delegation). b.quorum) (first (λ (b : Delegation). nat_eq r b.role) (delegations_at d)))

-- a test of the quorum, if one is asked for
abbrev pub when_asked : Option Quorum → (Quorum → Bool) → Bool
when_asked None test = true
when_asked (Some q) test = test q

abbrev pub noted_if : ℕ → Option Quorum → Offer → List Entry → List Entry
noted_if today None o j = j
noted_if today (Some q) o j = noted today q o j

abbrev pub targets_checks : Device → Targets → Offer → List Check
targets_checks d t o =
    must (when_asked (quorum_for d t.role) (λ q. enough q o.signers)) NotEnough ∷
    must (current d.snapshot t) NotListed ∷
    must (is_some (quorum_for d t.role)) NotDelegated ∷
    must (in_time d.today t.expires) Expired ∷
    must (when_asked (quorum_for d t.role) (λ q. room d.today q o d.journal)) Full ∷ []

-- are these targets of another role
abbrev pub other_than : ℕ → Signed Targets → Bool
other_than r k = not (r == k.paper.role)

abbrev pub take_targets : Targets → Offer → Device → Device
take_targets t o d = record {
  root = d.root;
  timestamp = d.timestamp;
  snapshot = d.snapshot;
  targets = record { paper = t; signers = o.signers } ∷ filter (other_than t.role) d.targets;
  journal = noted_if d.today (quorum_for d t.role) o d.journal;
  today = d.today;
}

-- ANY OFFER

abbrev pub checks_of : (Snapshot → Digest) → Device → Metadata → Offer → List Check
checks_of h d (ARoot r) o = root_checks d r o
checks_of h d (ATimestamp t) o = timestamp_checks d t o
checks_of h d (ASnapshot x) o = snapshot_checks h d x o
checks_of h d (ATargets t) o = targets_checks d t o

abbrev pub take_of : Metadata → Offer → Device → Device
take_of (ARoot r) o d = take_root r o d
take_of (ATimestamp t) o d = take_timestamp t o d
take_of (ASnapshot x) o d = take_snapshot x o d
take_of (ATargets t) o d = take_targets t o d

abbrev pub offered : (Snapshot → Digest) → Offer → Device → Outcome
offered h o d = settle (first_fault (checks_of h d o.paper o)) (take_of o.paper o d) d
