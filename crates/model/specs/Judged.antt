-- What is taken and what is refused, by the rules in words. Assumes nothing.
use Rattle.std.specs.Prelude.{◌≡◌, ℕ, ◌+◌, ◌<◌, ◌≤◌, ◌⊎◌, List, [], ◌∷◌, length, Some, None, Option}
use mathlib.Core.List.{Memᴰ}
use Rattle.model.specs.declared.fault.Fault.{Fault}
use Rattle.model.specs.declared.fault.Fault.TheVariants.{OutOfRange, NotEnough, NotNext, NotNewer, NotNamed, Regresses, NotListed, NotDelegated, Expired, Full}
use Rattle.model.specs.Numbers.{number_of}
use Rattle.model.specs.Lists.{First, Sifted}
use Rattle.model.specs.Metadata.{Key, Digest, Steps, Quorum, Root, Timestamp, Meta, Snapshot, Delegation, Targets, Metadata, ARoot, ATimestamp, ASnapshot, ATargets, Signed, Offer}
use Rattle.model.specs.Journal.{Entry, entry, under}
use Rattle.model.specs.Device.{Device, Taken, Refused}
use Rattle.model.specs.Taking.{offered}
use Rattle.model.specs.Run.{Begins, Asks, Installs, step}
use Rattle.model.specs.Meanings.{Meets}
use Rattle.model.specs.Onward.{SameQuorums}

-- THE RULES

-- the kept timestamp, if there is one, has a lower version and names no newer snapshot
abbrev pub Newer : Timestamp → Option Timestamp → Type 0
Newer t kept = (old : Timestamp) → kept ≡ Some old → (old.version < t.version) × (old.snapshot ≤ t.snapshot)

-- a timestamp is kept, and names the snapshot by version and digest
abbrev pub Named : (Snapshot → Digest) → Snapshot → Option Timestamp → Type 0
Named h x kept = (t : Timestamp) × (kept ≡ Some t) × (t.snapshot ≡ x.version) × (t.digest ≡ h x)

-- a snapshot gives this version for this role
abbrev pub GivesVersion : Snapshot → ℕ → ℕ → Type 0
GivesVersion x r n = First (λ (m : Meta). m.role ≡ r) x.metas (record { role = r; version = n })

-- every role that the kept snapshot lists is listed with a version at least as high, and the snapshot's own is not lower
abbrev pub Covers : Snapshot → Option Snapshot → Type 0
Covers x kept =
    (old : Snapshot) → kept ≡ Some old →
    (old.version ≤ x.version) × ((m : Meta) → Memᴰ m old.metas → (n : ℕ) × GivesVersion x m.role n × (m.version ≤ n))

-- a snapshot is kept, and gives the version of these targets for their role
abbrev pub Current : Option Snapshot → Targets → Type 0
Current kept t = (x : Snapshot) × (kept ≡ Some x) × GivesVersion x t.role t.version

-- these targets delegate to a role
abbrev pub Delegates : ℕ → Signed Targets → Type 0
Delegates r k = (b : Delegation) × Memᴰ b k.paper.delegations × (b.role ≡ r)

-- the quorum asked for a role's targets: the root's for role 0, else that of the first delegation to the role, in the latest taken of the current targets that have one
pub data Asked (d : Device) (r : ℕ) (q : Quorum) : Type 0 where
  for-top : r ≡ 0 → q ≡ d.root.top → Asked d r q
  delegated : ¬ (r ≡ 0) →
      (ks : List (Signed Targets)) → Sifted (λ (k : Signed Targets). Current d.snapshot k.paper) d.targets ks →
      (k : Signed Targets) → First (Delegates r) ks k →
      (b : Delegation) → First (λ (b : Delegation). b.role ≡ r) k.paper.delegations b → q ≡ b.quorum → Asked d r q

-- the paper stands in the journal for this quorum
abbrev pub Stands : Quorum → Metadata → List Entry → Type 0
Stands q p j = (e : Entry) × Memᴰ e j × (e.quorum ≡ q) × (e.paper ≡ p)

-- it stands there and needs no place, or there is one
abbrev pub Room : Quorum → Metadata → List Entry → Type 0
Room q p j = Stands q p j ⊎ ((length j < 65536) × (under q j < 16384))

-- two places: one under the old root quorum and one under the new, or both under one
pub record RoomTwice (old new : Quorum) (j : List Entry) : Type 0 where
  pub all : length j + 2 ≤ 65536
  pub same : old ≡ new → under old j + 2 ≤ 16384
  pub other : ¬ (old ≡ new) → (under old j < 16384) × (under new j < 16384)

-- what must hold for an offer to be taken, with the fault that it has otherwise
pub record Condition : Type 1 where
  pub must : Type 0
  pub fault : Fault

abbrev pub wants : Type 0 → Fault → Condition
wants P f = record { must = P; fault = f }

abbrev pub root_rule : Device → Root → List Key → List Condition
root_rule d r signers =
    wants (Meets d.root.root signers) NotEnough ∷
    wants (Meets r.root signers) NotNext ∷
    wants (r.version ≡ d.root.version + 1) NotNext ∷
    wants (RoomTwice d.root.root r.root d.journal) Full ∷ []

abbrev pub timestamp_rule : Device → Timestamp → List Key → List Condition
timestamp_rule d t signers =
    wants (Meets d.root.timestamp signers) NotEnough ∷
    wants (Newer t d.timestamp) NotNewer ∷
    wants (d.today ≤ t.expires) Expired ∷
    wants (Room d.root.timestamp (ATimestamp t) d.journal) Full ∷ []

abbrev pub snapshot_rule : (Snapshot → Digest) → Device → Snapshot → List Key → List Condition
snapshot_rule h d x signers =
    wants (Meets d.root.snapshot signers) NotEnough ∷
    wants (Named h x d.timestamp) NotNamed ∷
    wants (Covers x d.snapshot) Regresses ∷
    wants (d.today ≤ x.expires) Expired ∷
    wants (Room d.root.snapshot (ASnapshot x) d.journal) Full ∷ []

abbrev pub targets_rule : Device → Targets → List Key → List Condition
targets_rule d t signers =
    wants ((q : Quorum) → Asked d t.role q → Meets q signers) NotEnough ∷
    wants (Current d.snapshot t) NotListed ∷
    wants ((q : Quorum) × Asked d t.role q) NotDelegated ∷
    wants (d.today ≤ t.expires) Expired ∷
    wants ((q : Quorum) → Asked d t.role q → Room q (ATargets t) d.journal) Full ∷ []

abbrev pub rule_for : (Snapshot → Digest) → Device → Metadata → List Key → List Condition
rule_for h d (ARoot r) signers = root_rule d r signers
rule_for h d (ATimestamp t) signers = timestamp_rule d t signers
rule_for h d (ASnapshot x) signers = snapshot_rule h d x signers
rule_for h d (ATargets t) signers = targets_rule d t signers

-- all conditions hold
abbrev pub Holds : List Condition → Type 0
Holds [] = Unit {0}
Holds (c ∷ cs) = c.must × Holds cs

-- a condition with this fault does not hold
abbrev pub Fails : List Condition → Fault → Type 0
Fails [] f = ⊥
Fails (c ∷ cs) f = ((c.fault ≡ f) × ¬ c.must) ⊎ Fails cs f

-- this fault holds, and none with a lower number
abbrev pub Lowest : List Condition → Fault → Type 0
Lowest cs f = Fails cs f × ((g : Fault) → Fails cs g → number_of f ≤ number_of g)

-- WHAT THE NEW DEVICE IS, PART BY PART

pub record RootTaken (d : Device) (r : Root) (o : Offer) (e : Device) : Type 0 where
  pub root : e.root ≡ r
  pub same : SameQuorums d.root r → (e.timestamp ≡ d.timestamp) × (e.snapshot ≡ d.snapshot)
  pub changed : ¬ (SameQuorums d.root r) → (e.timestamp ≡ None) × (e.snapshot ≡ None)
  pub targets : e.targets ≡ d.targets
  pub journal : e.journal ≡ entry d.today r.root o ∷ (entry d.today d.root.root o ∷ d.journal)
  pub today : e.today ≡ d.today

-- the journal has one entry more, unless the paper stands there for this quorum
pub record Noted (today : ℕ) (q : Quorum) (o : Offer) (old new : List Entry) : Type 0 where
  pub there : Stands q o.paper old → new ≡ old
  pub added : ¬ (Stands q o.paper old) → new ≡ entry today q o ∷ old

pub record TimestampTaken (d : Device) (t : Timestamp) (o : Offer) (e : Device) : Type 0 where
  pub root : e.root ≡ d.root
  pub timestamp : e.timestamp ≡ Some t
  pub snapshot : e.snapshot ≡ d.snapshot
  pub targets : e.targets ≡ d.targets
  pub journal : Noted d.today d.root.timestamp o d.journal e.journal
  pub today : e.today ≡ d.today

-- kept targets whose role the new snapshot does not list are dropped
pub record SnapshotTaken (d : Device) (x : Snapshot) (o : Offer) (e : Device) : Type 0 where
  pub root : e.root ≡ d.root
  pub timestamp : e.timestamp ≡ d.timestamp
  pub snapshot : e.snapshot ≡ Some x
  pub targets : Sifted (λ (k : Signed Targets). (n : ℕ) × GivesVersion x k.paper.role n) d.targets e.targets
  pub journal : Noted d.today d.root.snapshot o d.journal e.journal
  pub today : e.today ≡ d.today

-- the new targets come first, with all their signers, and replace those of their role
pub record TargetsTaken (d : Device) (t : Targets) (o : Offer) (e : Device) : Type 0 where
  pub root : e.root ≡ d.root
  pub timestamp : e.timestamp ≡ d.timestamp
  pub snapshot : e.snapshot ≡ d.snapshot
  pub others : List (Signed Targets)
  pub sifted : Sifted (λ (k : Signed Targets). ¬ (k.paper.role ≡ t.role)) d.targets others
  pub targets : e.targets ≡ record { paper = t; signers = o.signers } ∷ others
  pub journal : (q : Quorum) → Asked d t.role q → Noted d.today q o d.journal e.journal
  pub today : e.today ≡ d.today

abbrev pub Becomes : Device → Metadata → Offer → Device → Type 0
Becomes d (ARoot r) o e = RootTaken d r o e
Becomes d (ATimestamp t) o e = TimestampTaken d t o e
Becomes d (ASnapshot x) o e = SnapshotTaken d x o e
Becomes d (ATargets t) o e = TargetsTaken d t o e

-- THE PROMISE

-- an offer is taken iff its rule holds; a refusal has the lowest number of the faults that hold, and changes nothing
pub record JudgedOffer (h : Snapshot → Digest) (o : Offer) (d : Device) : Type 0 where
  pub taken : (offered h o d).answer ≡ Taken → Holds (rule_for h d o.paper o.signers)
  pub takes : Holds (rule_for h d o.paper o.signers) → (offered h o d).answer ≡ Taken
  pub becomes : (offered h o d).answer ≡ Taken → Becomes d o.paper o (offered h o d).device
  pub refused : (f : Fault) → (offered h o d).answer ≡ Refused f → Lowest (rule_for h d o.paper o.signers) f
  pub unchanged : (f : Fault) → (offered h o d).answer ≡ Refused f → (offered h o d).device ≡ d
  pub decided : ((offered h o d).answer ≡ Taken) ⊎ ((f : Fault) × ((offered h o d).answer ≡ Refused f))

-- nothing but the day is another
pub record DayBegun (d : Device) (day : ℕ) (e : Device) : Type 0 where
  pub root : e.root ≡ d.root
  pub timestamp : e.timestamp ≡ d.timestamp
  pub snapshot : e.snapshot ≡ d.snapshot
  pub targets : e.targets ≡ d.targets
  pub journal : e.journal ≡ d.journal
  pub today : e.today ≡ day

-- the day after today begins, and no other
pub record JudgedDay (h : Snapshot → Digest) (day : ℕ) (d : Device) : Type 0 where
  pub next : day ≡ d.today + 1 → ((step h (Begins day) d).answer ≡ Taken) × DayBegun d day (step h (Begins day) d).device
  pub other : ¬ (day ≡ d.today + 1) → ((step h (Begins day) d).answer ≡ Refused OutOfRange) × ((step h (Begins day) d).device ≡ d)

pub record Judged : Type 0 where
  pub offers : (h : Snapshot → Digest) (o : Offer) (d : Device) → JudgedOffer h o d
  pub days : (h : Snapshot → Digest) (day : ℕ) (d : Device) → JudgedDay h day d
  -- questions change nothing
  pub asks : (h : Snapshot → Digest) (path : Steps) (d : Device) → (step h (Asks path) d).device ≡ d
  pub installs : (h : Snapshot → Digest) (path : Steps) (size : ℕ) (digest : Digest) (d : Device) → (step h (Installs path size digest) d).device ≡ d
