-- Nothing goes back, but where a new root says so. Assumes nothing.
use Rattle.std.specs.Prelude.{◌≡◌, ℕ, ◌<◌, ◌≤◌, ◌⊎◌, List, [], ◌∷◌, ◌++◌, Some, None, Option}
use Rattle.model.specs.Metadata.{Digest, Root, Timestamp, Snapshot}
use Rattle.model.specs.Journal.{Entry}
use Rattle.model.specs.Device.{Device}
use Rattle.model.specs.Taking.{version_in}
use Rattle.model.specs.Run.{Event, step, run}

-- a kept timestamp stays, or gives way to one of a higher version; the snapshot that is named does not go back
abbrev pub TimestampOn : Option Timestamp → Option Timestamp → Type 0
TimestampOn old new =
    (t : Timestamp) → old ≡ Some t → (u : Timestamp) × (new ≡ Some u) × ((u ≡ t) ⊎ (t.version < u.version)) × (t.snapshot ≤ u.snapshot)

-- a kept snapshot stays, or gives way to one that is not lower, and in which no role lacks or is lower
abbrev pub SnapshotOn : Option Snapshot → Option Snapshot → Type 0
SnapshotOn old new =
    (x : Snapshot) → old ≡ Some x →
    (y : Snapshot) × (new ≡ Some y) × (x.version ≤ y.version) ×
    ((r n : ℕ) → version_in r x.metas ≡ Some n → (m : ℕ) × (version_in r y.metas ≡ Some m) × (n ≤ m))

-- timestamp and snapshot have not gone back
pub record Later (d e : Device) : Type 0 where
  pub timestamp : TimestampOn d.timestamp e.timestamp
  pub snapshot : SnapshotOn d.snapshot e.snapshot

-- the quorums of timestamp and snapshot are the same
abbrev pub SameQuorums : Root → Root → Type 0
SameQuorums r s = (s.timestamp ≡ r.timestamp) × (s.snapshot ≡ r.snapshot)

-- root, day and journal never go back
pub record Grows (d e : Device) : Type 0 where
  pub root : d.root.version ≤ e.root.version
  pub today : d.today ≤ e.today
  pub journal : (more : List Entry) × (e.journal ≡ more ++ d.journal)

-- timestamp and snapshot are both forgotten where a quorum of theirs changes, and do not go back otherwise
pub record Onwards (d e : Device) : Type 0 where
  pub grows : Grows d e
  pub same : SameQuorums d.root e.root → Later d e
  pub changed : ¬ (SameQuorums d.root e.root) → (e.timestamp ≡ None) × (e.snapshot ≡ None)

-- no event of a run changes the quorum of timestamp or snapshot
abbrev pub Steady : (Snapshot → Digest) → List Event → Device → Type 0
Steady h [] d = Unit {0}
Steady h (e ∷ es) d = SameQuorums d.root (step h e d).device.root × Steady h es (step h e d).device

pub record Onward : Type 0 where
  -- for any device and event
  pub step : (h : Snapshot → Digest) (e : Event) (d : Device) → Onwards d (step h e d).device
  -- over whole runs
  pub grows : (h : Snapshot → Digest) (es : List Event) (d : Device) → Grows d (run h es d)
  pub later : (h : Snapshot → Digest) (es : List Event) (d : Device) → Steady h es d → Later d (run h es d)
