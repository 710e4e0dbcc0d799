-- What views of papers stand for. Assumes nothing.
use Rattle.std.specs.Prelude.{◌≡◌, List, Ok, Err, Result}
use Rattle.model.specs.declared.fault.Fault.{Fault}
use Rattle.model.specs.Metadata as model
use Rattle.wire.specs.Leaves.{steps_of}
use Rattle.wire.specs.Tables.{items}
use Rattle.wire.specs.Views.{quorum_of}
use Rattle.metadata.specs.Papers.{meta, file, delegation}
use Rattle.wire.specs.declared.table.Table.{Table}
use Rattle.metadata.specs.declared.root.Root.{Root}
use Rattle.metadata.specs.declared.timestamp.Timestamp.{Timestamp}
use Rattle.metadata.specs.declared.snapshot.Meta.{Meta}
use Rattle.metadata.specs.declared.snapshot.Metas.{Metas}
use Rattle.metadata.specs.declared.snapshot.Snapshot.{Snapshot}
use Rattle.metadata.specs.declared.targets.File.{File}
use Rattle.metadata.specs.declared.targets.Files.{Files}
use Rattle.metadata.specs.declared.targets.Delegation.{Delegation}
use Rattle.metadata.specs.declared.targets.Delegations.{Delegations}
use Rattle.metadata.specs.declared.contents.Targets.{Targets}
use Rattle.metadata.specs.declared.paper.Metadata.{Metadata}
use Rattle.metadata.specs.declared.paper.Metadata.TheVariants as kind

abbrev pub root_of : Root → model.Root
root_of r = record { version = r.version; expires = r.expires; root = quorum_of r.root; timestamp = quorum_of r.timestamp; snapshot = quorum_of r.snapshot; top = quorum_of r.top }

abbrev pub timestamp_of : Timestamp → model.Timestamp
timestamp_of t = record { version = t.version; expires = t.expires; snapshot = t.snapshot; digest = t.digest.now }

abbrev pub meta_of : Meta → model.Meta
meta_of m = record { role = m.role; version = m.version }

-- a table stands for the items that its bytes begin with, as many as it counts
abbrev pub metas_of : Table Metas → List model.Meta
metas_of m = items meta m.count m.bytes.now

abbrev pub snapshot_of : Snapshot → model.Snapshot
snapshot_of s = record { version = s.version; expires = s.expires; metas = metas_of s.metas }

abbrev pub file_of : File → model.File
file_of f = record { path = steps_of f.path.now; size = f.size; digest = f.digest.now }

abbrev pub files_of : Table Files → List model.File
files_of f = items file f.count f.bytes.now

abbrev pub delegation_of : Delegation → model.Delegation
delegation_of d = record { role = d.role; quorum = quorum_of d.quorum; prefix = steps_of d.prefix.now; terminating = d.terminating }

abbrev pub delegations_of : Table Delegations → List model.Delegation
delegations_of d = items delegation d.count d.bytes.now

abbrev pub targets_of : Targets → model.Targets
targets_of t = record { role = t.role; version = t.version; expires = t.expires; files = files_of t.files; delegations = delegations_of t.delegations }

abbrev pub metadata_of : Metadata → model.Metadata
metadata_of (kind.Root r) = model.ARoot (root_of r)
metadata_of (kind.Timestamp t) = model.ATimestamp (timestamp_of t)
metadata_of (kind.Snapshot s) = model.ASnapshot (snapshot_of s)
metadata_of (kind.Targets t) = model.ATargets (targets_of t)

-- the code's answer stands for this one
abbrev pub Is : {V A : Type 0} → (V → A) → Result V Fault → Result A Fault → Type 0
Is model (Ok v) s = s ≡ Ok (model v)
Is model (Err e) s = s ≡ Err e
