-- What a device keeps, by its bytes, and the device of the law that this stands for. Assumes nothing.
use Rattle.std.specs.Prelude.{ℕ, List, [], map, reverse, take, Ok, Err, Option, Result}
use Rattle.std.specs.Option.{option_map}
use Rattle.model.specs.declared.fault.Fault.{Fault}
use Rattle.model.specs.Metadata.{Key, Digest, Quorum, Root, Timestamp, Snapshot, Targets, Metadata, ARoot, ATimestamp, ASnapshot, ATargets, Signed}
use Rattle.model.specs.Journal.{Entry}
use Rattle.model.specs.Device.{Device}
use Rattle.digest.specs.Sha256.{sha256}
use Rattle.metadata.specs.Papers.{paper_in, bytes_of_paper}
use Rattle.signature.specs.Signatures.{Accepts, signers_in}
use Rattle.signature.specs.Views.{signature_of}
use Rattle.journal.specs.Notes.{Note}

-- a paper's bytes, and all signatures that it came with
pub record Held : Type 0 where
  pub paper : List ℕ
  pub signatures : List (List ℕ)

-- targets: the latest taken first; notes: the oldest first
pub record Holding : Type 0 where
  pub root : Held
  pub timestamp : Option Held
  pub snapshot : Option Held
  pub targets : List Held
  pub notes : List Note
  pub today : ℕ

-- papers of no well-formed bytes, where none was read
abbrev pub no_quorum : Quorum
no_quorum = record { keys = []; threshold = 0 }

abbrev pub no_root : Root
no_root = record { version = 0; expires = 0; root = no_quorum; timestamp = no_quorum; snapshot = no_quorum; top = no_quorum }

abbrev pub no_timestamp : Timestamp
no_timestamp = record { version = 0; expires = 0; snapshot = 0; digest = [] }

abbrev pub no_snapshot : Snapshot
no_snapshot = record { version = 0; expires = 0; metas = [] }

abbrev pub no_targets : Targets
no_targets = record { role = 0; version = 0; expires = 0; files = []; delegations = [] }

abbrev pub paper_or : Metadata → Result Metadata Fault → Metadata
paper_or none (Ok p) = p
paper_or none (Err f) = none

abbrev pub as_root : Metadata → Root
as_root (ARoot r) = r
as_root (ATimestamp t) = no_root
as_root (ASnapshot x) = no_root
as_root (ATargets t) = no_root

abbrev pub as_timestamp : Metadata → Timestamp
as_timestamp (ARoot r) = no_timestamp
as_timestamp (ATimestamp t) = t
as_timestamp (ASnapshot x) = no_timestamp
as_timestamp (ATargets t) = no_timestamp

abbrev pub as_snapshot : Metadata → Snapshot
as_snapshot (ARoot r) = no_snapshot
as_snapshot (ATimestamp t) = no_snapshot
as_snapshot (ASnapshot x) = x
as_snapshot (ATargets t) = no_snapshot

abbrev pub as_targets : Metadata → Targets
as_targets (ARoot r) = no_targets
as_targets (ATimestamp t) = no_targets
as_targets (ASnapshot x) = no_targets
as_targets (ATargets t) = t

-- the paper that bytes stand for
abbrev pub paper_of : List ℕ → Metadata
paper_of bs = paper_or (ARoot no_root) (paper_in bs)

-- the keys of the right signatures that a paper came with
abbrev pub signers_of : Accepts → Held → List Key
signers_of accepts h = signers_in accepts h.paper (map signature_of h.signatures)

abbrev pub signed_of : Accepts → Held → Signed Targets
signed_of accepts h = record { paper = as_targets (paper_of h.paper); signers = signers_of accepts h }

-- the key of a signature is its first 32 bytes
abbrev pub entry_of : Note → Entry
entry_of n = record { quorum = n.quorum; paper = paper_of n.paper; counted = map (take 32) n.signatures; day = n.day }

abbrev pub journal_of : List Note → List Entry
journal_of ns = reverse (map entry_of ns)

-- the device of the law
abbrev pub device_of : Accepts → Holding → Device
device_of accepts s = record {
  root = as_root (paper_of s.root.paper);
  timestamp = option_map (λ (h : Held). as_timestamp (paper_of h.paper)) s.timestamp;
  snapshot = option_map (λ (h : Held). as_snapshot (paper_of h.paper)) s.snapshot;
  targets = map (signed_of accepts) s.targets;
  journal = journal_of s.notes;
  today = s.today;
}

-- the digest of a snapshot is SHA-256 of its bytes
abbrev pub snapshot_digest : Snapshot → Digest
snapshot_digest x = sha256 (bytes_of_paper (ASnapshot x))
