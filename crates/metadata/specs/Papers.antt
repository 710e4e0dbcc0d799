-- The bytes of papers. Assumes nothing.
use Rattle.std.specs.Prelude.{ℕ, cond, List, ◌++◌, length, Ok, Err, Result, ◌==◌, nat_le, nat_lt}
use Rattle.model.specs.declared.fault.Fault.{Fault}
use Rattle.model.specs.declared.fault.Fault.TheVariants.{Malformed, OutOfRange}
use Rattle.model.specs.Metadata.{Root, Timestamp, Meta, Snapshot, File, Delegation, Targets, Metadata, ARoot, ATimestamp, ASnapshot, ATargets}
use Rattle.wire.specs.Formats.{Format, and_then, pair, only, mapped}
use Rattle.wire.specs.Numbers.{block, bytes_of, number, version}
use Rattle.wire.specs.Tables.{rising, table}
use Rattle.wire.specs.Leaves.{below, quorum, path, prefix, flag}

-- version, last day, and the quorums of root, timestamp, snapshot and top
abbrev pub root : Format Root
root =
    mapped (pair version (λ _. pair (number 4) (λ _. pair quorum (λ _. pair quorum (λ _. pair quorum (λ _. quorum))))))
    (λ x. record { version = x.0; expires = x.1.0; root = x.1.1.0; timestamp = x.1.1.1.0; snapshot = x.1.1.1.1.0; top = x.1.1.1.1.1 })
    (λ r. (r.version, (r.expires, (r.root, (r.timestamp, (r.snapshot, r.top))))))

-- version, last day, and the version and digest of the newest snapshot
abbrev pub timestamp : Format Timestamp
timestamp =
    mapped (pair version (λ _. pair (number 4) (λ _. pair version (λ _. block 32))))
    (λ x. record { version = x.0; expires = x.1.0; snapshot = x.1.1.0; digest = x.1.1.1 })
    (λ t. (t.version, (t.expires, (t.snapshot, t.digest))))

-- a role and the version of its newest targets
abbrev pub meta : Format Meta
meta = mapped (pair (number 2) (λ _. version)) (λ x. record { role = x.0; version = x.1 }) (λ m. (m.role, m.version))

abbrev pub metas : ℕ → Format (List Meta)
metas n = rising meta (λ m. m.role) nat_lt n

-- version, last day, and up to 64 roles in rising order
abbrev pub snapshot : Format Snapshot
snapshot =
    mapped (pair version (λ _. pair (number 4) (λ _. pair (only (number 2) (λ n. nat_le n 64) OutOfRange) metas)))
    (λ x. record { version = x.0; expires = x.1.0; metas = x.1.1.1 })
    (λ s. (s.version, (s.expires, (length s.metas, s.metas))))

-- path, size up to 2^40, digest
abbrev pub file : Format File
file =
    mapped (pair path (λ _. pair (only (number 8) (λ n. nat_le n 1099511627776) OutOfRange) (λ _. block 32)))
    (λ x. record { path = x.0; size = x.1.0; digest = x.1.1 })
    (λ f. (f.path, (f.size, f.digest)))

abbrev pub files : ℕ → Format (List File)
files n = rising file (λ f. f.path) below n

-- role, quorum, prefix, and whether it is terminating
abbrev pub delegation : Format Delegation
delegation =
    mapped (pair (number 2) (λ _. pair quorum (λ _. pair prefix (λ _. flag))))
    (λ x. record { role = x.0; quorum = x.1.0; prefix = x.1.1.0; terminating = x.1.1.1 })
    (λ d. (d.role, (d.quorum, (d.prefix, d.terminating))))

abbrev pub delegations : ℕ → Format (List Delegation)
delegations n = table delegation n

-- role, version, last day, up to 256 files in rising order of path, and up to 32 delegations
abbrev pub targets : Format Targets
targets =
    mapped
    (pair (number 2) (λ _. pair version (λ _. pair (number 4) (λ _. pair (only (number 2) (λ n. nat_le n 256) OutOfRange) (λ n. pair (files n) (λ _. pair (only (number 1) (λ m. nat_le m 32) OutOfRange) delegations))))))
    (λ x. record { role = x.0; version = x.1.0; expires = x.1.1.0; files = x.1.1.1.1.0; delegations = x.1.1.1.1.1.1 })
    (λ t. (t.role, (t.version, (t.expires, (length t.files, (t.files, (length t.delegations, t.delegations)))))))

-- a paper of one kind
abbrev pub wrapped : {A : Type 0} → (A → Metadata) → Result (A × List ℕ) Fault → Result (Metadata × List ℕ) Fault
wrapped case r = and_then r (λ p. Ok (case p.0, p.1))

-- the kind byte says which: 1 root, 2 timestamp, 3 snapshot, 4 targets
abbrev pub of_kind : ℕ → List ℕ → Result (Metadata × List ℕ) Fault
of_kind k bs =
    cond (k == 1) (wrapped ARoot (root.read bs))
    (cond (k == 2) (wrapped ATimestamp (timestamp.read bs))
    (cond (k == 3) (wrapped ASnapshot (snapshot.read bs))
    (cond (k == 4) (wrapped ATargets (targets.read bs)) (Err Malformed))))

abbrev pub bytes_of_paper : Metadata → List ℕ
bytes_of_paper (ARoot r) = bytes_of 1 1 ++ root.write r
bytes_of_paper (ATimestamp t) = bytes_of 1 2 ++ timestamp.write t
bytes_of_paper (ASnapshot x) = bytes_of 1 3 ++ snapshot.write x
bytes_of_paper (ATargets t) = bytes_of 1 4 ++ targets.write t

-- which papers have bytes
abbrev pub WellFormed : Metadata → Type 0
WellFormed (ARoot r) = root.Wf r
WellFormed (ATimestamp t) = timestamp.Wf t
WellFormed (ASnapshot x) = snapshot.Wf x
WellFormed (ATargets t) = targets.Wf t

-- a paper of any kind
abbrev pub paper : Format Metadata
paper = record {
  read = λ bs. and_then ((number 1).read bs) (λ k. of_kind k.0 k.1);
  write = bytes_of_paper;
  Wf = WellFormed;
}

-- bytes left over behind a value are a fault
abbrev pub whole : {A : Type 0} → Result (A × List ℕ) Fault → Result A Fault
whole r = and_then r (λ p. cond (length p.1 == 0) (Ok p.0) (Err Malformed))

-- the paper whose bytes these are, all of them
unfoldable pub paper_in : List ℕ → Result Metadata Fault
paper_in bs = whole (paper.read bs)
