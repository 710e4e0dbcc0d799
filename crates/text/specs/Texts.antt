-- The text of papers, in the users' words. Assumes nothing.
use Rattle.std.specs.Prelude.{ℕ, Bool, cond, List, ◌++◌, length, codes}
use Rattle.std.specs.List.{flat_map}
use Rattle.model.specs.Metadata.{Key, Quorum, Root, Timestamp, Meta, Snapshot, File, Delegation, Targets, Metadata, ARoot, ATimestamp, ASnapshot, ATargets}
use Rattle.line.specs.Lines.{bare, numbered, hexed, stepped}

abbrev pub key_text : Key → List ℕ
key_text k = hexed (codes "key") k

-- a keys entry behind the words that say whose it is
abbrev pub quorum_text : List ℕ → Quorum → List ℕ
quorum_text word q = numbered word (length q.keys) ++ (numbered (codes "asked") q.threshold ++ flat_map key_text q.keys)

-- the lines that all papers have behind their first
abbrev pub head_text : ℕ → ℕ → List ℕ
head_text version expires = numbered (codes "number") version ++ numbered (codes "last day") expires

abbrev pub root_text : Root → List ℕ
root_text r =
    bare (codes "root") ++ (numbered (codes "number") r.version ++ (numbered (codes "last day") r.expires ++
    (quorum_text (codes "root keys") r.root ++ (quorum_text (codes "clock keys") r.timestamp ++
    (quorum_text (codes "index keys") r.snapshot ++ quorum_text (codes "top keys") r.top)))))

abbrev pub timestamp_text : Timestamp → List ℕ
timestamp_text t =
    bare (codes "clock") ++ (numbered (codes "number") t.version ++ (numbered (codes "last day") t.expires ++
    (numbered (codes "index") t.snapshot ++ hexed (codes "digest") t.digest)))

abbrev pub meta_text : Meta → List ℕ
meta_text m = numbered (codes "role") m.role ++ numbered (codes "number") m.version

abbrev pub snapshot_text : Snapshot → List ℕ
snapshot_text x =
    bare (codes "index") ++ (numbered (codes "number") x.version ++ (numbered (codes "last day") x.expires ++
    (numbered (codes "roles") (length x.metas) ++ flat_map meta_text x.metas)))

abbrev pub file_text : File → List ℕ
file_text f = stepped (codes "file") f.path ++ (numbered (codes "size") f.size ++ hexed (codes "digest") f.digest)

abbrev pub last_text : Bool → List ℕ
last_text b = cond b (bare (codes "last yes")) (bare (codes "last no"))

abbrev pub delegation_text : Delegation → List ℕ
delegation_text d =
    numbered (codes "branch") d.role ++ (quorum_text (codes "keys") d.quorum ++ (stepped (codes "start") d.prefix ++ last_text d.terminating))

abbrev pub targets_text : Targets → List ℕ
targets_text t =
    bare (codes "list") ++ (numbered (codes "role") t.role ++ (numbered (codes "number") t.version ++ (numbered (codes "last day") t.expires ++
    (numbered (codes "files") (length t.files) ++ (flat_map file_text t.files ++
    (numbered (codes "branches") (length t.delegations) ++ flat_map delegation_text t.delegations))))))

abbrev pub paper_text : Metadata → List ℕ
paper_text (ARoot r) = root_text r
paper_text (ATimestamp t) = timestamp_text t
paper_text (ASnapshot x) = snapshot_text x
paper_text (ATargets t) = targets_text t
