-- When two papers, or parts of them, are the same: when all their fields are. Assumes nothing.
use Rattle.std.specs.Prelude.{ℕ, Bool, true, false, ◌&&◌, List, [], ◌∷◌, ◌==◌, nat_eq}
use Rattle.std.specs.Bool.{beq}
use Rattle.model.specs.Lists.{all}
use Rattle.model.specs.Metadata.{Quorum, Root, Timestamp, Meta, Snapshot, File, Delegation, Targets, Metadata, ARoot, ATimestamp, ASnapshot, ATargets}

abbrev pub same_by : {A : Type 0} → (A → A → Bool) → List A → List A → Bool
same_by same [] [] = true
same_by same [] (y ∷ ys) = false
same_by same (x ∷ xs) [] = false
same_by same (x ∷ xs) (y ∷ ys) = same x y && same_by same xs ys

-- keys, digests and paths: the same numbers in the same order
abbrev pub same_list : List ℕ → List ℕ → Bool
same_list a b = same_by nat_eq a b

abbrev pub same_quorums : Quorum → Quorum → Bool
same_quorums a b = all ((a.threshold == b.threshold) ∷ same_by same_list a.keys b.keys ∷ [])

abbrev pub same_root : Root → Root → Bool
same_root a b = all (
    (a.version == b.version) ∷ (a.expires == b.expires) ∷ same_quorums a.root b.root ∷
    same_quorums a.timestamp b.timestamp ∷ same_quorums a.snapshot b.snapshot ∷ same_quorums a.top b.top ∷ [])

abbrev pub same_timestamp : Timestamp → Timestamp → Bool
same_timestamp a b = all (
    (a.version == b.version) ∷ (a.expires == b.expires) ∷ (a.snapshot == b.snapshot) ∷ same_list a.digest b.digest ∷ [])

abbrev pub same_meta : Meta → Meta → Bool
same_meta a b = all ((a.role == b.role) ∷ (a.version == b.version) ∷ [])

abbrev pub same_snapshot : Snapshot → Snapshot → Bool
same_snapshot a b = all ((a.version == b.version) ∷ (a.expires == b.expires) ∷ same_by same_meta a.metas b.metas ∷ [])

abbrev pub same_file : File → File → Bool
same_file a b = all (same_list a.path b.path ∷ (a.size == b.size) ∷ same_list a.digest b.digest ∷ [])

abbrev pub same_delegation : Delegation → Delegation → Bool
same_delegation a b = all (
    (a.role == b.role) ∷ same_quorums a.quorum b.quorum ∷ same_list a.prefix b.prefix ∷ beq a.terminating b.terminating ∷ [])

abbrev pub same_targets : Targets → Targets → Bool
same_targets a b = all (
    (a.role == b.role) ∷ (a.version == b.version) ∷ (a.expires == b.expires) ∷
    same_by same_file a.files b.files ∷ same_by same_delegation a.delegations b.delegations ∷ [])

abbrev pub same_papers : Metadata → Metadata → Bool
same_papers (ARoot a) q = elim q [ ARoot b ↦ same_root a b | ATimestamp b ↦ false | ASnapshot b ↦ false | ATargets b ↦ false ]
same_papers (ATimestamp a) q = elim q [ ARoot b ↦ false | ATimestamp b ↦ same_timestamp a b | ASnapshot b ↦ false | ATargets b ↦ false ]
same_papers (ASnapshot a) q = elim q [ ARoot b ↦ false | ATimestamp b ↦ false | ASnapshot b ↦ same_snapshot a b | ATargets b ↦ false ]
same_papers (ATargets a) q = elim q [ ARoot b ↦ false | ATimestamp b ↦ false | ASnapshot b ↦ false | ATargets b ↦ same_targets a b ]
