-- What is taken stands in the journal, within its limits; one kept targets paper for each role. Assumes nothing.
use Rattle.std.specs.Prelude.{◌≡◌, ℕ, ◌≤◌, ◌⊎◌, List, [], ◌∷◌, length}
use mathlib.Core.List.{Memᴰ}
use Rattle.model.specs.Lists.{all, count, DifferBy}
use Rattle.model.specs.Metadata.{Digest, Quorum, Root, Snapshot, Targets, Metadata, ARoot, ATimestamp, ASnapshot, ATargets, Signed, Offer}
use Rattle.model.specs.Same.{same_quorums, same_papers}
use Rattle.model.specs.Journal.{Entry, under}
use Rattle.model.specs.Device.{Device, Taken}
use Rattle.model.specs.Taking.{offered}
use Rattle.model.specs.World.{World, Reached}
use Rattle.model.specs.Judged.{Asked, Stands}

-- the quorums that are asked for a paper
abbrev pub AskedFor : Device → Metadata → Quorum → Type 0
AskedFor d (ARoot r) q = (q ≡ d.root.root) ⊎ (q ≡ r.root)
AskedFor d (ATimestamp t) q = q ≡ d.root.timestamp
AskedFor d (ASnapshot x) q = q ≡ d.root.snapshot
AskedFor d (ATargets t) q = Asked d t.role q

-- how many entries have this paper, under this quorum or any
abbrev pub copies : Quorum → Metadata → List Entry → ℕ
copies q p j = count (λ (e : Entry). all (same_quorums q e.quorum ∷ same_papers p e.paper ∷ [])) j

abbrev pub places : Metadata → List Entry → ℕ
places p j = count (λ (e : Entry). same_papers p e.paper) j

-- no entry stands twice; a root has two places, one for each quorum
abbrev pub Unrepeated : Metadata → List Entry → Type 0
Unrepeated (ARoot r) j = places (ARoot r) j ≤ 2
Unrepeated (ATimestamp t) j = (q : Quorum) → copies q (ATimestamp t) j ≤ 1
Unrepeated (ASnapshot x) j = (q : Quorum) → copies q (ASnapshot x) j ≤ 1
Unrepeated (ATargets t) j = (q : Quorum) → copies q (ATargets t) j ≤ 1

pub record Bounded (d : Device) : Type 0 where
  pub all : length d.journal ≤ 65536
  pub each : (q : Quorum) → under q d.journal ≤ 16384
  pub dated : (e : Entry) → Memᴰ e d.journal → e.day ≤ d.today
  pub unrepeated : (p : Metadata) → Unrepeated p d.journal
  pub one_each : DifferBy (λ (k : Signed Targets). k.paper.role) d.targets

pub record Recorded : Type 0 where
  -- what is taken stands there for each quorum that was asked
  pub recorded : (h : Snapshot → Digest) (o : Offer) (d : Device) → (offered h o d).answer ≡ Taken → (q : Quorum) → AskedFor d o.paper q → Stands q o.paper (offered h o d).device.journal
  pub bounded : (w : World) (r : Root) (d : Device) → Reached w r d → Bounded d
