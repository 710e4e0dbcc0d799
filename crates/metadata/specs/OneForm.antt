-- A paper has one form in bytes, and what is read is sound. Assumes nothing.
use Rattle.std.specs.Prelude.{◌≡◌, ℕ, ◌≤◌, List, length, Ok}
use mathlib.Core.List.{Memᴰ}
use Rattle.model.specs.Lists.{DifferBy}
use Rattle.model.specs.Metadata.{Key, Quorum, Meta, File, Delegation, Metadata, ARoot, ATimestamp, ASnapshot, ATargets}
use Rattle.wire.specs.Formats.{Bytes}
use Rattle.metadata.specs.Papers.{bytes_of_paper, WellFormed, paper_in}

-- bytes are accepted exactly if they are the writing of a well-formed paper, and of one only
pub record OneForm : Type 0 where
  pub accepted : (bs : List ℕ) (p : Metadata) → Bytes bs → paper_in bs ≡ Ok p → WellFormed p × (bytes_of_paper p ≡ bs)
  pub written : (p : Metadata) → WellFormed p → paper_in (bytes_of_paper p) ≡ Ok p
  pub one : (p q : Metadata) → WellFormed p → WellFormed q → bytes_of_paper p ≡ bytes_of_paper q → p ≡ q

-- different keys, of which at least one and at most all have to sign
pub record SoundQuorum (q : Quorum) : Type 0 where
  pub different : DifferBy (λ (k : Key). k) q.keys
  pub least : 1 ≤ q.threshold
  pub most : q.threshold ≤ length q.keys

-- sound quorums; versions from 1 on; one version for a role, and one file for a path
abbrev pub Sound : Metadata → Type 0
Sound (ARoot r) = (1 ≤ r.version) × SoundQuorum r.root × SoundQuorum r.timestamp × SoundQuorum r.snapshot × SoundQuorum r.top
Sound (ATimestamp t) = (1 ≤ t.version) × (1 ≤ t.snapshot)
Sound (ASnapshot x) = (1 ≤ x.version) × DifferBy (λ (m : Meta). m.role) x.metas
Sound (ATargets t) = (1 ≤ t.version) × DifferBy (λ (f : File). f.path) t.files × ((b : Delegation) → Memᴰ b t.delegations → SoundQuorum b.quorum)

-- well-formed papers are sound
abbrev pub WellFormedSound : Type 0
WellFormedSound = (p : Metadata) → WellFormed p → Sound p
