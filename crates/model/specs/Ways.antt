-- The look-up's rules as a relation, which allows exactly one answer. Assumes nothing.
use Rattle.std.specs.Prelude.{◌≡◌, ℕ, zero, suc, ◌≤◌, true, false, List, [], ◌∷◌, Some}
use mathlib.Core.List.{Memᴰ}
use Rattle.model.specs.Lists.{First}
use Rattle.model.specs.Metadata.{Digest, Steps, Quorum, Root, Timestamp, Snapshot, File, Delegation, Targets, Signed}
use Rattle.model.specs.Device.{Device}
use Rattle.model.specs.Look.{Found, Sure, Missing, Ended, Stale, Gap, look}
use Rattle.model.specs.World.{World, Reached}
use Rattle.model.specs.Whole.{StartsWith}
use Rattle.model.specs.Meanings.{Meets}
use Rattle.model.specs.Judged.{Current}

-- what delegations, in order, come to, given what a look-up of each role comes to
pub data Goes (R : ℕ → Quorum → Found → Type 0) (path : Steps) : List Delegation → Found → Type 0 where
  none : Goes R path [] Missing
  skip : {b : Delegation} {bs : List Delegation} {a : Found} → ¬ (StartsWith b.prefix path) → Goes R path bs a → Goes R path (b ∷ bs) a
  take : {b : Delegation} {bs : List Delegation} {a : Found} → StartsWith b.prefix path → R b.role b.quorum a → ¬ (a ≡ Missing) → Goes R path (b ∷ bs) a
  stop : {b : Delegation} {bs : List Delegation} → StartsWith b.prefix path → R b.role b.quorum Missing → b.terminating ≡ true → Goes R path (b ∷ bs) Ended
  pass : {b : Delegation} {bs : List Delegation} {a : Found} → StartsWith b.prefix path → R b.role b.quorum Missing → b.terminating ≡ false → Goes R path bs a → Goes R path (b ∷ bs) a

-- kept targets are at hand for a role and a quorum
pub record Hand (d : Device) (r : ℕ) (q : Quorum) (k : Signed Targets) : Type 0 where
  pub kept : Memᴰ k d.targets
  pub role : k.paper.role ≡ r
  pub enough : Meets q k.signers
  pub newest : Current d.snapshot k.paper
  pub in-time : d.today ≤ k.paper.expires

-- what a role under a quorum comes to: broken, a file, or what its delegations come to
pub data Comes (R : ℕ → Quorum → Found → Type 0) (d : Device) (path : Steps) (r : ℕ) (q : Quorum) : Found → Type 0 where
  broken : ((k : Signed Targets) → ¬ (Hand d r q k)) → Comes R d path r q (Gap r)
  has : (k : Signed Targets) → Hand d r q k → (f : File) → First (λ (g : File). g.path ≡ path) k.paper.files f → Comes R d path r q (Sure f)
  asks : {a : Found} (k : Signed Targets) → Hand d r q k → ((f : File) → Memᴰ f k.paper.files → ¬ (f.path ≡ path)) →
      Goes R path k.paper.delegations a → Comes R d path r q a

-- at most so many targets one below the other; beyond, broken
abbrev pub Finds : ℕ → Device → Steps → ℕ → Quorum → Found → Type 0
Finds zero d path r q a = a ≡ Gap r
Finds (suc n) d path r q a = Comes (λ s j b. Finds n d path s j b) d path r q a

-- timestamp and snapshot are kept, the one names the other, and neither they nor the root have run out
pub record Standing (h : Snapshot → Digest) (d : Device) : Type 0 where
  pub timestamp : Timestamp
  pub snapshot : Snapshot
  pub is-timestamp : d.timestamp ≡ Some timestamp
  pub is-snapshot : d.snapshot ≡ Some snapshot
  pub names : (timestamp.snapshot ≡ snapshot.version) × (timestamp.digest ≡ h snapshot)
  pub root-in-time : d.today ≤ d.root.expires
  pub timestamp-in-time : d.today ≤ timestamp.expires
  pub snapshot-in-time : d.today ≤ snapshot.expires

-- the answers that the rules allow
pub data Allows (h : Snapshot → Digest) (d : Device) (path : Steps) (a : Found) : Type 0 where
  stale : ¬ (Standing h d) → a ≡ Stale → Allows h d path a
  stands : Standing h d → Finds 8 d path 0 d.root.top a → Allows h d path a

pub record FoundExactly : Type 0 where
  pub allowed : (h : Snapshot → Digest) (d : Device) (path : Steps) → Allows h d path (look h d path)
  pub unique : (w : World) (r : Root) (d : Device) → Reached w r d → (path : Steps) (a b : Found) → Allows w.digest d path a → Allows w.digest d path b → a ≡ b
