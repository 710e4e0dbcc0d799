-- THE MAIN PROMISE. Whatever is offered, in whatever order: a file that is found has an unbroken way from the first root. Assumes nothing.
use Rattle.std.specs.Prelude.{◌≡◌, ℕ, suc, ◌≤◌, List, ◌++◌, Some}
use mathlib.Core.List.{Memᴰ}
use Rattle.model.specs.Metadata.{Key, Steps, Quorum, Root, Timestamp, Snapshot, File, Delegation, Targets, ATimestamp, ASnapshot, ATargets}
use Rattle.model.specs.Device.{Device, Gives, fresh}
use Rattle.model.specs.Taking.{version_in}
use Rattle.model.specs.Look.{Sure, look}
use Rattle.model.specs.Run.{Event, Asks, Installs, step, run}
use Rattle.model.specs.World.{World, AllLawful, Vouched, Chain, Reached}

-- the path is the prefix and some more steps
abbrev pub StartsWith : Steps → Steps → Type 0
StartsWith prefix path = (rest : Steps) × (path ≡ prefix ++ rest)

-- targets that are kept for a role, vouched for by a quorum, of the snapshot's version and in time
pub record AtHand (w : World) (d : Device) (x : Snapshot) (r : ℕ) (q : Quorum) (t : Targets) : Type 0 where
  pub signers : List Key
  pub kept : Memᴰ (record { paper = t; signers = signers }) d.targets
  pub role : t.role ≡ r
  pub vouched : Vouched w q (ATargets t)
  pub newest : version_in r x.metas ≡ Some t.version
  pub in-time : d.today ≤ t.expires

-- why a file may be installed: targets at hand have it, or delegate its path to a role that does; at most so many one below the other
pub data Backs (w : World) (d : Device) (x : Snapshot) (path : Steps) (f : File) : ℕ → ℕ → Quorum → Type 0 where
  listed : {n r : ℕ} {q : Quorum} (t : Targets) → AtHand w d x r q t → Memᴰ f t.files → f.path ≡ path → Backs w d x path f (suc n) r q
  through : {n r : ℕ} {q : Quorum} (t : Targets) → AtHand w d x r q t → (b : Delegation) → Memᴰ b t.delegations → StartsWith b.prefix path →
      Backs w d x path f n b.role b.quorum → Backs w d x path f (suc n) r q

-- timestamp and snapshot are in time, the one names the other, and both are vouched for by the present root; so is the way
pub record Backed (w : World) (d : Device) (path : Steps) (f : File) : Type 0 where
  pub timestamp : Timestamp
  pub snapshot : Snapshot
  pub is-timestamp : d.timestamp ≡ Some timestamp
  pub is-snapshot : d.snapshot ≡ Some snapshot
  pub by-timestamp : Vouched w d.root.timestamp (ATimestamp timestamp)
  pub by-snapshot : Vouched w d.root.snapshot (ASnapshot snapshot)
  pub names : (timestamp.snapshot ≡ snapshot.version) × (timestamp.digest ≡ w.digest snapshot)
  pub days : (d.today ≤ timestamp.expires) × (d.today ≤ snapshot.expires) × (d.today ≤ d.root.expires)
  pub way : Backs w d snapshot path f 8 0 d.root.top

-- of a device and the root that it was made with
pub record Whole (w : World) (r : Root) (d : Device) : Type 0 where
  pub rooted : Chain w r d.root
  pub found : (path : Steps) (f : File) → look w.digest d path ≡ Sure f → Backed w d path f
  pub asked : (path : Steps) (f : File) → (step w.digest (Asks path) d).answer ≡ Gives f → Backed w d path f
  pub installed : (path : Steps) (size : ℕ) (digest : List ℕ) (f : File) → (step w.digest (Installs path size digest) d).answer ≡ Gives f →
      Backed w d path f × (size ≡ f.size) × (digest ≡ f.digest)

pub record Main : Type 0 where
  -- after any events
  pub whole : (w : World) (r : Root) (es : List Event) → AllLawful w es → Whole w r (run w.digest es (fresh r))
  -- and for any device that can be reached, which runs do
  pub reached : (w : World) (r : Root) (d : Device) → Reached w r d → Whole w r d
  pub runs : (w : World) (r : Root) (es : List Event) → AllLawful w es → Reached w r (run w.digest es (fresh r))
