-- Who signed what, the events that can happen, and the devices that they lead to. Assumes nothing.
use Rattle.std.specs.Prelude.{◌≡◌, ◌+◌, ◌≤◌, Bool, T, List, [], ◌∷◌, length}
use mathlib.Core.List.{Memᴰ}
use Rattle.model.specs.Lists.{DifferBy}
use Rattle.model.specs.Metadata.{Key, Digest, Quorum, Root, Snapshot, Metadata, ARoot}
use Rattle.model.specs.Device.{Device, fresh}
use Rattle.model.specs.Run.{Event, Offers, Begins, Asks, Installs, step}

-- signed: this key has signed this paper, whoever holds it; digest: of a snapshot's bytes
pub record World : Type 0 where
  pub signed : Key → Metadata → Bool
  pub digest : Snapshot → Digest

-- each of these keys signed the paper
abbrev pub AllSigned : World → Metadata → List Key → Type 0
AllSigned w p ks = (k : Key) → Memᴰ k ks → T (w.signed k p)

-- the law of signatures: the signers that an offer comes with did sign
abbrev pub Lawful : World → Event → Type 0
Lawful w (Offers o) = AllSigned w o.paper o.signers
Lawful w (Begins day) = Unit {0}
Lawful w (Asks path) = Unit {0}
Lawful w (Installs path size digest) = Unit {0}

abbrev pub AllLawful : World → List Event → Type 0
AllLawful w [] = Unit {0}
AllLawful w (e ∷ es) = Lawful w e × AllLawful w es

-- the devices that come from a first root by lawful events
pub data Reached (w : World) (r : Root) : Device → Type 0 where
  made : {d : Device} → d ≡ fresh r → Reached w r d
  after : {d e : Device} → Reached w r d → (x : Event) → Lawful w x → e ≡ (step w.digest x d).device → Reached w r e

abbrev pub Different : List Key → Type 0
Different ks = DifferBy (λ (k : Key). k) ks

-- these are different keys of the quorum, as many as it asks for, and each signed the paper
pub record Vouches (w : World) (q : Quorum) (p : Metadata) (by : List Key) : Type 0 where
  pub many : q.threshold ≤ length by
  pub differ : Different by
  pub ours : (k : Key) → Memᴰ k by → Memᴰ k q.keys
  pub signed : AllSigned w p by

abbrev pub Vouched : World → Quorum → Metadata → Type 0
Vouched w q p = (by : List Key) × Vouches w q p by

-- a way from the first root to the present one: each is one version on, vouched for by the one before and by itself
pub data Chain (w : World) (oldest : Root) : Root → Type 0 where
  here : Chain w oldest oldest
  next : {r : Root} (s : Root) → Chain w oldest r → s.version ≡ r.version + 1 → Vouched w r.root (ARoot s) → Vouched w s.root (ARoot s) → Chain w oldest s
