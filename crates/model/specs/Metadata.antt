-- The papers that roles sign. Assumes nothing.
use Rattle.std.specs.Prelude.{ℕ, Bool, List}

-- a key, by its bytes
abbrev pub Key : Type 0
Key = List ℕ

-- a digest, by its bytes
abbrev pub Digest : Type 0
Digest = List ℕ

-- a file's path, or the beginning of one, by its steps
abbrev pub Steps : Type 0
Steps = List ℕ

-- keys, and how many different ones of them have to sign
pub record Quorum : Type 0 where
  pub keys : List Key
  pub threshold : ℕ

-- the quorums of the four top roles
pub record Root : Type 0 where
  pub version : ℕ
  pub expires : ℕ
  pub root : Quorum
  pub timestamp : Quorum
  pub snapshot : Quorum
  pub top : Quorum

-- which snapshot is the newest
pub record Timestamp : Type 0 where
  pub version : ℕ
  pub expires : ℕ
  pub snapshot : ℕ
  pub digest : Digest

-- which version of a role's targets is the newest; role 0 is the top
pub record Meta : Type 0 where
  pub role : ℕ
  pub version : ℕ

-- the newest versions of all roles' targets
pub record Snapshot : Type 0 where
  pub version : ℕ
  pub expires : ℕ
  pub metas : List Meta

-- a file that may be installed
pub record File : Type 0 where
  pub path : Steps
  pub size : ℕ
  pub digest : Digest

-- a role that may speak for paths that begin so; terminating: where it fits, later ones are not asked
pub record Delegation : Type 0 where
  pub role : ℕ
  pub quorum : Quorum
  pub prefix : Steps
  pub terminating : Bool

-- what a role says: files, and roles that may say more
pub record Targets : Type 0 where
  pub role : ℕ
  pub version : ℕ
  pub expires : ℕ
  pub files : List File
  pub delegations : List Delegation

-- a paper of one of the four kinds
pub data Metadata : Type 0 where
  ARoot : Root → Metadata
  ATimestamp : Timestamp → Metadata
  ASnapshot : Snapshot → Metadata
  ATargets : Targets → Metadata

-- a paper with the keys that have a right signature there
pub record Signed (A : Type 0) : Type 0 where
  pub paper : A
  pub signers : List Key

-- what is offered to a device
abbrev pub Offer : Type 0
Offer = Signed Metadata
