-- Worked cases, each a row: two devices made with one first root, their events, what they answer, and the keys that signed the newest paper of each. Assumes nothing.
use Rattle.std.specs.Prelude.{◌≡◌, ℕ, ◌+◌, Bool, true, false, List, [], ◌∷◌, ◌++◌, map}
use Rattle.model.specs.declared.fault.Fault.{Fault}
use Rattle.model.specs.declared.fault.Fault.TheVariants.{Malformed, OutOfRange, OutOfOrder, NotEnough, NotNext, NotNewer, NotNamed, Regresses, NotListed, NotDelegated, Expired, Full, NotFound, Terminated, Broken, Differs}
use Rattle.model.specs.Numbers.{number_of}
use Rattle.model.specs.Metadata.{Key, Digest, Quorum, Root, Meta, Snapshot, File, Delegation, Metadata, ARoot, ATimestamp, ASnapshot, ATargets}
use Rattle.model.specs.Journal.{Entry}
use Rattle.model.specs.Device.{Answer, Taken, Gives, Refused, fresh}
use Rattle.model.specs.Run.{Event, Offers, Begins, Asks, Installs, run, answers}
use Rattle.model.specs.Blames.{both}

-- what a user reads: taken, a file's size and digest, or a fault's number with what belongs to it
pub data Line : Type 0 where
  taken : Line
  file : ℕ → Digest → Line
  fault : ℕ → List ℕ → Line

-- what stands behind a fault's number: the role of a broken look-up
abbrev pub detail : Fault → List ℕ
detail Malformed = []
detail OutOfRange = []
detail OutOfOrder = []
detail NotEnough = []
detail NotNext = []
detail NotNewer = []
detail NotNamed = []
detail Regresses = []
detail NotListed = []
detail NotDelegated = []
detail Expired = []
detail Full = []
detail NotFound = []
detail Terminated = []
detail (Broken role) = role ∷ []
detail Differs = []

abbrev pub line_of : Answer → Line
line_of Taken = taken
line_of (Gives f) = file f.size f.digest
line_of (Refused f) = fault (number_of f) (detail f)

pub record Row : Type 0 where
  pub root : Root
  pub one : List Event
  pub one-reads : List Line
  pub other : List Event
  pub other-reads : List Line
  pub signed-both : List Key

-- the digest of a snapshot, in these cases
abbrev pub digests : Snapshot → Digest
digests x = x.version ∷ []

-- the keys counted for the newest entries of both journals
abbrev pub newest_both : List Entry → List Entry → List Key
newest_both [] fs = []
newest_both (e ∷ es) [] = []
newest_both (e ∷ es) (f ∷ fs) = both e f

pub record Right (r : Row) : Type 0 where
  pub one : map line_of (answers digests r.one (fresh r.root)) ≡ r.one-reads
  pub other : map line_of (answers digests r.other (fresh r.root)) ≡ r.other-reads
  pub signed-both : newest_both (run digests r.one (fresh r.root)).journal (run digests r.other (fresh r.root)).journal ≡ r.signed-both

abbrev pub AllRight : List Row → Type 0
AllRight [] = Unit {0}
AllRight (r ∷ rs) = Right r × AllRight rs

-- WORDS FOR THE ROWS

abbrev keyed : List ℕ → List Key
keyed ns = map (λ (n : ℕ). n ∷ []) ns

abbrev quorum : List ℕ → ℕ → Quorum
quorum ks n = record { keys = keyed ks; threshold = n }

-- the root's own quorum and the timestamp's; the snapshot's key is 20, the top's 30
abbrev root : ℕ → Quorum → Quorum → Root
root n own clock = record { version = n; expires = 100; root = own; timestamp = clock; snapshot = quorum (20 ∷ []) 1; top = quorum (30 ∷ []) 1 }

abbrev offer : Metadata → List ℕ → Event
offer p ks = Offers (record { paper = p; signers = keyed ks })

abbrev timestamp : ℕ → ℕ → List ℕ → Event
timestamp n s ks = offer (ATimestamp (record { version = n; expires = 100; snapshot = s; digest = s ∷ [] })) ks

abbrev snapshot : ℕ → ℕ → List Meta → Event
snapshot n until ms = offer (ASnapshot (record { version = n; expires = until; metas = ms })) (20 ∷ [])

abbrev meta : ℕ → ℕ → Meta
meta r n = record { role = r; version = n }

abbrev targets_of : ℕ → ℕ → List File → List Delegation → List ℕ → Event
targets_of r n fs ds ks = offer (ATargets (record { role = r; version = n; expires = 100; files = fs; delegations = ds })) ks

-- targets of version 1
abbrev targets : ℕ → List File → List Delegation → List ℕ → Event
targets r fs ds ks = targets_of r 1 fs ds ks

abbrev program : File
program = record { path = 1 ∷ 5 ∷ []; size = 9; digest = 77 ∷ [] }

abbrev ask : Event
ask = Asks (1 ∷ 5 ∷ [])

-- a delegation of paths 1 to a role under one key
abbrev to : ℕ → ℕ → Bool → Delegation
to r k last = record { role = r; quorum = quorum (k ∷ []) 1; prefix = 1 ∷ []; terminating = last }

abbrev root-keys : Quorum
root-keys = quorum (1 ∷ 2 ∷ 3 ∷ []) 2

abbrev two-of-three : Root
two-of-three = root 1 root-keys (quorum (10 ∷ 11 ∷ 12 ∷ []) 2)

abbrev two : List ℕ
two = 10 ∷ 11 ∷ []

abbrev roles : List Meta
roles = meta 0 1 ∷ meta 3 1 ∷ meta 4 1 ∷ []

-- timestamp 1 and snapshot 5, with roles 0, 3 and 4
abbrev start : List Event → List Event
start es = timestamp 1 5 two ∷ snapshot 5 100 roles ∷ es

abbrev days : List ℕ → List Event
days ns = map (λ (n : ℕ). Begins n) ns

-- THE ROWS

-- A. Three keys, two asked for: one key twice is 4, two keys are taken.
abbrev case_a : Row
case_a = record {
  root = two-of-three;
  one = timestamp 1 5 (10 ∷ 10 ∷ []) ∷ timestamp 1 5 two ∷ [];
  one-reads = fault 4 [] ∷ taken ∷ [];
  other = [];
  other-reads = [];
  signed-both = [];
}

-- B. Root 2 signed by enough of root 1 but not of itself: 5. Root 3 on a device with root 1, signed by enough of root 1: 5.
abbrev case_b : Row
case_b = record {
  root = two-of-three;
  one = offer (ARoot (root 2 (quorum (7 ∷ 8 ∷ []) 1) (quorum two 2))) (1 ∷ 2 ∷ []) ∷ [];
  one-reads = fault 5 [] ∷ [];
  other = offer (ARoot (root 3 root-keys (quorum two 2))) (1 ∷ 2 ∷ []) ∷ [];
  other-reads = fault 5 [] ∷ [];
  signed-both = [];
}

-- C. A timestamp of version 4,000,000,000, signed by stolen keys: taken. A new root with other timestamp keys: timestamp and snapshot are forgotten, timestamp 8 is taken.
--    On the other device the new root has the same timestamp keys: nothing is forgotten, and timestamp 8 is 6.
abbrev case_c : Row
case_c = record {
  root = two-of-three;
  one = start (timestamp 4000000000 5 two ∷ timestamp 8 5 two ∷ offer (ARoot (root 2 root-keys (quorum (13 ∷ []) 1))) (1 ∷ 2 ∷ []) ∷ ask ∷ timestamp 8 4 (13 ∷ []) ∷ snapshot 4 100 [] ∷ []);
  one-reads = taken ∷ taken ∷ taken ∷ fault 6 [] ∷ taken ∷ fault 11 [] ∷ taken ∷ taken ∷ [];
  other = start (timestamp 4000000000 5 two ∷ offer (ARoot (root 2 root-keys (quorum (10 ∷ 11 ∷ 12 ∷ []) 2))) (1 ∷ 2 ∷ []) ∷ timestamp 8 5 two ∷ []);
  other-reads = taken ∷ taken ∷ taken ∷ taken ∷ fault 6 [] ∷ [];
  signed-both = [];
}

-- D. Snapshot 5 lists role 2 with 7; snapshot 6 lists it with 6, or not at all: 8.
abbrev case_d : Row
case_d = record {
  root = two-of-three;
  one = timestamp 1 5 two ∷ snapshot 5 100 (meta 2 7 ∷ []) ∷ timestamp 2 6 two ∷ snapshot 6 100 (meta 2 6 ∷ []) ∷ [];
  one-reads = taken ∷ taken ∷ taken ∷ fault 8 [] ∷ [];
  other = timestamp 1 5 two ∷ snapshot 5 100 (meta 2 7 ∷ []) ∷ timestamp 2 6 two ∷ snapshot 6 100 [] ∷ [];
  other-reads = taken ∷ taken ∷ taken ∷ fault 8 [] ∷ [];
  signed-both = keyed (10 ∷ 11 ∷ []);
}

-- E. Two delegations for paths 1: the first, role 3, is not terminating and finds nothing; the second, role 4, has the file. With the first terminating: 14.
abbrev case_e : Row
case_e = record {
  root = two-of-three;
  one = start (targets 0 [] (to 3 40 false ∷ to 4 41 false ∷ []) (30 ∷ []) ∷ targets 3 [] [] (40 ∷ []) ∷ targets 4 (program ∷ []) [] (41 ∷ []) ∷ ask ∷ []);
  one-reads = taken ∷ taken ∷ taken ∷ taken ∷ taken ∷ file 9 (77 ∷ []) ∷ [];
  other = start (targets 0 [] (to 3 40 true ∷ to 4 41 false ∷ []) (30 ∷ []) ∷ targets 3 [] [] (40 ∷ []) ∷ targets 4 (program ∷ []) [] (41 ∷ []) ∷ ask ∷ []);
  other-reads = taken ∷ taken ∷ taken ∷ taken ∷ taken ∷ fault 14 [] ∷ [];
  signed-both = keyed (41 ∷ []);
}

-- F. Role 3's targets are signed for the first delegation's keys only and lack the file; a second delegation, for the same paths, names role 3 with other keys: broken, 15 with role 3.
abbrev case_f : Row
case_f = record {
  root = two-of-three;
  one = start (targets 0 [] (to 3 40 false ∷ to 3 41 false ∷ []) (30 ∷ []) ∷ targets 3 [] [] (40 ∷ []) ∷ ask ∷ []);
  one-reads = taken ∷ taken ∷ taken ∷ taken ∷ fault 15 (3 ∷ []) ∷ [];
  other = [];
  other-reads = [];
  signed-both = [];
}

-- G. All taken on day 9, the snapshot's last day 9: found on day 9; on day 10, 11. A file is installed only with its own size and digest.
abbrev case_g : Row
case_g = record {
  root = two-of-three;
  one =
      days (1 ∷ 2 ∷ 3 ∷ 4 ∷ 5 ∷ 6 ∷ 7 ∷ 8 ∷ 9 ∷ []) ++
      (timestamp 1 5 two ∷ snapshot 5 9 roles ∷ targets 0 (program ∷ []) [] (30 ∷ []) ∷ ask ∷
      Installs (1 ∷ 5 ∷ []) 9 (77 ∷ []) ∷ Installs (1 ∷ 5 ∷ []) 8 (77 ∷ []) ∷ Begins 11 ∷ Begins 10 ∷ ask ∷ []);
  one-reads =
      taken ∷ taken ∷ taken ∷ taken ∷ taken ∷ taken ∷ taken ∷ taken ∷ taken ∷
      taken ∷ taken ∷ taken ∷ file 9 (77 ∷ []) ∷
      file 9 (77 ∷ []) ∷ fault 16 [] ∷ fault 2 [] ∷ taken ∷ fault 11 [] ∷ [];
  other = days (1 ∷ 2 ∷ 3 ∷ 4 ∷ 5 ∷ 6 ∷ 7 ∷ 8 ∷ 9 ∷ 10 ∷ []) ++ (timestamp 1 5 two ∷ snapshot 5 9 roles ∷ []);
  other-reads =
      taken ∷ taken ∷ taken ∷ taken ∷ taken ∷ taken ∷ taken ∷ taken ∷ taken ∷ taken ∷
      taken ∷ fault 11 [] ∷ [];
  signed-both = [];
}

-- H. Two devices, keys 1 to 4, three asked for, two different timestamps of version 5: two keys signed both.
abbrev case_h : Row
case_h = record {
  root = root 1 root-keys (quorum (1 ∷ 2 ∷ 3 ∷ 4 ∷ []) 3);
  one = timestamp 5 5 (1 ∷ 2 ∷ 3 ∷ []) ∷ [];
  one-reads = taken ∷ [];
  other = timestamp 5 6 (4 ∷ 3 ∷ 2 ∷ []) ∷ [];
  other-reads = taken ∷ [];
  signed-both = keyed (2 ∷ 3 ∷ []);
}

-- I. A delegation whose prefix does not fit is passed over, terminating or not: the next one has the file. With no other: 13.
abbrev elsewhere : Delegation
elsewhere = record { role = 3; quorum = quorum (40 ∷ []) 1; prefix = 1 ∷ 5 ∷ 0 ∷ []; terminating = true }

abbrev case_i : Row
case_i = record {
  root = two-of-three;
  one = start (targets 0 [] (elsewhere ∷ to 4 41 false ∷ []) (30 ∷ []) ∷ targets 4 (program ∷ []) [] (41 ∷ []) ∷ ask ∷ []);
  one-reads = taken ∷ taken ∷ taken ∷ taken ∷ file 9 (77 ∷ []) ∷ [];
  other = start (targets 0 [] (elsewhere ∷ []) (30 ∷ []) ∷ ask ∷ []);
  other-reads = taken ∷ taken ∷ taken ∷ fault 13 [] ∷ [];
  signed-both = [];
}

-- J. Targets of the version before are not at hand under a new snapshot: 15. A timestamp that gives another digest does not name the snapshot: 7.
abbrev other-digest : Event
other-digest = offer (ATimestamp (record { version = 2; expires = 100; snapshot = 6; digest = 5 ∷ [] })) two

abbrev case_j : Row
case_j = record {
  root = two-of-three;
  one = start (targets 0 (program ∷ []) [] (30 ∷ []) ∷ timestamp 2 6 two ∷ snapshot 6 100 (meta 0 2 ∷ meta 3 1 ∷ meta 4 1 ∷ []) ∷ ask ∷ targets_of 0 1 [] [] (30 ∷ []) ∷ targets_of 0 2 (program ∷ []) [] (30 ∷ []) ∷ ask ∷ []);
  one-reads = taken ∷ taken ∷ taken ∷ taken ∷ taken ∷ fault 15 (0 ∷ []) ∷ fault 9 [] ∷ taken ∷ file 9 (77 ∷ []) ∷ [];
  other = start (targets 0 (program ∷ []) [] (30 ∷ []) ∷ other-digest ∷ snapshot 6 100 roles ∷ ask ∷ []);
  other-reads = taken ∷ taken ∷ taken ∷ taken ∷ fault 7 [] ∷ fault 11 [] ∷ [];
  signed-both = [];
}

-- K. Kept targets whose role a snapshot does not list are dropped, and are not at hand when a later one lists it again.
abbrev case_k : Row
case_k = record {
  root = two-of-three;
  one =
      start (targets 0 (program ∷ []) [] (30 ∷ []) ∷ offer (ARoot (root 2 root-keys (quorum (13 ∷ []) 1))) (1 ∷ 2 ∷ []) ∷
      timestamp 1 1 (13 ∷ []) ∷ snapshot 1 100 [] ∷ timestamp 2 2 (13 ∷ []) ∷ snapshot 2 100 roles ∷ ask ∷ []);
  one-reads = taken ∷ taken ∷ taken ∷ taken ∷ taken ∷ taken ∷ taken ∷ taken ∷ fault 15 (0 ∷ []) ∷ [];
  other =
      start (targets 0 (program ∷ []) [] (30 ∷ []) ∷ offer (ARoot (root 2 root-keys (quorum (13 ∷ []) 1))) (1 ∷ 2 ∷ []) ∷
      timestamp 1 1 (13 ∷ []) ∷ snapshot 1 100 roles ∷ ask ∷ []);
  other-reads = taken ∷ taken ∷ taken ∷ taken ∷ taken ∷ taken ∷ file 9 (77 ∷ []) ∷ [];
  signed-both = keyed (20 ∷ []);
}

-- L. Roles 0 and 3 both delegate to role 4: the quorum of the latest taken is asked for, 4 otherwise. On the other device the targets of role 3 are of an older version: only current targets count, 10.
abbrev case_l : Row
case_l = record {
  root = two-of-three;
  one = start (targets 0 [] (to 3 40 false ∷ to 4 41 false ∷ []) (30 ∷ []) ∷ targets 3 [] (to 4 42 false ∷ []) (40 ∷ []) ∷ targets 4 [] [] (41 ∷ []) ∷ targets 4 (program ∷ []) [] (42 ∷ []) ∷ ask ∷ []);
  one-reads = taken ∷ taken ∷ taken ∷ taken ∷ fault 4 [] ∷ taken ∷ file 9 (77 ∷ []) ∷ [];
  other =
      start (targets 0 [] (to 3 40 false ∷ []) (30 ∷ []) ∷ targets 3 [] (to 4 42 false ∷ []) (40 ∷ []) ∷ timestamp 2 6 two ∷ snapshot 6 100 (meta 0 1 ∷ meta 3 2 ∷ meta 4 1 ∷ []) ∷ targets 4 [] [] (42 ∷ []) ∷ []);
  other-reads = taken ∷ taken ∷ taken ∷ taken ∷ taken ∷ taken ∷ fault 10 [] ∷ [];
  signed-both = [];
}

-- M. Eight targets one below the other are looked through, and the ninth is broken: 15 with its role.
abbrev down : ℕ → List File → Event
down r fs = targets r fs (to (r + 1) (r + 1) false ∷ []) (r ∷ [])

abbrev top-of-many : Event
top-of-many = targets 0 [] (to 1 1 false ∷ []) (30 ∷ [])

abbrev nine-roles : List Meta
nine-roles = map (λ (r : ℕ). meta r 1) (0 ∷ 1 ∷ 2 ∷ 3 ∷ 4 ∷ 5 ∷ 6 ∷ 7 ∷ 8 ∷ [])

abbrev many : List Event → List Event
many es = timestamp 1 5 two ∷ snapshot 5 100 nine-roles ∷ top-of-many ∷ down 1 [] ∷ down 2 [] ∷ down 3 [] ∷ down 4 [] ∷ down 5 [] ∷ down 6 [] ∷ es

abbrev case_m : Row
case_m = record {
  root = two-of-three;
  one = many (down 7 (program ∷ []) ∷ ask ∷ []);
  one-reads = taken ∷ taken ∷ taken ∷ taken ∷ taken ∷ taken ∷ taken ∷ taken ∷ taken ∷ taken ∷ file 9 (77 ∷ []) ∷ [];
  other = many (down 7 [] ∷ down 8 (program ∷ []) ∷ ask ∷ []);
  other-reads = taken ∷ taken ∷ taken ∷ taken ∷ taken ∷ taken ∷ taken ∷ taken ∷ taken ∷ taken ∷ taken ∷ fault 15 (8 ∷ []) ∷ [];
  signed-both = [];
}

abbrev pub table : List Row
table = case_a ∷ case_b ∷ case_c ∷ case_d ∷ case_e ∷ case_f ∷ case_g ∷ case_h ∷ case_i ∷ case_j ∷ case_k ∷ case_l ∷ case_m ∷ []

abbrev pub Cases : Type 0
Cases = AllRight table
