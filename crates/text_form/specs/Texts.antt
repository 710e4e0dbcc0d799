-- The text of papers, read. Assumes nothing.
use Rattle.std.specs.Prelude.{ℕ, ◌+◌, ◌-◌, cond, List, [], ◌∷◌, length, take, Ok, Err, Option, Result, ◌==◌, nat_lt}
use Rattle.model.specs.Metadata.{Key, Steps, Quorum, Root, Timestamp, Meta, Snapshot, File, Delegation, Targets, Metadata, ARoot, ATimestamp, ASnapshot, ATargets}
use Rattle.wire.specs.Formats.{FormatOf, and_then, pair, mapped}
use Rattle.wire.specs.Tables.{follows}
use Rattle.wire.specs.Leaves.{below}
use Rattle.line.specs.Forms.{bad_at, line_of_number, line_of_bytes, line_of_steps, line_of_flag, line_of_kind, ruled}
use Rattle.line.specs.declared.expected.Bad.{Bad}
use Rattle.line.specs.declared.expected.Word.{Word}
use Rattle.line.specs.declared.expected.Word.TheVariants as word
use Rattle.line.specs.declared.expected.Expected.TheVariants as expected
use Rattle.line.specs.declared.kind.Kind.{Kind}
use Rattle.line.specs.declared.kind.Kind.TheVariants as kind
use Rattle.text.specs.Texts.{paper_text}
use Rattle.text_form.specs.Chains.{chain}

-- a number from 1 on, and any number, of four bytes
abbrev pub version : Word → FormatOf Bad ℕ
version w = line_of_number w 1 4294967295

abbrev pub last_day : FormatOf Bad ℕ
last_day = line_of_number word.LastDay 0 4294967295

-- a key above the last one
abbrev pub key_line : Option Key → FormatOf Bad Key
key_line last = ruled (line_of_bytes word.Key) (follows below last) (expected.Rising word.Key)

abbrev pub keys : ℕ → FormatOf Bad (List Key)
keys n = chain key_line (λ k. k) n

-- 1 to 16 keys behind these words, of which 1 to all have to sign
abbrev pub quorum : Word → FormatOf Bad Quorum
quorum w =
    mapped (pair (line_of_number w 1 16) (λ n. pair (line_of_number word.Asked 1 n) (λ _. keys n)))
    (λ x. record { keys = x.1.1; threshold = x.1.0 })
    (λ q. (length q.keys, (q.threshold, q.keys)))

abbrev pub root : FormatOf Bad Root
root =
    mapped (pair (version word.Number) (λ _. pair last_day (λ _. pair (quorum word.RootKeys) (λ _. pair (quorum word.ClockKeys) (λ _. pair (quorum word.IndexKeys) (λ _. quorum word.TopKeys))))))
    (λ x. record { version = x.0; expires = x.1.0; root = x.1.1.0; timestamp = x.1.1.1.0; snapshot = x.1.1.1.1.0; top = x.1.1.1.1.1 })
    (λ r. (r.version, (r.expires, (r.root, (r.timestamp, (r.snapshot, r.top))))))

abbrev pub timestamp : FormatOf Bad Timestamp
timestamp =
    mapped (pair (version word.Number) (λ _. pair last_day (λ _. pair (version word.Index) (λ _. line_of_bytes word.Digest))))
    (λ x. record { version = x.0; expires = x.1.0; snapshot = x.1.1.0; digest = x.1.1.1 })
    (λ t. (t.version, (t.expires, (t.snapshot, t.digest))))

-- a role above the last one
abbrev pub role_line : Option ℕ → FormatOf Bad ℕ
role_line last = ruled (line_of_number word.Role 0 65535) (follows nat_lt last) (expected.Rising word.Role)

-- such a role, and its version
abbrev pub meta : Option ℕ → FormatOf Bad Meta
meta last =
    mapped (pair (role_line last) (λ _. version word.Number))
    (λ x. record { role = x.0; version = x.1 }) (λ m. (m.role, m.version))

abbrev pub metas : ℕ → FormatOf Bad (List Meta)
metas n = chain meta (λ m. m.role) n

abbrev pub snapshot : FormatOf Bad Snapshot
snapshot =
    mapped (pair (version word.Number) (λ _. pair last_day (λ _. pair (line_of_number word.Roles 0 64) metas)))
    (λ x. record { version = x.0; expires = x.1.0; metas = x.1.1.1 })
    (λ s. (s.version, (s.expires, (length s.metas, s.metas))))

-- a path above the last one
abbrev pub path_line : Option Steps → FormatOf Bad Steps
path_line last = ruled (line_of_steps word.File 1) (follows below last) (expected.Rising word.Path)

-- such a path, size and digest
abbrev pub file : Option Steps → FormatOf Bad File
file last =
    mapped (pair (path_line last) (λ _. pair (line_of_number word.Size 0 1099511627776) (λ _. line_of_bytes word.Digest)))
    (λ x. record { path = x.0; size = x.1.0; digest = x.1.1 })
    (λ f. (f.path, (f.size, f.digest)))

abbrev pub files : ℕ → FormatOf Bad (List File)
files n = chain file (λ f. f.path) n

abbrev pub delegation : FormatOf Bad Delegation
delegation =
    mapped (pair (line_of_number word.Branch 0 65535) (λ _. pair (quorum word.Keys) (λ _. pair (line_of_steps word.Start 0) (λ _. line_of_flag))))
    (λ x. record { role = x.0; quorum = x.1.0; prefix = x.1.1.0; terminating = x.1.1.1 })
    (λ d. (d.role, (d.quorum, (d.prefix, d.terminating))))

-- in any order
abbrev pub delegations : ℕ → FormatOf Bad (List Delegation)
delegations n = chain (λ _. delegation) (λ d. d) n

-- up to 256 files and up to 32 delegations
abbrev pub contents : FormatOf Bad (List File × List Delegation)
contents =
    mapped (pair (line_of_number word.Files 0 256) (λ n. pair (files n) (λ _. pair (line_of_number word.Branches 0 32) delegations)))
    (λ x. (x.1.0, x.1.1.1)) (λ x. (length x.0, (x.0, (length x.1, x.1))))

abbrev pub targets : FormatOf Bad Targets
targets =
    mapped (pair (line_of_number word.Role 0 65535) (λ _. pair (version word.Number) (λ _. pair last_day (λ _. contents))))
    (λ x. record { role = x.0; version = x.1.0; expires = x.1.1.0; files = x.1.1.1.0; delegations = x.1.1.1.1 })
    (λ t. (t.role, (t.version, (t.expires, (t.files, t.delegations)))))

-- a paper of one kind
abbrev pub wrapped : {A : Type 0} → (A → Metadata) → Result (A × List ℕ) Bad → Result (Metadata × List ℕ) Bad
wrapped case r = and_then r (λ p. Ok (case p.0, p.1))

abbrev pub of_kind : Kind → List ℕ → Result (Metadata × List ℕ) Bad
of_kind kind.Root bs = wrapped ARoot (root.read bs)
of_kind kind.Clock bs = wrapped ATimestamp (timestamp.read bs)
of_kind kind.Index bs = wrapped ASnapshot (snapshot.read bs)
of_kind kind.List bs = wrapped ATargets (targets.read bs)

abbrev pub Wf : Metadata → Type 0
Wf (ARoot r) = root.Wf r
Wf (ATimestamp t) = timestamp.Wf t
Wf (ASnapshot x) = snapshot.Wf x
Wf (ATargets t) = targets.Wf t

-- a paper of any kind, behind the word for it
abbrev pub paper : FormatOf Bad Metadata
paper = record {
  read = λ bs. and_then (line_of_kind.read bs) (λ p. of_kind p.0 p.1);
  write = paper_text;
  Wf = Wf;
}

-- what is left behind a paper is bad
abbrev pub ended : Metadata × List ℕ → Result Metadata Bad
ended p = cond (length p.1 == 0) (Ok p.0) (Err (bad_at p.1 expected.End))

-- the paper whose text this is, or the first bad line
unfoldable pub text_in : List ℕ → Result Metadata Bad
text_in bs = and_then (paper.read bs) ended

-- how many lines end in a text
abbrev pub line_ends : List ℕ → ℕ
line_ends [] = 0
line_ends (b ∷ bs) = cond (b == 10) 1 0 + line_ends bs

-- the number of the line that begins where so many bytes are left
unfoldable pub line_at : List ℕ → ℕ → ℕ
line_at text left = line_ends (take (length text - left) text) + 1
