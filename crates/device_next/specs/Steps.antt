-- What an offer changes of what is kept, kind by kind. Assumes nothing.
use Rattle.std.specs.Prelude.{◌≡◌, ℕ, ◌+◌, Bool, cond, not, List, [], ◌∷◌, ◌++◌, map, is_some, Some, None, Ok, Err, filter, Option, Result, ◌==◌, nat_eq}
use Rattle.std.specs.Option.{option_map}
use Rattle.model.specs.declared.fault.Fault.{Fault}
use Rattle.model.specs.declared.fault.Fault.TheVariants.{NotEnough, NotNext, NotNewer, NotNamed, Regresses, NotListed, NotDelegated, Expired, Full}
use Rattle.model.specs.Lists.{first}
use Rattle.model.specs.Metadata.{Quorum, Root, Timestamp, Snapshot, Delegation, Targets, Metadata, ARoot, ATimestamp, ASnapshot, ATargets}
use Rattle.model.specs.Quorums.{enough}
use Rattle.model.specs.Taking.{Check, must, first_fault, in_time, stays, keep_if, newer, named, version_in, covers_kept, current, when_asked}
use Rattle.model.specs.Run.{day_fault}
use Rattle.model.specs.Answers.{Answer}
use Rattle.digest.specs.Sha256.{sha256}
use Rattle.signature.specs.Counting.{Chosen}
use Rattle.signature.specs.Signatures.{Accepts}
use Rattle.signature.specs.Views.{signature_of}
use Rattle.update.specs.Asked.{if_asked}
use Rattle.journal.specs.Notes.{Note, room_in, room_for_root, noted_in}
use Rattle.device_next.specs.Holding.{Held, Holding, as_root, as_timestamp, as_snapshot, as_targets, paper_of, signers_of}

abbrev pub root_in : Holding → Root
root_in s = as_root (paper_of s.root.paper)

abbrev pub timestamp_in : Holding → Option Timestamp
timestamp_in s = option_map (λ (h : Held). as_timestamp (paper_of h.paper)) s.timestamp

abbrev pub snapshot_in : Holding → Option Snapshot
snapshot_in s = option_map (λ (h : Held). as_snapshot (paper_of h.paper)) s.snapshot

abbrev pub targets_in : Held → Targets
targets_in h = as_targets (paper_of h.paper)

-- the note of a paper that was offered: its counted signatures are the first right one of each key of the quorum
pub record NoteBy (accepts : Accepts) (h : Held) (q : Quorum) (today : ℕ) (n : Note) : Type 0 where
  pub quorum : n.quorum ≡ q
  pub day : n.day ≡ today
  pub paper : n.paper ≡ h.paper
  pub chosen : Chosen accepts h.paper q (map signature_of h.signatures) (map signature_of n.signatures)

-- the answer, and what is then kept: the new if there is no fault, else the old
abbrev pub Settled : Option Fault → Holding → Holding → Answer → Holding → Type 0
Settled None new old a after = (a ≡ Ok tt) × (after ≡ new)
Settled (Some f) new old a after = (a ≡ Err f) × (after ≡ old)

-- an offer under one quorum: what speaks against it, and what is kept if nothing does
pub record Stepped (accepts : Accepts) (h : Held) (q : Quorum) (faults : Bool → List Check) (new : Note → Holding) (s : Holding) (a : Answer) (after : Holding) : Type 0 where
  pub note : Note
  pub by : NoteBy accepts h q s.today note
  pub settled : Settled (first_fault (faults (enough q (signers_of accepts h)))) (new note) s a after

-- TIMESTAMP

abbrev pub timestamp_faults : Bool → Timestamp → List ℕ → Holding → List Check
timestamp_faults met t paper s =
    must met NotEnough ∷ must (newer t (timestamp_in s)) NotNewer ∷ must (in_time s.today t.expires) Expired ∷
    must (room_in (root_in s).timestamp paper s.notes) Full ∷ []

abbrev pub with_timestamp : Held → Note → Holding → Holding
with_timestamp h n s = record { root = s.root; timestamp = Some h; snapshot = s.snapshot; targets = s.targets; notes = noted_in n s.notes; today = s.today }

abbrev pub TimestampStep : Accepts → Held → Timestamp → Holding → Answer → Holding → Type 0
TimestampStep accepts h t s a after = Stepped accepts h (root_in s).timestamp (λ met. timestamp_faults met t h.paper s) (λ n. with_timestamp h n s) s a after

-- SNAPSHOT

abbrev pub snapshot_faults : Bool → Snapshot → List ℕ → Holding → List Check
snapshot_faults met x paper s =
    must met NotEnough ∷ must (named (λ _. sha256 paper) x (timestamp_in s)) NotNamed ∷ must (covers_kept x (snapshot_in s)) Regresses ∷
    must (in_time s.today x.expires) Expired ∷ must (room_in (root_in s).snapshot paper s.notes) Full ∷ []

-- kept targets whose role the new snapshot lists
abbrev pub listed : Snapshot → Held → Bool
listed x k = is_some (version_in (targets_in k).role x.metas)

abbrev pub with_snapshot : Held → Snapshot → Note → Holding → Holding
with_snapshot h x n s = record { root = s.root; timestamp = s.timestamp; snapshot = Some h; targets = filter (listed x) s.targets; notes = noted_in n s.notes; today = s.today }

abbrev pub SnapshotStep : Accepts → Held → Snapshot → Holding → Answer → Holding → Type 0
SnapshotStep accepts h x s a after = Stepped accepts h (root_in s).snapshot (λ met. snapshot_faults met x h.paper s) (λ n. with_snapshot h x n s) s a after

-- TARGETS

abbrev pub or_else : {A : Type 0} → Option A → Option A → Option A
or_else (Some x) other = Some x
or_else None other = other

-- the quorum of the first delegation to a role in those targets that are current
abbrev pub delegated_in : Option Snapshot → ℕ → List Held → Option Quorum
delegated_in x r [] = None
delegated_in x r (h ∷ hs) =
    cond (current x (targets_in h)) (or_else (option_map (λ (b : Delegation). b.quorum) (first (λ (b : Delegation). nat_eq r b.role) (targets_in h).delegations)) (delegated_in x r hs)) (delegated_in x r hs)

-- the quorum that is asked for a role's targets
abbrev pub asked_for : Holding → ℕ → Option Quorum
asked_for s r = cond (r == 0) (Some (root_in s).top) (delegated_in (snapshot_in s) r s.targets)

abbrev pub targets_faults : Option Bool → Targets → List ℕ → Holding → List Check
targets_faults met t paper s =
    must (if_asked met) NotEnough ∷ must (current (snapshot_in s) t) NotListed ∷ must (is_some met) NotDelegated ∷
    must (in_time s.today t.expires) Expired ∷ must (when_asked (asked_for s t.role) (λ q. room_in q paper s.notes)) Full ∷ []

abbrev pub others : ℕ → Held → Bool
others r k = not (r == (targets_in k).role)

abbrev pub with_targets : Held → Targets → Note → Holding → Holding
with_targets h t n s = record { root = s.root; timestamp = s.timestamp; snapshot = s.snapshot; targets = h ∷ filter (others t.role) s.targets; notes = noted_in n s.notes; today = s.today }

-- without a quorum there is always a fault
abbrev pub StepUnder : Option Quorum → Accepts → Held → Targets → Holding → Answer → Holding → Type 0
StepUnder None accepts h t s a after = Settled (first_fault (targets_faults None t h.paper s)) s s a after
StepUnder (Some q) accepts h t s a after = Stepped accepts h q (λ met. targets_faults (Some met) t h.paper s) (λ n. with_targets h t n s) s a after

abbrev pub TargetsStep : Accepts → Held → Targets → Holding → Answer → Holding → Type 0
TargetsStep accepts h t s a after = StepUnder (asked_for s t.role) accepts h t s a after

-- ROOT

abbrev pub root_faults : Bool → Bool → Root → Holding → List Check
root_faults met own r s =
    must met NotEnough ∷ must own NotNext ∷ must (r.version == (root_in s).version + 1) NotNext ∷ must (room_for_root (root_in s).root r.root s.notes) Full ∷ []

abbrev pub with_root : Held → Root → Note → Note → Holding → Holding
with_root h r old own s = record {
  root = h;
  timestamp = keep_if (stays (root_in s) r) s.timestamp;
  snapshot = keep_if (stays (root_in s) r) s.snapshot;
  targets = s.targets;
  notes = s.notes ++ (old ∷ own ∷ []);
  today = s.today;
}

pub record RootStep (accepts : Accepts) (h : Held) (r : Root) (s : Holding) (a : Answer) (after : Holding) : Type 0 where
  pub old : Note
  pub own : Note
  pub by_old : NoteBy accepts h (root_in s).root s.today old
  pub by-own : NoteBy accepts h r.root s.today own
  pub settled : Settled (first_fault (root_faults (enough (root_in s).root (signers_of accepts h)) (enough r.root (signers_of accepts h)) r s)) (with_root h r old own s) s a after

-- ANY OFFER, AND DAYS

abbrev pub PaperStep : Metadata → Accepts → Held → Holding → Answer → Holding → Type 0
PaperStep (ARoot r) accepts h s a after = RootStep accepts h r s a after
PaperStep (ATimestamp t) accepts h s a after = TimestampStep accepts h t s a after
PaperStep (ASnapshot x) accepts h s a after = SnapshotStep accepts h x s a after
PaperStep (ATargets t) accepts h s a after = TargetsStep accepts h t s a after

-- what does not read is refused with its fault
abbrev pub OfferStep : Result Metadata Fault → Accepts → Held → Holding → Answer → Holding → Type 0
OfferStep (Ok p) accepts h s a after = PaperStep p accepts h s a after
OfferStep (Err f) accepts h s a after = (a ≡ Err f) × (after ≡ s)

abbrev pub on_day : ℕ → Holding → Holding
on_day day s = record { root = s.root; timestamp = s.timestamp; snapshot = s.snapshot; targets = s.targets; notes = s.notes; today = day }

abbrev pub DayStep : ℕ → Holding → Answer → Holding → Type 0
DayStep day s a after = Settled (day_fault s.today day) (on_day day s) s a after
