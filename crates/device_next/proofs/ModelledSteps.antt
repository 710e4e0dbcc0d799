-- Each offer of bytes is exactly the step of the law. Assumes nothing.
use Rattle.std.proofs.Common.{◌≡◌, ◌+◌, Bool, true, false, cond, eqb, List, [], ◌∷◌, map, is_some, Some, None, Ok, Err, Option, sym, refl, ap, ◌∙◌}
use Rattle.model.specs.declared.fault.Fault.{Fault}
use Rattle.model.specs.declared.fault.Fault.TheVariants.{NotEnough, NotNext, NotNewer, NotNamed, Regresses, NotListed, NotDelegated, Expired, Full}
use Rattle.model.specs.Metadata.{Quorum, Root, Timestamp, Snapshot, Targets, ARoot, ATimestamp, ASnapshot, ATargets, Offer}
use Rattle.model.specs.Quorums.{enough}
use Rattle.model.specs.Device as law
use Rattle.model.specs.Answers.{Answer, answer_of}
use Rattle.model.specs.Device.{settle}
use Rattle.model.specs.Taking.{Check, must, first_fault, in_time, newer, covers_kept, current, when_asked, stays, quorum_for, noted_if, offered, timestamp_checks, take_timestamp, snapshot_checks, take_snapshot, targets_checks, take_targets, root_checks, take_root}
use Rattle.model.specs.Journal.{room}
use Rattle.model.proofs.Facts.{some-not}
use Rattle.digest.specs.Sha256.{sha256}
use Rattle.wire.specs.Formats.{Bytes}
use Rattle.metadata.specs.Papers.{paper_in}
use Rattle.signature.specs.Signatures.{Accepts}
use Rattle.update.specs.Asked.{if_asked}
use Rattle.journal.specs.Notes.{Note, room_in}
use Rattle.device_next.specs.Holding.{Held, Holding, as_root, as_timestamp, as_snapshot, as_targets, paper_of, signers_of, signed_of, journal_of, device_of, snapshot_digest}
use Rattle.device_next.specs.Offers.{offer_of, offered_as, offered_bytes, outcome_of, Clean}
use Rattle.device_next.specs.Steps.{root_in, timestamp_in, snapshot_in, NoteBy, Settled, timestamp_faults, with_timestamp, TimestampStep, snapshot_faults, with_snapshot, SnapshotStep, asked_for, targets_faults, with_targets, StepUnder, TargetsStep, root_faults, with_root, RootStep}
use Rattle.device_next.proofs.ModelledNotes.{room-journal, room-root-journal, paper-read, noted-journal, noted-root-journal}
use Rattle.device_next.proofs.ModelledTargets.{asked-for, listed_kept, others-kept, keep-mapped, digest-read, named_by}

module _ (accepts : Accepts) where
  -- the same fault, and the same new device if there is none: the same outcome
  settles : (m n : Option Fault) (new s : Holding) (device : law.Device) (a : Answer) (after : Holding) → m ≡ n → (n ≡ None → device_of accepts new ≡ device) → Settled n new s a after →
      settle m device (device_of accepts s) ≡ outcome_of accepts a after
  settles m n new s device a after e is h = ap (λ o. settle o device (device_of accepts s)) e ∙ at n is h
    where
      at : (o : Option Fault) → (o ≡ None → device_of accepts new ≡ device) → Settled o new s a after → settle o device (device_of accepts s) ≡ outcome_of accepts a after
      at None same k = λ i. record { device = (sym (same refl) ∙ ap (device_of accepts) (sym k.1)) i; answer = ap answer_of (sym k.0) i }
      at (Some f) same k = λ i. record { device = ap (device_of accepts) (sym k.1) i; answer = ap answer_of (sym k.0) i }

  -- bytes of no paper are refused
  pub unread-modelled : (h : Held) (s : Holding) (f : Fault) → paper_in h.paper ≡ Err f → offered_bytes accepts h (device_of accepts s) ≡ outcome_of accepts (Err f) s
  unread-modelled h s f e = ap (offered_as accepts h (device_of accepts s)) e

  module _ (h : Held) (s : Holding) (a : Answer) (after : Holding) (b : Bytes h.paper) (c : Clean s) where
    -- TIMESTAMP

    pub timestamp-modelled : (t : Timestamp) → paper_in h.paper ≡ Ok (ATimestamp t) → TimestampStep accepts h t s a after → offered_bytes accepts h (device_of accepts s) ≡ outcome_of accepts a after
    timestamp-modelled t e step =
        ap (offered_as accepts h (device_of accepts s)) e
        ∙ settles _ _ (with_timestamp h step.note s) s (take_timestamp t o (device_of accepts s)) a after faults (λ _. taken) step.settled
      where
        o : Offer
        o = offer_of accepts h (ATimestamp t)

        faults : first_fault (timestamp_checks (device_of accepts s) t o) ≡ first_fault (timestamp_faults (enough (root_in s).timestamp (signers_of accepts h)) t h.paper s)
        faults =
            ap (λ r. first_fault (must (enough (root_in s).timestamp (signers_of accepts h)) NotEnough ∷ must (newer t (timestamp_in s)) NotNewer ∷ must (in_time s.today t.expires) Expired ∷ must r Full ∷ []))
            (room-journal accepts h (ATimestamp t) b e s.today (root_in s).timestamp s.notes c)

        taken : device_of accepts (with_timestamp h step.note s) ≡ take_timestamp t o (device_of accepts s)
        taken = λ i. record {
          root = root_in s;
          timestamp = Some (as_timestamp (paper-read h.paper (ATimestamp t) e i));
          snapshot = snapshot_in s;
          targets = map (signed_of accepts) s.targets;
          journal = noted-journal accepts h (ATimestamp t) b e s.today (root_in s).timestamp step.note s.notes c step.by i;
          today = s.today;
        }

    -- SNAPSHOT

    pub snapshot-modelled : (x : Snapshot) → paper_in h.paper ≡ Ok (ASnapshot x) → SnapshotStep accepts h x s a after → offered_bytes accepts h (device_of accepts s) ≡ outcome_of accepts a after
    snapshot-modelled x e step =
        ap (offered_as accepts h (device_of accepts s)) e
        ∙ settles _ _ (with_snapshot h x step.note s) s (take_snapshot x o (device_of accepts s)) a after faults (λ _. taken) step.settled
      where
        o : Offer
        o = offer_of accepts h (ASnapshot x)

        checks : Bool → Bool → List Check
        checks n r =
            must (enough (root_in s).snapshot (signers_of accepts h)) NotEnough ∷ must n NotNamed ∷ must (covers_kept x (snapshot_in s)) Regresses ∷
            must (in_time s.today x.expires) Expired ∷ must r Full ∷ []

        faults : first_fault (snapshot_checks snapshot_digest (device_of accepts s) x o) ≡ first_fault (snapshot_faults (enough (root_in s).snapshot (signers_of accepts h)) x h.paper s)
        faults = λ i. first_fault (checks
            (named_by snapshot_digest (λ _. sha256 h.paper) x (timestamp_in s) (digest-read h.paper x b e) i)
            (room-journal accepts h (ASnapshot x) b e s.today (root_in s).snapshot s.notes c i))

        taken : device_of accepts (with_snapshot h x step.note s) ≡ take_snapshot x o (device_of accepts s)
        taken = λ i. record {
          root = root_in s;
          timestamp = timestamp_in s;
          snapshot = Some (as_snapshot (paper-read h.paper (ASnapshot x) e i));
          targets = listed_kept accepts x s.targets i;
          journal = noted-journal accepts h (ASnapshot x) b e s.today (root_in s).snapshot step.note s.notes c step.by i;
          today = s.today;
        }

    -- TARGETS

    module _ (t : Targets) (e : paper_in h.paper ≡ Ok (ATargets t)) where
      abbrev o : Offer
      o = offer_of accepts h (ATargets t)

      -- the checks of the law, by the quorum asked for
      abbrev checks_for : Option Quorum → List Check
      checks_for m =
          must (when_asked m (λ q. enough q (signers_of accepts h))) NotEnough ∷ must (current (snapshot_in s) t) NotListed ∷ must (is_some m) NotDelegated ∷
          must (in_time s.today t.expires) Expired ∷ must (when_asked m (λ q. room s.today q o (journal_of s.notes))) Full ∷ []

      -- the checks of the box, by whether its quorum was met, and by the quorum
      abbrev faults_for : Option Bool → Option Quorum → List Check
      faults_for met m =
          must (if_asked met) NotEnough ∷ must (current (snapshot_in s) t) NotListed ∷ must (is_some met) NotDelegated ∷
          must (in_time s.today t.expires) Expired ∷ must (when_asked m (λ q. room_in q h.paper s.notes)) Full ∷ []

      abbrev asked : Option Quorum
      asked = asked_for s t.role

      same : (m : Option Quorum) → asked ≡ m → quorum_for (device_of accepts s) t.role ≡ m
      same m k = sym (asked-for accepts s t.role) ∙ k

      no-quorum : asked ≡ None → first_fault (targets_checks (device_of accepts s) t o) ≡ first_fault (targets_faults None t h.paper s)
      no-quorum k = ap (λ m. first_fault (checks_for m)) (same None k) ∙ ap (λ m. first_fault (faults_for None m)) (sym k)

      -- without a quorum there is a fault
      always : first_fault (targets_faults None t h.paper s) ≡ None → ⊥
      always k = at (current (snapshot_in s) t) k
        where
          at : (v : Bool) → cond v (Some NotDelegated) (Some NotListed) ≡ None → ⊥
          at true u = some-not NotDelegated u
          at false u = some-not NotListed u

      a-quorum : (q : Quorum) → asked ≡ Some q → first_fault (targets_checks (device_of accepts s) t o) ≡ first_fault (targets_faults (Some (enough q (signers_of accepts h))) t h.paper s)
      a-quorum q k =
          ap (λ m. first_fault (checks_for m)) (same (Some q) k)
          ∙ (ap (λ r. first_fault (must (enough q (signers_of accepts h)) NotEnough ∷ must (current (snapshot_in s) t) NotListed ∷ must true NotDelegated ∷ must (in_time s.today t.expires) Expired ∷ must r Full ∷ []))
          (room-journal accepts h (ATargets t) b e s.today q s.notes c)
          ∙ ap (λ m. first_fault (faults_for (Some (enough q (signers_of accepts h))) m)) (sym k))

      taken-targets : (q : Quorum) (n : Note) → asked ≡ Some q → NoteBy accepts h q s.today n → device_of accepts (with_targets h t n s) ≡ take_targets t o (device_of accepts s)
      taken-targets q n k by = λ i. record {
        root = root_in s;
        timestamp = timestamp_in s;
        snapshot = snapshot_in s;
        targets = record { paper = as_targets (paper-read h.paper (ATargets t) e i); signers = signers_of accepts h } ∷ others-kept accepts t.role s.targets i;
        journal = (noted-journal accepts h (ATargets t) b e s.today q n s.notes c by ∙ ap (λ m. noted_if s.today m o (journal_of s.notes)) (sym (same (Some q) k))) i;
        today = s.today;
      }

      targets-under : (m : Option Quorum) → asked ≡ m → StepUnder m accepts h t s a after → offered snapshot_digest o (device_of accepts s) ≡ outcome_of accepts a after
      targets-under None k step = settles _ _ s s (take_targets t o (device_of accepts s)) a after (no-quorum k) (λ u. absurd (always u)) step
      targets-under (Some q) k step =
          settles _ _ (with_targets h t step.note s) s (take_targets t o (device_of accepts s)) a after (a-quorum q k) (λ _. taken-targets q step.note k step.by) step.settled

      pub targets-modelled : TargetsStep accepts h t s a after → offered_bytes accepts h (device_of accepts s) ≡ outcome_of accepts a after
      targets-modelled step = ap (offered_as accepts h (device_of accepts s)) e ∙ targets-under asked refl step

    -- ROOT

    pub root-modelled : (r : Root) → paper_in h.paper ≡ Ok (ARoot r) → RootStep accepts h r s a after → offered_bytes accepts h (device_of accepts s) ≡ outcome_of accepts a after
    root-modelled r e step =
        ap (offered_as accepts h (device_of accepts s)) e
        ∙ settles _ _ (with_root h r step.old step.own s) s (take_root r o (device_of accepts s)) a after faults (λ _. taken) step.settled
      where
        o : Offer
        o = offer_of accepts h (ARoot r)

        faults : first_fault (root_checks (device_of accepts s) r o) ≡ first_fault (root_faults (enough (root_in s).root (signers_of accepts h)) (enough r.root (signers_of accepts h)) r s)
        faults =
            ap (λ m. first_fault (must (enough (root_in s).root (signers_of accepts h)) NotEnough ∷ must (enough r.root (signers_of accepts h)) NotNext ∷ must (eqb r.version ((root_in s).version + 1)) NotNext ∷ must m Full ∷ []))
            (room-root-journal accepts h (ARoot r) b e s.today (root_in s).root r.root s.notes)

        taken : device_of accepts (with_root h r step.old step.own s) ≡ take_root r o (device_of accepts s)
        taken = λ i. record {
          root = as_root (paper-read h.paper (ARoot r) e i);
          timestamp = keep-mapped (λ (k : Held). as_timestamp (paper_of k.paper)) (stays (root_in s) r) s.timestamp i;
          snapshot = keep-mapped (λ (k : Held). as_snapshot (paper_of k.paper)) (stays (root_in s) r) s.snapshot i;
          targets = map (signed_of accepts) s.targets;
          journal = noted-root-journal accepts h (ARoot r) b e s.today (root_in s).root r.root step.old step.own s.notes step.by_old step.by-own i;
          today = s.today;
        }
