-- Nothing goes back. Assumes nothing.
use Rattle.std.proofs.Common.{◌≡◌, ℕ, ◌+◌, ◌<◌, ◌≤◌, Bool, true, false, cond, T, eqb, ◌⊎◌, List, [], ◌∷◌, ◌++◌, Some, None, Option, sym, refl, ap, ◌∙◌, subst, inl, inr, arith, eqb→eq, ltb→lt, leb→le}
use Rattle.std.specs.Option.{option_map}
use Rattle.model.specs.declared.fault.Fault.TheVariants.{OutOfRange}
use Rattle.model.specs.Lists.{first}
use Rattle.model.specs.Metadata.{Key, Digest, Quorum, Root, Timestamp, Meta, Snapshot, Metadata, ARoot, ATimestamp, ASnapshot, ATargets, Offer}
use Rattle.model.specs.Same.{same_quorums}
use Rattle.model.specs.Journal.{Entry, entry, stands, noted}
use Rattle.model.specs.Device.{Device}
use Rattle.model.specs.Taking.{first_fault, root_checks, timestamp_checks, snapshot_checks, targets_checks, take_root, take_timestamp, take_snapshot, take_targets, stays, keep_if, newer, version_in, at_least, covers, covers_kept, quorum_for, noted_if, offered}
use Rattle.model.specs.Run.{Event, Offers, Begins, Asks, Installs, day_fault, on_day, step, run}
use Rattle.model.specs.Onward.{TimestampOn, SnapshotOn, Later, SameQuorums, Grows, Onwards, Steady, Onward}
use Rattle.model.proofs.Facts.{and_l, and_r, each, all_of, some-not, none-not, some_same, Decides}
use Rattle.model.proofs.Same.{tells, quorums}
use Rattle.model.proofs.Settled.{all_pass, settled}

-- THE JOURNAL GROWS

abbrev More : List Entry → List Entry → Type 0
More new old = (more : List Entry) × (new ≡ more ++ old)

more-noted : (today : ℕ) (q : Quorum) (o : Offer) (j : List Entry) → More (noted today q o j) j
more-noted today q o j = at (stands q o.paper j)
  where
    at : (b : Bool) → More (cond b j (entry today q o ∷ j)) j
    at true = ([], refl)
    at false = (entry today q o ∷ [], refl)

more-noted_if : (today : ℕ) (m : Option Quorum) (o : Offer) (j : List Entry) → More (noted_if today m o j) j
more-noted_if today None o j = ([], refl)
more-noted_if today (Some q) o j = more-noted today q o j

append_assoc : (xs ys zs : List Entry) → (xs ++ ys) ++ zs ≡ xs ++ (ys ++ zs)
append_assoc [] ys zs = refl
append_assoc (x ∷ xs) ys zs = ap (λ (l : List Entry). x ∷ l) (append_assoc xs ys zs)

more-trans : (a b c : List Entry) → More b a → More c b → More c a
more-trans a b c h k = (k.0 ++ h.0, k.1 ∙ (ap (λ (l : List Entry). k.0 ++ l) h.1 ∙ sym (append_assoc k.0 h.0 a)))

grows-trans : (a b c : Device) → Grows a b → Grows b c → Grows a c
grows-trans a b c h k = record { root = omega (arith, h.root, k.root); today = omega (arith, h.today, k.today); journal = more-trans a.journal b.journal c.journal h.journal k.journal }

grows-refl : (d : Device) → Grows d d
grows-refl d = record { root = omega arith; today = omega arith; journal = ([], refl) }

-- TIMESTAMP AND SNAPSHOT

timestamp-same : (old new : Option Timestamp) → new ≡ old → TimestampOn old new
timestamp-same old new h t e = (t, h ∙ e, inl refl, omega arith)

snapshot-same : (old new : Option Snapshot) → new ≡ old → SnapshotOn old new
snapshot-same old new h x e = (x, h ∙ e, omega arith, λ r n u. (n, u, omega arith))

later_same : (d e : Device) → e.timestamp ≡ d.timestamp → e.snapshot ≡ d.snapshot → Later d e
later_same d e h k = record { timestamp = timestamp-same d.timestamp e.timestamp h; snapshot = snapshot-same d.snapshot e.snapshot k }

timestamp-trans : (a b c : Option Timestamp) → TimestampOn a b → TimestampOn b c → TimestampOn a c
timestamp-trans a b c h k t e =
    let u = h t e in
    let v = k u.0 u.1 in
    (v.0, v.1, version t u.0 v.0 u.2 v.2, omega (arith, u.3, v.3))
  where
    version : (t u v : Timestamp) → (u ≡ t) ⊎ (t.version < u.version) → (v ≡ u) ⊎ (u.version < v.version) → (v ≡ t) ⊎ (t.version < v.version)
    version t u v (inl x) (inl y) = inl (y ∙ x)
    version t u v (inl x) (inr y) = inr (omega (arith, ap (λ (z : Timestamp). z.version) x, y))
    version t u v (inr x) (inl y) = inr (omega (arith, ap (λ (z : Timestamp). z.version) y, x))
    version t u v (inr x) (inr y) = inr (omega (arith, x, y))

snapshot-trans : (a b c : Option Snapshot) → SnapshotOn a b → SnapshotOn b c → SnapshotOn a c
snapshot-trans a b c h k x e =
    let y = h x e in
    let z = k y.0 y.1 in
    (z.0, z.1, omega (arith, y.2, z.2), λ r n u. let m = y.3 r n u in let l = z.3 r m.0 m.1 in (l.0, l.1, omega (arith, m.2, l.2)))

later_trans : (a b c : Device) → Later a b → Later b c → Later a c
later_trans a b c h k = record {
  timestamp = timestamp-trans a.timestamp b.timestamp c.timestamp h.timestamp k.timestamp;
  snapshot = snapshot-trans a.snapshot b.snapshot c.snapshot h.snapshot k.snapshot;
}

newer-on : (t : Timestamp) (old : Option Timestamp) → T (newer t old) → TimestampOn old (Some t)
newer-on t None h u e = absurd (none-not u e)
newer-on t (Some old) h u e =
    let c = each _ h in
    let same : old ≡ u = some_same old u e in
    (t, refl, inr (omega (arith, ltb→lt old.version t.version c.0, ap (λ (y : Timestamp). y.version) same)), omega (arith, leb→le old.snapshot t.snapshot c.1.0, ap (λ (y : Timestamp). y.snapshot) same))

-- a role that the old list gives a version is in the new one, no lower
pub cover : (new old : List Meta) → T (covers new old) → (r n : ℕ) → version_in r old ≡ Some n → (m : ℕ) × (version_in r new ≡ Some m) × (n ≤ m)
cover new [] t r n e = absurd (none-not n e)
cover new (x ∷ xs) t r n e = at (eqb r x.role) (λ h. h) e (cover new xs (and_r (at_least x.version (version_in x.role new)) (covers new xs) t) r n)
  where
    least : (k : ℕ) (o : Option ℕ) → T (at_least k o) → (m : ℕ) × (o ≡ Some m) × (k ≤ m)
    least k None h = absurd h
    least k (Some m) h = (m, refl, leb→le k m h)

    at : (b : Bool) → (T b → T (eqb r x.role)) → option_map (λ (m : Meta). m.version) (cond b (Some x) (first (λ (m : Meta). eqb r m.role) xs)) ≡ Some n →
        (version_in r xs ≡ Some n → (m : ℕ) × (version_in r new ≡ Some m) × (n ≤ m)) → (m : ℕ) × (version_in r new ≡ Some m) × (n ≤ m)
    at true h u go =
        let l = least x.version (version_in x.role new) (and_l (at_least x.version (version_in x.role new)) (covers new xs) t) in
        let same : x.version ≡ n = some_same x.version n u in
        (l.0, ap (λ (k : ℕ). version_in k new) (eqb→eq r x.role (h tt)) ∙ l.1, omega (arith, l.2, same))
    at false h u go = go u

covers-on : (x : Snapshot) (old : Option Snapshot) → T (covers_kept x old) → SnapshotOn old (Some x)
covers-on x None h y e = absurd (none-not y e)
covers-on x (Some old) h y e =
    let c = each _ h in
    let same : old ≡ y = some_same old y e in
    subst (λ (z : Snapshot). (v : Snapshot) × (Some x ≡ Some v) × (z.version ≤ v.version) × ((r n : ℕ) → version_in r z.metas ≡ Some n → (m : ℕ) × (version_in r v.metas ≡ Some m) × (n ≤ m)))
    same (x, refl, leb→le old.version x.version c.1.0, cover x.metas old.metas c.0)

-- WHERE A ROOT CHANGES THE QUORUMS

pub stays-means : (r s : Root) → Decides (stays r s) (SameQuorums r s)
stays-means r s = (
  (λ t. let h = each _ t in (quorums.equal s.timestamp r.timestamp h.0, quorums.equal s.snapshot r.snapshot h.1.0)),
  (λ h. all_of _ ((tells same_quorums quorums s.timestamp r.timestamp).1 h.0, ((tells same_quorums quorums s.snapshot r.snapshot).1 h.1, tt))),
)

pub keep_same : {A : Type 0} (b : Bool) (m : Option A) → T b → keep_if b m ≡ m
keep_same true m t = refl
keep_same false m t = absurd t

pub keep-not : {A : Type 0} (b : Bool) (m : Option A) → ¬ (T b) → keep_if b m ≡ None
keep-not true m t = absurd (t tt)
keep-not false m t = refl

-- ANY EVENT

-- the root is as it was
rooted : (d e : Device) → e.root ≡ d.root → Grows d e → Later d e → Onwards d e
rooted d e same g l = record { grows = g; same = λ s. l; changed = λ n. absurd (n (ap (λ (r : Root). r.timestamp) same, ap (λ (r : Root). r.snapshot) same)) }

still : (d : Device) → Onwards d d
still d = rooted d d refl (grows-refl d) (later_same d d refl refl)

onward-offer : (h : Snapshot → Digest) (p : Metadata) (s : List Key) (d : Device) → Onwards d (offered h (record { paper = p; signers = s }) d).device
onward-offer h (ARoot r) s d =
    let o : Offer = record { paper = ARoot r; signers = s } in
    let b = stays d.root r in
    let m = stays-means d.root r in
    settled (λ (e : Device). Onwards d e) (first_fault (root_checks d r o)) (take_root r o d) d (still d) (λ e.
    let c = all_pass (root_checks d r o) e in
    record {
      grows = record { root = omega (arith, eqb→eq r.version (d.root.version + 1) c.1.1.0); today = omega arith; journal = (entry d.today r.root o ∷ (entry d.today d.root.root o ∷ []), refl) };
      same = λ q. later_same d (take_root r o d) (keep_same b d.timestamp (m.1 q)) (keep_same b d.snapshot (m.1 q));
      changed = λ n. (keep-not b d.timestamp (λ t. n (m.0 t)), keep-not b d.snapshot (λ t. n (m.0 t)));
    })
onward-offer h (ATimestamp t) s d =
    let o : Offer = record { paper = ATimestamp t; signers = s } in
    settled (λ (e : Device). Onwards d e) (first_fault (timestamp_checks d t o)) (take_timestamp t o d) d (still d) (λ e.
    let c = all_pass (timestamp_checks d t o) e in
    rooted d (take_timestamp t o d) refl
    (record { root = omega arith; today = omega arith; journal = more-noted d.today d.root.timestamp o d.journal })
    (record { timestamp = newer-on t d.timestamp c.1.0; snapshot = snapshot-same d.snapshot d.snapshot refl }))
onward-offer h (ASnapshot x) s d =
    let o : Offer = record { paper = ASnapshot x; signers = s } in
    settled (λ (e : Device). Onwards d e) (first_fault (snapshot_checks h d x o)) (take_snapshot x o d) d (still d) (λ e.
    let c = all_pass (snapshot_checks h d x o) e in
    rooted d (take_snapshot x o d) refl
    (record { root = omega arith; today = omega arith; journal = more-noted d.today d.root.snapshot o d.journal })
    (record { timestamp = timestamp-same d.timestamp d.timestamp refl; snapshot = covers-on x d.snapshot c.1.1.0 }))
onward-offer h (ATargets t) s d =
    let o : Offer = record { paper = ATargets t; signers = s } in
    settled (λ (e : Device). Onwards d e) (first_fault (targets_checks d t o)) (take_targets t o d) d (still d) (λ e.
    rooted d (take_targets t o d) refl
    (record { root = omega arith; today = omega arith; journal = more-noted_if d.today (quorum_for d t.role) o d.journal })
    (later_same d (take_targets t o d) refl refl))

pub next-day : (today day : ℕ) → day_fault today day ≡ None → day ≡ today + 1
next-day today day e = at (eqb day (today + 1)) (λ t. t) e
  where
    at : (b : Bool) → (T b → T (eqb day (today + 1))) → cond b None (Some OutOfRange) ≡ None → day ≡ today + 1
    at true h u = eqb→eq day (today + 1) (h tt)
    at false h u = absurd (some-not OutOfRange u)

onward-step : (h : Snapshot → Digest) (e : Event) (d : Device) → Onwards d (step h e d).device
onward-step h (Offers o) d = onward-offer h o.paper o.signers d
onward-step h (Begins day) d = settled (λ (e : Device). Onwards d e) (day_fault d.today day) (on_day day d) d (still d) (λ e.
    rooted d (on_day day d) refl (record { root = omega arith; today = omega (arith, next-day d.today day e); journal = ([], refl) }) (later_same d (on_day day d) refl refl))
onward-step h (Asks path) d = still d
onward-step h (Installs path size digest) d = still d

-- RUNS

run-grows : (h : Snapshot → Digest) (es : List Event) (d : Device) → Grows d (run h es d)
run-grows h [] d = grows-refl d
run-grows h (e ∷ es) d = let n = (step h e d).device in grows-trans d n (run h es n) (onward-step h e d).grows (run-grows h es n)

run-later : (h : Snapshot → Digest) (es : List Event) (d : Device) → Steady h es d → Later d (run h es d)
run-later h [] d s = later_same d d refl refl
run-later h (e ∷ es) d s = let n = (step h e d).device in later_trans d n (run h es n) ((onward-step h e d).same s.0) (run-later h es n s.1)

pub onward : Onward
onward = record { step = onward-step; grows = run-grows; later = run-later }
