-- What holds of a device that can be reached: who signed what it keeps. Assumes nothing.
use Rattle.std.proofs.Common.{◌≡◌, ℕ, ◌+◌, Bool, true, false, cond, T, List, [], ◌∷◌, length, Some, None, filter, Option, sym, refl, subst, eqb→eq, leb→le}
use mathlib.Core.List.{Memᴰ}
use Rattle.model.specs.Metadata.{Key, Quorum, Root, Timestamp, Snapshot, Targets, Metadata, ARoot, ATimestamp, ASnapshot, ATargets, Signed, Offer}
use Rattle.model.specs.Quorums.{counted, enough}
use Rattle.model.specs.Journal.{Entry, entry, stands, noted}
use Rattle.model.specs.Device.{Device, fresh}
use Rattle.model.specs.Taking.{first_fault, root_checks, timestamp_checks, snapshot_checks, targets_checks, take_root, take_timestamp, take_snapshot, take_targets, stays, keep_if, lists, other_than, quorum_for, when_asked, noted_if, offered}
use Rattle.model.specs.Run.{Event, Offers, Begins, Asks, Installs, day_fault, on_day, step, run}
use Rattle.model.specs.World.{World, AllSigned, Lawful, AllLawful, Reached, made, after, Vouches, Vouched, Chain, here, next}
use Rattle.model.proofs.Facts.{each, none-not, some_same}
use Rattle.model.proofs.Same.{quorums}
use Rattle.model.proofs.ListFacts.{cons-all, kept_in}
use Rattle.model.proofs.Count.{counts}
use Rattle.model.proofs.Settled.{AllPass, all_pass, settled}

-- an entry's keys were counted among signers that were enough and did sign
pub record Good (w : World) (e : Entry) : Type 0 where
  pub signers : List Key
  pub counted : e.counted ≡ counted e.quorum signers
  pub enough : T (enough e.quorum signers)
  pub signed : AllSigned w e.paper signers

abbrev pub AllGood : World → List Entry → Type 0
AllGood w j = (e : Entry) → Memᴰ e j → Good w e

abbrev pub TargetsSigned : World → List (Signed Targets) → Type 0
TargetsSigned w ks = (k : Signed Targets) → Memᴰ k ks → AllSigned w (ATargets k.paper) k.signers

pub record Inv (w : World) (r : Root) (d : Device) : Type 0 where
  pub chain : Chain w r d.root
  pub journal : AllGood w d.journal
  pub timestamp : (t : Timestamp) → d.timestamp ≡ Some t → Vouched w d.root.timestamp (ATimestamp t)
  pub snapshot : (x : Snapshot) → d.snapshot ≡ Some x → Vouched w d.root.snapshot (ASnapshot x)
  pub targets : TargetsSigned w d.targets

-- the keys counted vouch for a paper that the signers signed
pub vouching : (w : World) (q : Quorum) (p : Metadata) (signers : List Key) → T (enough q signers) → AllSigned w p signers → Vouches w q p (counted q signers)
vouching w q p signers t a = let c = counts q signers in record {
  many = leb→le q.threshold (length (counted q signers)) t;
  differ = c.differ;
  ours = λ k m. (c.ours k m).0;
  signed = λ k m. a k (c.ours k m).1;
}

pub vouch : (w : World) (q : Quorum) (p : Metadata) (signers : List Key) → T (enough q signers) → AllSigned w p signers → Vouched w q p
vouch w q p signers t a = (counted q signers, vouching w q p signers t a)

-- THE JOURNAL

good : (w : World) (today : ℕ) (q : Quorum) (o : Offer) → T (enough q o.signers) → AllSigned w o.paper o.signers → Good w (entry today q o)
good w today q o e a = record { signers = o.signers; counted = refl; enough = e; signed = a }

good-noted : (w : World) (today : ℕ) (q : Quorum) (o : Offer) (j : List Entry) → T (enough q o.signers) → AllSigned w o.paper o.signers → AllGood w j → AllGood w (noted today q o j)
good-noted w today q o j e a h = at (stands q o.paper j)
  where
    at : (b : Bool) → AllGood w (cond b j (entry today q o ∷ j))
    at true = h
    at false = cons-all (Good w) (entry today q o) j (good w today q o e a) h

good-noted_if : (w : World) (today : ℕ) (m : Option Quorum) (o : Offer) (j : List Entry) → T (when_asked m (λ q. enough q o.signers)) → AllSigned w o.paper o.signers → AllGood w j → AllGood w (noted_if today m o j)
good-noted_if w today None o j e a h = h
good-noted_if w today (Some q) o j e a h = good-noted w today q o j e a h

-- ANY OFFER

-- what is kept from before a new root is kept under the same quorum
kept-before : {A : Type 0} (P : Quorum → A → Type 0) (b : Bool) (old new : Quorum) (m : Option A) (a : A) → (T b → new ≡ old) → keep_if b m ≡ Some a → (m ≡ Some a → P old a) → P new a
kept-before P true old new m a s e h = subst (λ (q : Quorum). P q a) (sym (s tt)) (h e)
kept-before P false old new m a s e h = absurd (none-not a e)

by-root : (w : World) (first r : Root) (s : List Key) (d : Device) → AllSigned w (ARoot r) s → Inv w first d → AllPass (root_checks d r (record { paper = ARoot r; signers = s })) →
    Inv w first (take_root r (record { paper = ARoot r; signers = s }) d)
by-root w first r s d a v c =
    let o : Offer = record { paper = ARoot r; signers = s } in
    record {
      chain = next r v.chain (eqb→eq r.version (d.root.version + 1) c.1.1.0) (vouch w d.root.root (ARoot r) s c.0 a) (vouch w r.root (ARoot r) s c.1.0 a);
      journal = cons-all (Good w) (entry d.today r.root o) (entry d.today d.root.root o ∷ d.journal) (good w d.today r.root o c.1.0 a)
          (cons-all (Good w) (entry d.today d.root.root o) d.journal (good w d.today d.root.root o c.0 a) v.journal);
      timestamp = λ t e. kept-before (λ q y. Vouched w q (ATimestamp y)) (stays d.root r) d.root.timestamp r.timestamp d.timestamp t
          (λ b. quorums.equal r.timestamp d.root.timestamp (each _ b).0) e (v.timestamp t);
      snapshot = λ x e. kept-before (λ q y. Vouched w q (ASnapshot y)) (stays d.root r) d.root.snapshot r.snapshot d.snapshot x
          (λ b. quorums.equal r.snapshot d.root.snapshot (each _ b).1.0) e (v.snapshot x);
      targets = v.targets;
    }

by-timestamp : (w : World) (first : Root) (t : Timestamp) (s : List Key) (d : Device) → AllSigned w (ATimestamp t) s → Inv w first d → AllPass (timestamp_checks d t (record { paper = ATimestamp t; signers = s })) →
    Inv w first (take_timestamp t (record { paper = ATimestamp t; signers = s }) d)
by-timestamp w first t s d a v c = record {
  chain = v.chain;
  journal = good-noted w d.today d.root.timestamp (record { paper = ATimestamp t; signers = s }) d.journal c.0 a v.journal;
  timestamp = λ y e. subst (λ (z : Timestamp). Vouched w d.root.timestamp (ATimestamp z)) (some_same t y e) (vouch w d.root.timestamp (ATimestamp t) s c.0 a);
  snapshot = v.snapshot;
  targets = v.targets;
}

by-snapshot : (w : World) (first : Root) (x : Snapshot) (s : List Key) (d : Device) → AllSigned w (ASnapshot x) s → Inv w first d → AllPass (snapshot_checks w.digest d x (record { paper = ASnapshot x; signers = s })) →
    Inv w first (take_snapshot x (record { paper = ASnapshot x; signers = s }) d)
by-snapshot w first x s d a v c = record {
  chain = v.chain;
  journal = good-noted w d.today d.root.snapshot (record { paper = ASnapshot x; signers = s }) d.journal c.0 a v.journal;
  timestamp = v.timestamp;
  snapshot = λ y e. subst (λ (z : Snapshot). Vouched w d.root.snapshot (ASnapshot z)) (some_same x y e) (vouch w d.root.snapshot (ASnapshot x) s c.0 a);
  targets = λ k m. v.targets k (kept_in (lists x) d.targets k m).0;
}

by-targets : (w : World) (first : Root) (t : Targets) (s : List Key) (d : Device) → AllSigned w (ATargets t) s → Inv w first d → AllPass (targets_checks d t (record { paper = ATargets t; signers = s })) →
    Inv w first (take_targets t (record { paper = ATargets t; signers = s }) d)
by-targets w first t s d a v c = record {
  chain = v.chain;
  journal = good-noted_if w d.today (quorum_for d t.role) (record { paper = ATargets t; signers = s }) d.journal c.0 a v.journal;
  timestamp = v.timestamp;
  snapshot = v.snapshot;
  targets = cons-all (λ (k : Signed Targets). AllSigned w (ATargets k.paper) k.signers) (record { paper = t; signers = s }) (filter (other_than t.role) d.targets) a
      (λ k m. v.targets k (kept_in (other_than t.role) d.targets k m).0);
}

by-offer : (w : World) (first : Root) (p : Metadata) (s : List Key) (d : Device) → AllSigned w p s → Inv w first d → Inv w first (offered w.digest (record { paper = p; signers = s }) d).device
by-offer w first (ARoot r) s d a v =
    let o : Offer = record { paper = ARoot r; signers = s } in
    settled (Inv w first) (first_fault (root_checks d r o)) (take_root r o d) d v (λ e. by-root w first r s d a v (all_pass (root_checks d r o) e))
by-offer w first (ATimestamp t) s d a v =
    let o : Offer = record { paper = ATimestamp t; signers = s } in
    settled (Inv w first) (first_fault (timestamp_checks d t o)) (take_timestamp t o d) d v (λ e. by-timestamp w first t s d a v (all_pass (timestamp_checks d t o) e))
by-offer w first (ASnapshot x) s d a v =
    let o : Offer = record { paper = ASnapshot x; signers = s } in
    settled (Inv w first) (first_fault (snapshot_checks w.digest d x o)) (take_snapshot x o d) d v (λ e. by-snapshot w first x s d a v (all_pass (snapshot_checks w.digest d x o) e))
by-offer w first (ATargets t) s d a v =
    let o : Offer = record { paper = ATargets t; signers = s } in
    settled (Inv w first) (first_fault (targets_checks d t o)) (take_targets t o d) d v (λ e. by-targets w first t s d a v (all_pass (targets_checks d t o) e))

-- ANY EVENT

by-step : (w : World) (first : Root) (e : Event) (d : Device) → Lawful w e → Inv w first d → Inv w first (step w.digest e d).device
by-step w first (Offers o) d a v = by-offer w first o.paper o.signers d a v
by-step w first (Begins day) d a v =
    settled (Inv w first) (day_fault d.today day) (on_day day d) d v (λ e. record { chain = v.chain; journal = v.journal; timestamp = v.timestamp; snapshot = v.snapshot; targets = v.targets })
by-step w first (Asks path) d a v = v
by-step w first (Installs path size digest) d a v = v

at_first : (w : World) (first : Root) → Inv w first (fresh first)
at_first w first = record {
  chain = here;
  journal = λ e m. elim m [ ];
  timestamp = λ t e. absurd (none-not t e);
  snapshot = λ x e. absurd (none-not x e);
  targets = λ k m. elim m [ ];
}

pub by-reached : (w : World) (first : Root) {d : Device} → Reached w first d → Inv w first d
by-reached w first (made e) = subst (λ (y : Device). Inv w first y) (sym e) (at_first w first)
by-reached w first (after {d = b} r x l e) = subst (λ (y : Device). Inv w first y) (sym e) (by-step w first x b l (by-reached w first r))

pub run-reached : (w : World) (first : Root) (es : List Event) (d : Device) → AllLawful w es → Reached w first d → Reached w first (run w.digest es d)
run-reached w first [] d a r = r
run-reached w first (e ∷ es) d a r = run-reached w first es (step w.digest e d).device a.1 (after r e a.0 refl)
