-- What is taken stands in the journal, within its limits. Assumes nothing.
use Rattle.std.proofs.Common.{◌≡◌, ℕ, ◌+◌, ◌≤◌, Bool, true, false, cond, ◌||◌, T, List, [], ◌∷◌, length, Some, None, Option, sym, refl, ap, ◌∙◌, subst, inl, inr, arith, eqb→eq, leb→le}
use mathlib.Core.List.{Memᴰ}
use Rattle.model.specs.Lists.{all, count, DifferBy}
use Rattle.model.specs.Metadata.{Key, Digest, Quorum, Root, Snapshot, Targets, Metadata, ARoot, ATimestamp, ASnapshot, ATargets, Signed, Offer}
use Rattle.model.specs.Same.{same_quorums, same_papers}
use Rattle.model.specs.Journal.{Entry, entry, stands, noted, noted_root, under, fits, room, room_root}
use Rattle.model.specs.Device.{Device, Taken, fresh}
use Rattle.model.specs.Taking.{first_fault, checks_of, take_of, root_checks, timestamp_checks, snapshot_checks, targets_checks, take_root, take_timestamp, take_snapshot, take_targets, lists, other_than, quorum_for, when_asked, noted_if, offered}
use Rattle.model.specs.Run.{Event, Offers, Begins, Asks, Installs, day_fault, on_day, step}
use Rattle.model.specs.World.{World, Reached, made, after}
use Rattle.model.specs.Judged.{Stands}
use Rattle.model.specs.Recorded.{AskedFor, copies, places, Unrepeated, Bounded, Recorded}
use Rattle.model.proofs.Facts.{is_true, is_false, each, by-test}
use Rattle.model.proofs.Same.{tells, quorums, papers}
use Rattle.model.proofs.ListFacts.{cons-all, kept_in, kept-differ}
use Rattle.model.proofs.Settled.{all_pass, settled, taken}
use Rattle.model.proofs.Going.{next-day}
use Rattle.model.proofs.Rules.{is-asked, other-means, same-means, stands-means}

-- COUNTING

count_none : {A : Type 0} (test : A → Bool) (xs : List A) → ((x : A) → Memᴰ x xs → ¬ (T (test x))) → ◌≡◌ {A = ℕ} (count test xs) 0
count_none test [] n = refl
count_none test (x ∷ xs) n = at (test x) (n x (Memᴰ.head refl)) (count_none test xs (λ y m. n y (Memᴰ.tail m)))
  where
    at : (b : Bool) → ¬ (T b) → ◌≡◌ {A = ℕ} (count test xs) 0 → ◌≡◌ {A = ℕ} (cond b 1 0 + count test xs) 0
    at true t e = absurd (t tt)
    at false t e = omega (arith, e)

-- one more element is at most one more
count-more : (b : Bool) (n : ℕ) → (cond b 1 0 + n ≤ n + 1) × (n ≤ cond b 1 0 + n)
count-more true n = (omega arith, omega arith)
count-more false n = (omega arith, omega arith)

count_no : (b : Bool) (n : ℕ) → ¬ (T b) → cond b 1 0 + n ≡ n
count_no true n t = absurd (t tt)
count_no false n t = omega arith

-- a paper that does not stand there for this quorum may be noted
copies-more : (q : Quorum) (p : Metadata) (e : Entry) (j : List Entry) → ¬ (Stands e.quorum e.paper j) → copies q p j ≤ 1 → copies q p (e ∷ j) ≤ 1
copies-more q p e j n h = by-test (all (same_quorums q e.quorum ∷ same_papers p e.paper ∷ [])) (same-means q p e)
    (λ s.
    let none = count_none (λ (f : Entry). all (same_quorums q f.quorum ∷ same_papers p f.paper ∷ [])) j
    (λ f m t. let g = (same-means q p f).0 t in n (f, m, g.0 ∙ sym s.0, g.1 ∙ sym s.1)) in
    omega (arith, none, (count-more (all (same_quorums q e.quorum ∷ same_papers p e.paper ∷ [])) (copies q p j)).0))
    (λ s. omega (arith, h, count_no (all (same_quorums q e.quorum ∷ same_papers p e.paper ∷ [])) (copies q p j) (λ t. s ((same-means q p e).0 t))))

copies-other : (q : Quorum) (p : Metadata) (e : Entry) (j : List Entry) → ¬ (e.paper ≡ p) → copies q p j ≤ 1 → copies q p (e ∷ j) ≤ 1
copies-other q p e j n h = omega (arith, h, count_no (all (same_quorums q e.quorum ∷ same_papers p e.paper ∷ [])) (copies q p j) (λ t. n ((same-means q p e).0 t).1))

places-other : (p : Metadata) (e : Entry) (j : List Entry) → ¬ (e.paper ≡ p) → places p (e ∷ j) ≡ places p j
places-other p e j n = count_no (same_papers p e.paper) (places p j) (λ t. n (sym (papers.equal p e.paper t)))

-- another paper changes nothing for this one
unrepeated-other : (p : Metadata) (e : Entry) (j : List Entry) → ¬ (e.paper ≡ p) → Unrepeated p j → Unrepeated p (e ∷ j)
unrepeated-other (ARoot r) e j n u = omega (arith, u, places-other (ARoot r) e j n)
unrepeated-other (ATimestamp t) e j n u = λ q. copies-other q (ATimestamp t) e j n (u q)
unrepeated-other (ASnapshot x) e j n u = λ q. copies-other q (ASnapshot x) e j n (u q)
unrepeated-other (ATargets t) e j n u = λ q. copies-other q (ATargets t) e j n (u q)

abbrev IsRoot : Metadata → Type 0
IsRoot (ARoot r) = Unit {0}
IsRoot (ATimestamp t) = ⊥
IsRoot (ASnapshot x) = ⊥
IsRoot (ATargets t) = ⊥

-- a paper that is no root, and does not stand there for the quorum asked
unrepeated-more : (p : Metadata) (e : Entry) (j : List Entry) → ¬ (IsRoot e.paper) → ¬ (Stands e.quorum e.paper j) → Unrepeated p j → Unrepeated p (e ∷ j)
unrepeated-more (ARoot r) e j n s u = unrepeated-other (ARoot r) e j (λ i. n (subst IsRoot (sym i) tt)) u
unrepeated-more (ATimestamp t) e j n s u = λ q. copies-more q (ATimestamp t) e j s (u q)
unrepeated-more (ASnapshot x) e j n s u = λ q. copies-more q (ASnapshot x) e j s (u q)
unrepeated-more (ATargets t) e j n s u = λ q. copies-more q (ATargets t) e j s (u q)

-- A JOURNAL WITHIN ITS LIMITS

-- root: the version of the newest root there
record Fine (today root : ℕ) (j : List Entry) : Type 0 where
  pub all : length j ≤ 65536
  pub each : (q : Quorum) → under q j ≤ 16384
  pub dated : (e : Entry) → Memᴰ e j → e.day ≤ today
  pub unrepeated : (p : Metadata) → Unrepeated p j
  pub roots : (e : Entry) → Memᴰ e j → (r : Root) → e.paper ≡ ARoot r → r.version ≤ root

-- one more entry: only its own quorum's count goes up
under_more : (q : Quorum) (e : Entry) (j : List Entry) → under e.quorum (e ∷ j) ≤ 16384 → under q j ≤ 16384 → under q (e ∷ j) ≤ 16384
under_more q e j h k = by-test (same_quorums q e.quorum) (tells same_quorums quorums q e.quorum)
    (λ s. subst (λ (z : Quorum). under z (e ∷ j) ≤ 16384) (sym s) h)
    (λ n. omega (arith, k, count_no (same_quorums q e.quorum) (under q j) (λ t. n (quorums.equal q e.quorum t))))

no-root : (today root : ℕ) (q : Quorum) (o : Offer) → ¬ (IsRoot o.paper) → (r : Root) → (entry today q o).paper ≡ ARoot r → r.version ≤ root
no-root today root q o n r e = absurd (n (subst IsRoot (sym e) tt))

fine-noted : (today root : ℕ) (q : Quorum) (o : Offer) (j : List Entry) → ¬ (IsRoot o.paper) → T (room today q o j) → Fine today root j → Fine today root (noted today q o j)
fine-noted today root q o j n t f = at (stands q o.paper j) refl t
  where
    at : (b : Bool) → stands q o.paper j ≡ b → T (b || fits q (entry today q o ∷ j)) → Fine today root (cond b j (entry today q o ∷ j))
    at true e u = f
    at false e u =
        let h = each _ u in
        record {
          all = leb→le (length (entry today q o ∷ j)) 65536 h.0;
          each = λ r. under_more r (entry today q o) j (leb→le (under q (entry today q o ∷ j)) 16384 h.1.0) (f.each r);
          dated = cons-all (λ (e : Entry). e.day ≤ today) (entry today q o) j (omega arith) f.dated;
          unrepeated = λ p. unrepeated-more p (entry today q o) j n (λ s. is_false (stands q o.paper j) e ((stands-means q o.paper j).1 s)) (f.unrepeated p);
          roots = cons-all (λ (e : Entry). (r : Root) → e.paper ≡ ARoot r → r.version ≤ root) (entry today q o) j (no-root today root q o n) f.roots;
        }

fine-noted_if : (today root : ℕ) (m : Option Quorum) (o : Offer) (j : List Entry) → ¬ (IsRoot o.paper) → T (when_asked m (λ q. room today q o j)) → Fine today root j → Fine today root (noted_if today m o j)
fine-noted_if today root None o j n t f = f
fine-noted_if today root (Some q) o j n t f = fine-noted today root q o j n t f

root-same : (r s : Root) → ARoot r ≡ ARoot s → r ≡ s
root-same r s e = cc

-- a root that is newer than those there
unrepeated-root : (p : Metadata) (r : Root) (e f : Entry) (root : ℕ) (j : List Entry) → e.paper ≡ ARoot r → f.paper ≡ ARoot r → r.version ≡ root + 1 →
    ((g : Entry) → Memᴰ g j → (s : Root) → g.paper ≡ ARoot s → s.version ≤ root) → Unrepeated p j → Unrepeated p (e ∷ (f ∷ j))
unrepeated-root p r e f root j is-e is_f v below u = by-test (same_papers p (ARoot r)) (tells same_papers papers p (ARoot r))
    (λ s. subst (λ (z : Metadata). Unrepeated z (e ∷ (f ∷ j))) (sym s) twice)
    (λ n. unrepeated-other p e (f ∷ j) (λ i. n (sym i ∙ is-e)) (unrepeated-other p f j (λ i. n (sym i ∙ is_f)) u))
  where
    none : ◌≡◌ {A = ℕ} (places (ARoot r) j) 0
    none = count_none (λ (g : Entry). same_papers (ARoot r) g.paper) j (λ g m t. let h = below g m r (sym (papers.equal (ARoot r) g.paper t)) in omega (arith, h, v))

    twice : places (ARoot r) (e ∷ (f ∷ j)) ≤ 2
    twice = omega (arith, none, (count-more (same_papers (ARoot r) e.paper) (places (ARoot r) (f ∷ j))).0, (count-more (same_papers (ARoot r) f.paper) (places (ARoot r) j)).0)

fine-root : (today root : ℕ) (old : Quorum) (r : Root) (s : List Key) (j : List Entry) → r.version ≡ root + 1 → T (room_root today old r.root (record { paper = ARoot r; signers = s }) j) →
    Fine today root j → Fine today r.version (noted_root today old r.root (record { paper = ARoot r; signers = s }) j)
fine-root today root old r s j v t f =
    let o : Offer = record { paper = ARoot r; signers = s } in
    let own = r.root in
    let whole = noted_root today old own o j in
    let h = each _ t in
    let for-old = each _ h.0 in
    let for-own = each _ h.1.0 in
    let old-fits : under old whole ≤ 16384 = leb→le (under old whole) 16384 for-old.1.0 in
    let own-fits : under own whole ≤ 16384 = leb→le (under own whole) 16384 for-own.1.0 in
    let mid : under old (entry today old o ∷ j) ≤ 16384 = omega (arith, old-fits, (count-more (same_quorums old own) (under old (entry today old o ∷ j))).1) in
    record {
      all = leb→le (length whole) 65536 for-old.0;
      each = λ q. under_more q (entry today own o) (entry today old o ∷ j) own-fits (under_more q (entry today old o) j mid (f.each q));
      dated = cons-all (λ (e : Entry). e.day ≤ today) (entry today own o) (entry today old o ∷ j) (omega arith) (cons-all (λ (e : Entry). e.day ≤ today) (entry today old o) j (omega arith) f.dated);
      unrepeated = λ p. unrepeated-root p r (entry today own o) (entry today old o) root j refl refl v f.roots (f.unrepeated p);
      roots = cons-all Newest (entry today own o) (entry today old o ∷ j) (newest) (cons-all Newest (entry today old o) j newest (λ e m z i. omega (arith, f.roots e m z i, v)));
    }
  where
    Newest : Entry → Type 0
    Newest e = (z : Root) → e.paper ≡ ARoot z → z.version ≤ r.version

    newest : (z : Root) → ARoot r ≡ ARoot z → z.version ≤ r.version
    newest z i = omega (arith, ap (λ (y : Root). y.version) (root-same r z i))

-- ANY DEVICE THAT CAN BE REACHED

record Sound (d : Device) : Type 0 where
  pub journal : Fine d.today d.root.version d.journal
  pub one_each : DifferBy (λ (k : Signed Targets). k.paper.role) d.targets

sound-offer : (h : Snapshot → Digest) (p : Metadata) (s : List Key) (d : Device) → Sound d → Sound (offered h (record { paper = p; signers = s }) d).device
sound-offer h (ARoot r) s d b =
    let o : Offer = record { paper = ARoot r; signers = s } in
    settled Sound (first_fault (root_checks d r o)) (take_root r o d) d b (λ e.
    let c = all_pass (root_checks d r o) e in
    record { journal = fine-root d.today d.root.version d.root.root r s d.journal (eqb→eq r.version (d.root.version + 1) c.1.1.0) c.1.1.1.0 b.journal; one_each = b.one_each })
sound-offer h (ATimestamp t) s d b =
    let o : Offer = record { paper = ATimestamp t; signers = s } in
    settled Sound (first_fault (timestamp_checks d t o)) (take_timestamp t o d) d b (λ e.
    record { journal = fine-noted d.today d.root.version d.root.timestamp o d.journal (λ i. i) (all_pass (timestamp_checks d t o) e).1.1.1.0 b.journal; one_each = b.one_each })
sound-offer h (ASnapshot x) s d b =
    let o : Offer = record { paper = ASnapshot x; signers = s } in
    settled Sound (first_fault (snapshot_checks h d x o)) (take_snapshot x o d) d b (λ e. record {
      journal = fine-noted d.today d.root.version d.root.snapshot o d.journal (λ i. i) (all_pass (snapshot_checks h d x o) e).1.1.1.1.0 b.journal;
      one_each = kept-differ (λ (k : Signed Targets). k.paper.role) (lists x) d.targets b.one_each;
    })
sound-offer h (ATargets t) s d b =
    let o : Offer = record { paper = ATargets t; signers = s } in
    settled Sound (first_fault (targets_checks d t o)) (take_targets t o d) d b (λ e. record {
      journal = fine-noted_if d.today d.root.version (quorum_for d t.role) o d.journal (λ i. i) (all_pass (targets_checks d t o) e).1.1.1.1.0 b.journal;
      one_each = (
        (λ k m. (other-means t.role k).0 (kept_in (other_than t.role) d.targets k m).1),
        kept-differ (λ (k : Signed Targets). k.paper.role) (other_than t.role) d.targets b.one_each,
      );
    })

sound-step : (h : Snapshot → Digest) (e : Event) (d : Device) → Sound d → Sound (step h e d).device
sound-step h (Offers o) d b = sound-offer h o.paper o.signers d b
sound-step h (Begins day) d b = settled Sound (day_fault d.today day) (on_day day d) d b (λ e.
    let f = b.journal in
    record { journal = record { all = f.all; each = f.each; dated = λ x m. omega (arith, f.dated x m, next-day d.today day e); unrepeated = f.unrepeated; roots = f.roots }; one_each = b.one_each })
sound-step h (Asks path) d b = b
sound-step h (Installs path size digest) d b = b

none_yet : (p : Metadata) → Unrepeated p []
none_yet (ARoot r) = omega arith
none_yet (ATimestamp t) = λ q. omega arith
none_yet (ASnapshot x) = λ q. omega arith
none_yet (ATargets t) = λ q. omega arith

sound-fresh : (r : Root) → Sound (fresh r)
sound-fresh r = record { journal = record { all = omega arith; each = λ q. omega arith; dated = λ e m. elim m [ ]; unrepeated = none_yet; roots = λ e m. elim m [ ] }; one_each = tt }

sound-reached : (w : World) (r : Root) {d : Device} → Reached w r d → Sound d
sound-reached w r (made e) = subst Sound (sym e) (sound-fresh r)
sound-reached w r (after {d = b} h x l e) = subst Sound (sym e) (sound-step w.digest x b (sound-reached w r h))

pub bounded : (w : World) (r : Root) (d : Device) → Reached w r d → Bounded d
bounded w r d h =
    let s = sound-reached w r h in
    let j = s.journal in
    record { all = j.all; each = j.each; dated = j.dated; unrepeated = j.unrepeated; one_each = s.one_each }

-- WHAT IS TAKEN STANDS THERE

stands-noted : (today : ℕ) (q : Quorum) (o : Offer) (j : List Entry) → Stands q o.paper (noted today q o j)
stands-noted today q o j = at (stands q o.paper j) refl
  where
    at : (b : Bool) → stands q o.paper j ≡ b → Stands q o.paper (cond b j (entry today q o ∷ j))
    at true e = (stands-means q o.paper j).0 (is_true (stands q o.paper j) e)
    at false e = (entry today q o, Memᴰ.head refl, refl, refl)

stands-taken : (d : Device) (p : Metadata) (s : List Key) (q : Quorum) → AskedFor d p q → Stands q p (take_of p (record { paper = p; signers = s }) d).journal
stands-taken d (ARoot r) s q (inl e) = (entry d.today d.root.root (record { paper = ARoot r; signers = s }), Memᴰ.tail (Memᴰ.head refl), sym e, refl)
stands-taken d (ARoot r) s q (inr e) = (entry d.today r.root (record { paper = ARoot r; signers = s }), Memᴰ.head refl, sym e, refl)
stands-taken d (ATimestamp t) s q a = subst (λ (z : Quorum). Stands z (ATimestamp t) (take_of (ATimestamp t) (record { paper = ATimestamp t; signers = s }) d).journal) (sym a) (stands-noted d.today d.root.timestamp (record { paper = ATimestamp t; signers = s }) d.journal)
stands-taken d (ASnapshot x) s q a = subst (λ (z : Quorum). Stands z (ASnapshot x) (take_of (ASnapshot x) (record { paper = ASnapshot x; signers = s }) d).journal) (sym a) (stands-noted d.today d.root.snapshot (record { paper = ASnapshot x; signers = s }) d.journal)
stands-taken d (ATargets t) s q a = subst (λ (m : Option Quorum). Stands q (ATargets t) (noted_if d.today m (record { paper = ATargets t; signers = s }) d.journal)) (sym (is-asked d t.role q a)) (stands-noted d.today q (record { paper = ATargets t; signers = s }) d.journal)

recorded-offer : (h : Snapshot → Digest) (p : Metadata) (s : List Key) (d : Device) → (offered h (record { paper = p; signers = s }) d).answer ≡ Taken → (q : Quorum) → AskedFor d p q → Stands q p (offered h (record { paper = p; signers = s }) d).device.journal
recorded-offer h p s d e q a =
    let o : Offer = record { paper = p; signers = s } in
    subst (λ (y : Device). Stands q p y.journal) (sym (taken (first_fault (checks_of h d p o)) (take_of p o d) d e).1) (stands-taken d p s q a)

pub recorded : Recorded
recorded = record { recorded = λ h o d e q a. recorded-offer h o.paper o.signers d e q a; bounded = bounded }
