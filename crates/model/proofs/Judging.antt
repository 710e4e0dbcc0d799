-- An offer is judged as the rules say in words. Assumes nothing.
use Rattle.std.proofs.Common.{◌≡◌, ℕ, ◌+◌, ◌≤◌, Bool, true, false, cond, ◌&&◌, T, eqb, leb, List, [], ◌∷◌, Some, None, filter, Option, sym, refl, ap, ◌∙◌, subst, inl, inr, arith, leb→le}
use Rattle.model.specs.declared.fault.Fault.{Fault}
use Rattle.model.specs.declared.fault.Fault.TheVariants.{OutOfRange}
use Rattle.model.specs.Numbers.{number_of}
use Rattle.model.specs.Metadata.{Key, Digest, Quorum, Snapshot, Targets, Metadata, ARoot, ATimestamp, ASnapshot, ATargets, Signed, Offer}
use Rattle.model.specs.Quorums.{enough}
use Rattle.model.specs.Journal.{room}
use Rattle.model.specs.Device.{Device, Taken, Refused, settle}
use Rattle.model.specs.Taking.{Check, first_fault, checks_of, take_of, stays, lists, other_than, noted_if}
use Rattle.model.specs.Run.{on_day}
use Rattle.model.specs.Meanings.{Meets}
use Rattle.model.specs.Judged.{GivesVersion, Room, Noted, Condition, rule_for, Holds, Fails, Lowest, Becomes, JudgedOffer, DayBegun, JudgedDay, Judged}
use Rattle.model.proofs.Facts.{and_l, and_r, is_true, is_false, none-not, some_same, Decides, decides_eq, decides-le}
use Rattle.model.proofs.ListFacts.{sifted}
use Rattle.model.proofs.Count.{enough-means}
use Rattle.model.proofs.Settled.{AllPass, all_pass, no-fault, taken, refused, decided}
use Rattle.model.proofs.Going.{stays-means, keep_same, keep-not}
use Rattle.model.proofs.Rules.{newer-means, named-means, covers-old-means, listed-means, current-means, is-asked, when-asked-means, asked-some, other-means, room-means, room-root-means, noted-means}

-- each check decides the condition at its place, and has its fault
abbrev Matches : List Check → List Condition → Type 0
Matches [] [] = Unit {0}
Matches [] (r ∷ rs) = ⊥
Matches (c ∷ cs) [] = ⊥
Matches (c ∷ cs) (r ∷ rs) = Decides c.holds r.must × (c.fault ≡ r.fault) × Matches cs rs

to-rule : (cs : List Check) (rs : List Condition) → Matches cs rs → AllPass cs → Holds rs
to-rule [] [] m h = tt
to-rule [] (r ∷ rs) m h = absurd m
to-rule (c ∷ cs) [] m h = absurd m
to-rule (c ∷ cs) (r ∷ rs) m h = (m.0.0 h.0, to-rule cs rs m.2 h.1)

from-rule : (cs : List Check) (rs : List Condition) → Matches cs rs → Holds rs → AllPass cs
from-rule [] [] m h = tt
from-rule [] (r ∷ rs) m h = absurd m
from-rule (c ∷ cs) [] m h = absurd m
from-rule (c ∷ cs) (r ∷ rs) m h = (m.0.1 h.0, from-rule cs rs m.2 h.1)

-- the checks' numbers do not fall
abbrev above : ℕ → List Check → Bool
above n [] = true
above n (c ∷ cs) = leb n (number_of c.fault) && above n cs

abbrev ascending : List Check → Bool
ascending [] = true
ascending (c ∷ cs) = above (number_of c.fault) cs && ascending cs

above-fails : (n : ℕ) (cs : List Check) (rs : List Condition) → T (above n cs) → Matches cs rs → (g : Fault) → Fails rs g → n ≤ number_of g
above-fails n [] [] t m g f = absurd f
above-fails n [] (r ∷ rs) t m g f = absurd m
above-fails n (c ∷ cs) [] t m g f = absurd m
above-fails n (c ∷ cs) (r ∷ rs) t m g (inl f) =
    omega (arith, leb→le n (number_of c.fault) (and_l (leb n (number_of c.fault)) (above n cs) t), ap number_of (m.1 ∙ f.0))
above-fails n (c ∷ cs) (r ∷ rs) t m g (inr f) = above-fails n cs rs (and_r (leb n (number_of c.fault)) (above n cs) t) m.2 g f

lowest : (cs : List Check) (rs : List Condition) (f : Fault) → T (ascending cs) → Matches cs rs → first_fault cs ≡ Some f → Lowest rs f
lowest [] [] f t m e = absurd (none-not f e)
lowest [] (r ∷ rs) f t m e = absurd m
lowest (c ∷ cs) [] f t m e = absurd m
lowest (c ∷ cs) (r ∷ rs) f t m e = at c.holds refl e (lowest cs rs f (and_r (above (number_of c.fault) cs) (ascending cs) t) m.2)
  where
    passed : T c.holds → (Fails rs f × ((g : Fault) → Fails rs g → number_of f ≤ number_of g)) → (g : Fault) → Fails (r ∷ rs) g → number_of f ≤ number_of g
    passed h l g (inl n) = absurd (n.1 (m.0.0 h))
    passed h l g (inr n) = l.1 g n

    failed : f ≡ c.fault → (g : Fault) → Fails (r ∷ rs) g → number_of f ≤ number_of g
    failed s g (inl n) = omega (arith, ap number_of (s ∙ (m.1 ∙ n.0)))
    failed s g (inr n) = omega (arith, ap number_of s, above-fails (number_of c.fault) cs rs (and_l (above (number_of c.fault) cs) (ascending cs) t) m.2 g n)

    at : (b : Bool) → c.holds ≡ b → cond b (first_fault cs) (Some c.fault) ≡ Some f → (first_fault cs ≡ Some f → Lowest rs f) → Lowest (r ∷ rs) f
    at true h u go = let l = go u in (inr l.0, passed (is_true c.holds h) l)
    at false h u go =
        let same : c.fault ≡ f = some_same c.fault f u in
        (inl (sym m.1 ∙ same, λ p. is_false c.holds h (m.0.1 p)), failed (sym same))

ordered : (h : Snapshot → Digest) (d : Device) (p : Metadata) (o : Offer) → T (ascending (checks_of h d p o))
ordered h d (ARoot r) o = tt
ordered h d (ATimestamp t) o = tt
ordered h d (ASnapshot x) o = tt
ordered h d (ATargets t) o = tt

matches : (h : Snapshot → Digest) (d : Device) (p : Metadata) (s : List Key) → Matches (checks_of h d p (record { paper = p; signers = s })) (rule_for h d p s)
matches h d (ARoot r) s =
    let o : Offer = record { paper = ARoot r; signers = s } in (
      enough-means d.root.root s,
      refl,
      (
        enough-means r.root s,
        refl,
        (
          decides_eq r.version (d.root.version + 1),
          refl,
          (room-root-means d.today d.root.root r.root o d.journal, refl, tt),
        ),
      ),
    )
matches h d (ATimestamp t) s =
    let o : Offer = record { paper = ATimestamp t; signers = s } in (
      enough-means d.root.timestamp s,
      refl,
      (
        newer-means t d.timestamp,
        refl,
        (
          decides-le d.today t.expires,
          refl,
          (room-means d.today d.root.timestamp o d.journal, refl, tt),
        ),
      ),
    )
matches h d (ASnapshot x) s =
    let o : Offer = record { paper = ASnapshot x; signers = s } in (
      enough-means d.root.snapshot s,
      refl,
      (
        named-means h x d.timestamp,
        refl,
        (
          covers-old-means x d.snapshot,
          refl,
          (
            decides-le d.today x.expires,
            refl,
            (room-means d.today d.root.snapshot o d.journal, refl, tt),
          ),
        ),
      ),
    )
matches h d (ATargets t) s =
    let o : Offer = record { paper = ATargets t; signers = s } in (
      when-asked-means (λ (q : Quorum). Meets q s) (λ q. enough q s) (λ q. enough-means q s) d t.role,
      refl,
      (
        current-means d.snapshot t,
        refl,
        (
          asked-some d t.role,
          refl,
          (
            decides-le d.today t.expires,
            refl,
            (when-asked-means (λ (q : Quorum). Room q (ATargets t) d.journal) (λ q. room d.today q o d.journal) (λ q. room-means d.today q o d.journal) d t.role, refl, tt),
          ),
        ),
      ),
    )

-- WHAT THE NEW DEVICE IS

becomes : (d : Device) (p : Metadata) (s : List Key) → Becomes d p (record { paper = p; signers = s }) (take_of p (record { paper = p; signers = s }) d)
becomes d (ARoot r) s =
    let b = stays d.root r in
    let m = stays-means d.root r in
    record {
      root = refl;
      same = λ q. (keep_same b d.timestamp (m.1 q), keep_same b d.snapshot (m.1 q));
      changed = λ n. (keep-not b d.timestamp (λ t. n (m.0 t)), keep-not b d.snapshot (λ t. n (m.0 t)));
      targets = refl;
      journal = refl;
      today = refl;
    }
becomes d (ATimestamp t) s = record {
  root = refl;
  timestamp = refl;
  snapshot = refl;
  targets = refl;
  journal = noted-means d.today d.root.timestamp (record { paper = ATimestamp t; signers = s }) d.journal;
  today = refl;
}
becomes d (ASnapshot x) s = record {
  root = refl;
  timestamp = refl;
  snapshot = refl;
  targets = sifted (λ (k : Signed Targets). (n : ℕ) × GivesVersion x k.paper.role n) (lists x) (listed-means x) d.targets;
  journal = noted-means d.today d.root.snapshot (record { paper = ASnapshot x; signers = s }) d.journal;
  today = refl;
}
becomes d (ATargets t) s = record {
  root = refl;
  timestamp = refl;
  snapshot = refl;
  others = filter (other_than t.role) d.targets;
  sifted = sifted (λ (k : Signed Targets). ¬ (k.paper.role ≡ t.role)) (other_than t.role) (other-means t.role) d.targets;
  targets = refl;
  journal = λ q a. subst (λ (m : Option Quorum). Noted d.today q o d.journal (noted_if d.today m o d.journal)) (sym (is-asked d t.role q a)) (noted-means d.today q o d.journal);
  today = refl;
}
  where
    o : Offer
    o = record { paper = ATargets t; signers = s }

judged-offer : (h : Snapshot → Digest) (p : Metadata) (s : List Key) (d : Device) → JudgedOffer h (record { paper = p; signers = s }) d
judged-offer h p s d =
    let o : Offer = record { paper = p; signers = s } in
    let cs = checks_of h d p o in
    let new = take_of p o d in
    let m = matches h d p s in
    record {
      taken = λ e. to-rule cs (rule_for h d p s) m (all_pass cs (taken (first_fault cs) new d e).0);
      takes = λ r. ap (λ (f : Option Fault). (settle f new d).answer) (no-fault cs (from-rule cs (rule_for h d p s) m r));
      becomes = λ e. subst (λ (y : Device). Becomes d p o y) (sym (taken (first_fault cs) new d e).1) (becomes d p s);
      refused = λ f e. lowest cs (rule_for h d p s) f (ordered h d p o) m (refused (first_fault cs) new d f e).0;
      unchanged = λ f e. (refused (first_fault cs) new d f e).1;
      decided = decided (first_fault cs) new d;
    }

judged-day : (h : Snapshot → Digest) (day : ℕ) (d : Device) → JudgedDay h day d
judged-day h day d = record { next = λ e. next (eqb day (d.today + 1)) ((decides_eq day (d.today + 1)).1 e); other = λ n. other (eqb day (d.today + 1)) (λ t. n ((decides_eq day (d.today + 1)).0 t)) }
  where
    next : (b : Bool) → T b → ((settle (cond b None (Some OutOfRange)) (on_day day d) d).answer ≡ Taken) × DayBegun d day (settle (cond b None (Some OutOfRange)) (on_day day d) d).device
    next true t = (refl, record { root = refl; timestamp = refl; snapshot = refl; targets = refl; journal = refl; today = refl })
    next false t = absurd t

    other : (b : Bool) → ¬ (T b) → ((settle (cond b None (Some OutOfRange)) (on_day day d) d).answer ≡ Refused OutOfRange) × ((settle (cond b None (Some OutOfRange)) (on_day day d) d).device ≡ d)
    other true t = absurd (t tt)
    other false t = (refl, refl)

pub judged : Judged
judged = record { offers = λ h o d. judged-offer h o.paper o.signers d; days = judged-day; asks = λ h path d. refl; installs = λ h path size digest d. refl }
