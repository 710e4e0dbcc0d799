-- Each test of taking decides what the rules say in words. Assumes nothing.
use Rattle.std.proofs.Common.{◌≡◌, ℕ, ◌<◌, ◌≤◌, Bool, true, false, cond, T, eqb, ◌⊎◌, List, [], ◌∷◌, ◌++◌, length, is_some, Some, None, filter, Option, sym, refl, ap, ◌∙◌, subst, inl, inr, arith, le→leb, eqb→eq, ltb→lt, lt→ltb, leb→le}
use mathlib.Core.List.{Memᴰ}
use Rattle.std.specs.Option.{option_map, option_or}
use Rattle.model.specs.Lists.{all, first, First}
use Rattle.model.specs.Metadata.{Digest, Quorum, Timestamp, Meta, Snapshot, Delegation, Targets, Metadata, Signed, Offer}
use Rattle.model.specs.Same.{same_list, same_quorums, same_papers}
use Rattle.model.specs.Journal.{Entry, entry, stands, noted, noted_root, under, fits, room, room_root}
use Rattle.model.specs.Device.{Device}
use Rattle.model.specs.Taking.{newer, names, named, version_in, at_least, covers, covers_kept, lists, is_version, current, delegations_of, delegations_at, quorum_for, when_asked, other_than}
use Rattle.model.specs.Judged.{Newer, Named, GivesVersion, Covers, Current, Delegates, Asked, for-top, delegated, Stands, Room, RoomTwice, Noted}
use Rattle.model.proofs.Facts.{and_l, and_r, or_case, or_l, or_r, both_hold, is_true, is_false, each, all_of, none-not, some_same, Decides, decides_eq, decides-eq-sym, decides_not, by-test}
use Rattle.model.proofs.Same.{tells, bytes, quorums, papers}
use Rattle.model.proofs.ListFacts.{cons-all, first-is, first-none, is-first, first-in, sifted, sifted-same, any-is, is_any}

-- TIMESTAMP

pub newer-means : (t : Timestamp) (old : Option Timestamp) → Decides (newer t old) (Newer t old)
newer-means t None = ((λ h u e. absurd (none-not u e)), λ n. tt)
newer-means t (Some old) = (
  (λ h u e. let c = each _ h in subst (λ (z : Timestamp). (z.version < t.version) × (z.snapshot ≤ t.snapshot)) (some_same old u e) (ltb→lt old.version t.version c.0, leb→le old.snapshot t.snapshot c.1.0)),
  (λ n. let c = n old refl in all_of _ (lt→ltb old.version t.version c.0, (le→leb old.snapshot t.snapshot c.1, tt))),
)

-- SNAPSHOT

pub names-means : (h : Snapshot → Digest) (x : Snapshot) (t : Timestamp) → Decides (names h x t) ((t.snapshot ≡ x.version) × (t.digest ≡ h x))
names-means h x t = (
  (λ u. let c = each _ u in (eqb→eq t.snapshot x.version c.0, bytes.equal t.digest (h x) c.1.0)),
  (λ u. all_of _ ((decides_eq t.snapshot x.version).1 u.0, ((tells same_list bytes t.digest (h x)).1 u.1, tt))),
)

pub named-means : (h : Snapshot → Digest) (x : Snapshot) (kept : Option Timestamp) → Decides (named h x kept) (Named h x kept)
named-means h x None = ((λ u. absurd u), λ n. absurd (none-not n.0 n.1))
named-means h x (Some t) = (
  (λ u. let c = (names-means h x t).0 u in (t, refl, c.0, c.1)),
  (λ n. (names-means h x t).1 (subst (λ (z : Timestamp). (z.snapshot ≡ x.version) × (z.digest ≡ h x)) (sym (some_same t n.0 n.1)) (n.2, n.3))),
)

pub version-is : (x : Snapshot) (r n : ℕ) → version_in r x.metas ≡ Some n → GivesVersion x r n
version-is x r n e = at (first (λ (m : Meta). eqb r m.role) x.metas) refl e
  where
    at : (o : Option Meta) → first (λ (m : Meta). eqb r m.role) x.metas ≡ o → option_map (λ (m : Meta). m.version) o ≡ Some n → GivesVersion x r n
    at None h u = absurd (none-not n u)
    at (Some m) h u =
        let f = first-is (λ (m : Meta). m.role ≡ r) (λ (m : Meta). eqb r m.role) (λ m. decides-eq-sym r m.role) x.metas m h in
        let same : m ≡ record { role = r; version = n } = λ i. record { role = f.is i; version = some_same m.version n u i } in
        subst (λ (z : Meta). First (λ (m : Meta). m.role ≡ r) x.metas z) same f

pub is-version : (x : Snapshot) (r n : ℕ) → GivesVersion x r n → version_in r x.metas ≡ Some n
is-version x r n g = ap (option_map (λ (m : Meta). m.version)) (is-first (λ (m : Meta). m.role ≡ r) (λ (m : Meta). eqb r m.role) (λ m. decides-eq-sym r m.role) x.metas (record { role = r; version = n }) g)

-- a role is listed with a version at least so high
abbrev Lists : Snapshot → Meta → Type 0
Lists x m = (n : ℕ) × GivesVersion x m.role n × (m.version ≤ n)

lists-means : (x : Snapshot) (m : Meta) → Decides (at_least m.version (version_in m.role x.metas)) (Lists x m)
lists-means x m = (
  at (version_in m.role x.metas) refl,
  λ l. subst (λ (o : Option ℕ). T (at_least m.version o)) (sym (is-version x m.role l.0 l.1)) (le→leb m.version l.0 l.2),
)
  where
    at : (o : Option ℕ) → version_in m.role x.metas ≡ o → T (at_least m.version o) → Lists x m
    at None e t = absurd t
    at (Some n) e t = (n, version-is x m.role n e, leb→le m.version n t)

covers-means : (x : Snapshot) (old : List Meta) → Decides (covers x.metas old) ((m : Meta) → Memᴰ m old → Lists x m)
covers-means x old = (yes old, no old)
  where
    here : (m : Meta) (ms : List Meta) → Lists x m → ((y : Meta) → Memᴰ y ms → Lists x y) → (y : Meta) → Memᴰ y (m ∷ ms) → Lists x y
    here m ms l go y (Memᴰ.head e) = subst (λ (z : Meta). Lists x z) (sym e) l
    here m ms l go y (Memᴰ.tail i) = go y i

    yes : (old : List Meta) → T (covers x.metas old) → (m : Meta) → Memᴰ m old → Lists x m
    yes [] t = λ m i. elim i [ ]
    yes (o ∷ os) t =
        here o os ((lists-means x o).0 (and_l (at_least o.version (version_in o.role x.metas)) (covers x.metas os) t))
        (yes os (and_r (at_least o.version (version_in o.role x.metas)) (covers x.metas os) t))

    no : (old : List Meta) → ((m : Meta) → Memᴰ m old → Lists x m) → T (covers x.metas old)
    no [] h = tt
    no (o ∷ os) h = both_hold (at_least o.version (version_in o.role x.metas)) (covers x.metas os) ((lists-means x o).1 (h o (Memᴰ.head refl))) (no os (λ m i. h m (Memᴰ.tail i)))

pub covers-old-means : (x : Snapshot) (kept : Option Snapshot) → Decides (covers_kept x kept) (Covers x kept)
covers-old-means x None = ((λ t o e. absurd (none-not o e)), λ c. tt)
covers-old-means x (Some old) = (
  (λ t o e. let c = each _ t in
      subst (λ (z : Snapshot). (z.version ≤ x.version) × ((m : Meta) → Memᴰ m z.metas → Lists x m)) (some_same old o e)
      (leb→le old.version x.version c.1.0, (covers-means x old.metas).0 c.0)),
  (λ c. let h = c old refl in all_of _ ((covers-means x old.metas).1 h.1, (le→leb old.version x.version h.0, tt))),
)

pub listed-means : (x : Snapshot) (k : Signed Targets) → Decides (lists x k) ((n : ℕ) × GivesVersion x k.paper.role n)
listed-means x k = (
  at (version_in k.paper.role x.metas) refl,
  λ g. subst (λ (o : Option ℕ). T (is_some o)) (sym (is-version x k.paper.role g.0 g.1)) tt,
)
  where
    at : (o : Option ℕ) → version_in k.paper.role x.metas ≡ o → T (is_some o) → (n : ℕ) × GivesVersion x k.paper.role n
    at None e t = absurd t
    at (Some n) e t = (n, version-is x k.paper.role n e)

-- TARGETS

pub current-means : (kept : Option Snapshot) (t : Targets) → Decides (current kept t) (Current kept t)
current-means None t = ((λ u. absurd u), λ c. absurd (none-not c.0 c.1))
current-means (Some x) t = (
  (λ u. (x, refl, version-is x t.role t.version (at (version_in t.role x.metas) u))),
  (λ c. subst (λ (z : Snapshot). T (current (Some z) t)) (sym (some_same x c.0 c.1)) (is c.0 c.2)),
)
  where
    at : (o : Option ℕ) → T (is_version t.version o) → o ≡ Some t.version
    at None u = absurd u
    at (Some n) u = ap Some (sym (eqb→eq t.version n u))

    is : (z : Snapshot) → GivesVersion z t.role t.version → T (current (Some z) t)
    is z g = subst (λ (o : Option ℕ). T (is_version t.version o)) (sym (is-version z t.role t.version g)) ((decides_eq t.version t.version).1 refl)

abbrev IsCurrent : Device → Signed Targets → Type 0
IsCurrent d k = Current d.snapshot k.paper

abbrev currently : Device → Signed Targets → Bool
currently d k = current d.snapshot k.paper

abbrev Kin : ℕ → Delegation → Type 0
Kin r b = b.role ≡ r

abbrev kin : ℕ → Delegation → Bool
kin r b = eqb r b.role

kin-means : (r : ℕ) (b : Delegation) → Decides (kin r b) (Kin r b)
kin-means r b = decides-eq-sym r b.role

-- the first delegation of a list of targets is that of the first targets that have one
first-append : (r : ℕ) (bs cs : List Delegation) → first (kin r) (bs ++ cs) ≡ option_or (first (kin r) bs) (first (kin r) cs)
first-append r [] cs = refl
first-append r (b ∷ bs) cs = at (kin r b) (first-append r bs cs)
  where
    at : (t : Bool) → first (kin r) (bs ++ cs) ≡ option_or (first (kin r) bs) (first (kin r) cs) → cond t (Some b) (first (kin r) (bs ++ cs)) ≡ option_or (cond t (Some b) (first (kin r) bs)) (first (kin r) cs)
    at true e = refl
    at false e = e

delegates-none : (r : ℕ) (k : Signed Targets) → first (kin r) k.paper.delegations ≡ None → ¬ (Delegates r k)
delegates-none r k e d = first-none (Kin r) (kin r) (kin-means r) k.paper.delegations e d.0 d.1 d.2

nested : (r : ℕ) (ks : List (Signed Targets)) (b : Delegation) → first (kin r) (delegations_of ks) ≡ Some b →
    (k : Signed Targets) × First (Delegates r) ks k × First (Kin r) k.paper.delegations b
nested r [] b e = absurd (none-not b e)
nested r (k ∷ ks) b e = at (first (kin r) k.paper.delegations) refl (sym (first-append r k.paper.delegations (delegations_of ks)) ∙ e) (nested r ks b)
  where
    at : (o : Option Delegation) → first (kin r) k.paper.delegations ≡ o → option_or o (first (kin r) (delegations_of ks)) ≡ Some b →
        (first (kin r) (delegations_of ks) ≡ Some b → (l : Signed Targets) × First (Delegates r) ks l × First (Kin r) l.paper.delegations b) →
        (l : Signed Targets) × First (Delegates r) (k ∷ ks) l × First (Kin r) l.paper.delegations b
    at None h u go =
        let n = go u in
        let f = n.1 in (
          n.0,
          record {
            before = k ∷ f.before;
            behind = f.behind;
            split = ap (λ (l : List (Signed Targets)). k ∷ l) f.split;
            is = f.is;
            none = cons-all (λ (l : Signed Targets). ¬ (Delegates r l)) k f.before (delegates-none r k h) f.none;
          },
          n.2,
        )
    at (Some c) h u go =
        let f = first-is (Kin r) (kin r) (kin-means r) k.paper.delegations b (h ∙ u) in
        (k, record { before = []; behind = ks; split = refl; is = (b, first-in (Kin r) k.paper.delegations b f, f.is); none = λ l m. elim m [ ] }, f)

flat : (r : ℕ) (before behind : List (Signed Targets)) (k : Signed Targets) (b : Delegation) → ((l : Signed Targets) → Memᴰ l before → ¬ (Delegates r l)) →
    first (kin r) k.paper.delegations ≡ Some b → first (kin r) (delegations_of (before ++ (k ∷ behind))) ≡ Some b
flat r [] behind k b n e = first-append r k.paper.delegations (delegations_of behind) ∙ ap (λ (o : Option Delegation). option_or o (first (kin r) (delegations_of behind))) e
flat r (l ∷ ls) behind k b n e =
    first-append r l.paper.delegations (delegations_of (ls ++ (k ∷ behind))) ∙ at (first (kin r) l.paper.delegations) refl (flat r ls behind k b (λ y m. n y (Memᴰ.tail m)) e)
  where
    at : (o : Option Delegation) → first (kin r) l.paper.delegations ≡ o → first (kin r) (delegations_of (ls ++ (k ∷ behind))) ≡ Some b → option_or o (first (kin r) (delegations_of (ls ++ (k ∷ behind)))) ≡ Some b
    at None h u = u
    at (Some c) h u =
        let f = first-is (Kin r) (kin r) (kin-means r) l.paper.delegations c h in
        absurd (n l (Memᴰ.head refl) (c, first-in (Kin r) l.paper.delegations c f, f.is))

-- the quorum that is asked for, as the relation has it
pub asked_is : (d : Device) (r : ℕ) (q : Quorum) → quorum_for d r ≡ Some q → Asked d r q
asked_is d r q e = at (eqb r 0) refl e
  where
    through : ¬ (r ≡ 0) → (o : Option Delegation) → first (kin r) (delegations_at d) ≡ o → option_map (λ (b : Delegation). b.quorum) o ≡ Some q → Asked d r q
    through n None h u = absurd (none-not q u)
    through n (Some b) h u =
        let ks = filter (currently d) d.targets in
        let f = nested r ks b h in
        delegated n ks (sifted (IsCurrent d) (currently d) (λ k. current-means d.snapshot k.paper) d.targets) f.0 f.1 b f.2 (sym (some_same b.quorum q u))

    at : (b : Bool) → eqb r 0 ≡ b → cond b (Some d.root.top) (option_map (λ (b : Delegation). b.quorum) (first (kin r) (delegations_at d))) ≡ Some q → Asked d r q
    at true h u = for-top (eqb→eq r 0 (is_true (eqb r 0) h)) (sym (some_same d.root.top q u))
    at false h u = through (λ z. is_false (eqb r 0) h ((decides_eq r 0).1 z)) (first (kin r) (delegations_at d)) refl u

pub is-asked : (d : Device) (r : ℕ) (q : Quorum) → Asked d r q → quorum_for d r ≡ Some q
is-asked d r q (for-top z e) = at (eqb r 0) ((decides_eq r 0).1 z)
  where
    at : (b : Bool) → T b → cond b (Some d.root.top) (option_map (λ (b : Delegation). b.quorum) (first (kin r) (delegations_at d))) ≡ Some q
    at true t = ap Some (sym e)
    at false t = absurd t
is-asked d r q (delegated n ks s k f b g e) = at (eqb r 0) (λ t. n (eqb→eq r 0 t))
  where
    lists-same : filter (currently d) d.targets ≡ f.before ++ (k ∷ f.behind)
    lists-same = sifted-same (IsCurrent d) (currently d) (λ k. current-means d.snapshot k.paper) s ∙ f.split

    found : first (kin r) (delegations_at d) ≡ Some b
    found =
        ap (λ (z : List (Signed Targets)). first (kin r) (delegations_of z)) lists-same ∙
        flat r f.before f.behind k b f.none (is-first (Kin r) (kin r) (kin-means r) k.paper.delegations b g)

    at : (c : Bool) → ¬ (T c) → cond c (Some d.root.top) (option_map (λ (b : Delegation). b.quorum) (first (kin r) (delegations_at d))) ≡ Some q
    at true t = absurd (t tt)
    at false t = ap (option_map (λ (b : Delegation). b.quorum)) found ∙ ap Some (sym e)

pub when-asked-means : (P : Quorum → Type 0) (test : Quorum → Bool) → ((q : Quorum) → Decides (test q) (P q)) → (d : Device) (r : ℕ) → Decides (when_asked (quorum_for d r) test) ((q : Quorum) → Asked d r q → P q)
when-asked-means P test dec d r = at (quorum_for d r) refl
  where
    at : (o : Option Quorum) → quorum_for d r ≡ o → Decides (when_asked o test) ((q : Quorum) → Asked d r q → P q)
    at None e = ((λ t q a. absurd (none-not q (sym e ∙ is-asked d r q a))), λ h. tt)
    at (Some p) e = ((λ t q a. subst P (some_same p q (sym e ∙ is-asked d r q a)) ((dec p).0 t)), λ h. (dec p).1 (h p (asked_is d r p e)))

pub asked-some : (d : Device) (r : ℕ) → Decides (is_some (quorum_for d r)) ((q : Quorum) × Asked d r q)
asked-some d r = at (quorum_for d r) refl
  where
    at : (o : Option Quorum) → quorum_for d r ≡ o → Decides (is_some o) ((q : Quorum) × Asked d r q)
    at None e = ((λ t. absurd t), λ a. none-not a.0 (sym e ∙ is-asked d r a.0 a.1))
    at (Some q) e = ((λ t. (q, asked_is d r q e)), λ a. tt)

pub other-means : (r : ℕ) (k : Signed Targets) → Decides (other_than r k) (¬ (k.paper.role ≡ r))
other-means r k = decides_not (eqb r k.paper.role) (decides-eq-sym r k.paper.role)

-- THE JOURNAL

abbrev Same : Quorum → Metadata → Entry → Type 0
Same q p e = (e.quorum ≡ q) × (e.paper ≡ p)

abbrev same : Quorum → Metadata → Entry → Bool
same q p e = all (same_quorums q e.quorum ∷ same_papers p e.paper ∷ [])

pub same-means : (q : Quorum) (p : Metadata) (e : Entry) → Decides (same q p e) (Same q p e)
same-means q p e = (
  (λ t. let h = each _ t in (sym (quorums.equal q e.quorum h.0), sym (papers.equal p e.paper h.1.0))),
  (λ s. all_of _ ((tells same_quorums quorums q e.quorum).1 (sym s.0), ((tells same_papers papers p e.paper).1 (sym s.1), tt))),
)

pub stands-means : (q : Quorum) (p : Metadata) (j : List Entry) → Decides (stands q p j) (Stands q p j)
stands-means q p j = (
  (λ t. let h = any-is (Same q p) (same q p) (same-means q p) j t in (h.0, h.1, h.2.0, h.2.1)),
  (λ s. is_any (Same q p) (same q p) (same-means q p) j s.0 s.1 (s.2, s.3)),
)

-- one for the same quorum, and none for another
pub one_same : (q r : Quorum) → q ≡ r → ◌≡◌ {A = ℕ} (cond (same_quorums q r) 1 0) 1
one_same q r e = at (same_quorums q r) ((tells same_quorums quorums q r).1 e)
  where
    at : (b : Bool) → T b → ◌≡◌ {A = ℕ} (cond b 1 0) 1
    at true t = refl
    at false t = absurd t

pub none_other : (q r : Quorum) → ¬ (q ≡ r) → ◌≡◌ {A = ℕ} (cond (same_quorums q r) 1 0) 0
none_other q r n = at (same_quorums q r) (λ t. n (quorums.equal q r t))
  where
    at : (b : Bool) → ¬ (T b) → ◌≡◌ {A = ℕ} (cond b 1 0) 0
    at true t = absurd (t tt)
    at false t = refl

fits-means : (q : Quorum) (j : List Entry) → Decides (fits q j) ((length j ≤ 65536) × (under q j ≤ 16384))
fits-means q j = (
  (λ t. let h = each _ t in (leb→le (length j) 65536 h.0, leb→le (under q j) 16384 h.1.0)),
  (λ h. all_of _ (le→leb (length j) 65536 h.0, (le→leb (under q j) 16384 h.1, tt))),
)

pub room-means : (today : ℕ) (q : Quorum) (o : Offer) (j : List Entry) → Decides (room today q o j) (Room q o.paper j)
room-means today q o j = ((λ t. yes (or_case (stands q o.paper j) (fits q (entry today q o ∷ j)) t)), no)
  where
    yes : T (stands q o.paper j) ⊎ T (fits q (entry today q o ∷ j)) → Room q o.paper j
    yes (inl t) = inl ((stands-means q o.paper j).0 t)
    yes (inr t) = let h = (fits-means q (entry today q o ∷ j)).0 t in inr (omega (arith, h.0), omega (arith, h.1, one_same q q refl))

    no : Room q o.paper j → T (room today q o j)
    no (inl s) = or_l (stands q o.paper j) (fits q (entry today q o ∷ j)) ((stands-means q o.paper j).1 s)
    no (inr h) = or_r (stands q o.paper j) (fits q (entry today q o ∷ j)) ((fits-means q (entry today q o ∷ j)).1 (omega (arith, h.0), omega (arith, h.1, one_same q q refl)))

pub room-root-means : (today : ℕ) (old own : Quorum) (o : Offer) (j : List Entry) → Decides (room_root today old own o j) (RoomTwice old own j)
room-root-means today old own o j = (yes, no)
  where
    both : List Entry
    both = noted_root today old own o j

    yes : T (room_root today old own o j) → RoomTwice old own j
    yes t =
        let h = each _ t in
        let f = (fits-means old both).0 h.0 in
        let g = (fits-means own both).0 h.1.0 in
        record {
          all = omega (arith, f.0);
          same = λ e. omega (arith, f.1, one_same old old refl, one_same old own e);
          other = λ n. (omega (arith, f.1, one_same old old refl, none_other old own n), omega (arith, g.1, one_same own own refl, none_other own old (λ e. n (sym e))));
        }

    no : RoomTwice old own j → T (room_root today old own o j)
    no r = by-test (same_quorums old own) (tells same_quorums quorums old own)
        (λ e.
        let own_same : under own j ≡ under old j = ap (λ (z : Quorum). under z j) (sym e) in
        all_of _ (
          (fits-means old both).1 (omega (arith, r.all), omega (arith, r.same e, one_same old old refl, one_same old own e)),
          ((fits-means own both).1 (omega (arith, r.all), omega (arith, r.same e, own_same, one_same own own refl, one_same own old (sym e))), tt),
        ))
        (λ n. let h = r.other n in all_of _ (
          (fits-means old both).1 (omega (arith, r.all), omega (arith, h.0, one_same old old refl, none_other old own n)),
          ((fits-means own both).1 (omega (arith, r.all), omega (arith, h.1, one_same own own refl, none_other own old (λ e. n (sym e)))), tt),
        ))

pub noted-means : (today : ℕ) (q : Quorum) (o : Offer) (j : List Entry) → Noted today q o j (noted today q o j)
noted-means today q o j = record {
  there = λ s. there (stands q o.paper j) ((stands-means q o.paper j).1 s);
  added = λ n. added (stands q o.paper j) (λ t. n ((stands-means q o.paper j).0 t));
}
  where
    there : (b : Bool) → T b → cond b j (entry today q o ∷ j) ≡ j
    there true t = refl
    there false t = absurd t

    added : (b : Bool) → ¬ (T b) → cond b j (entry today q o ∷ j) ≡ entry today q o ∷ j
    added true t = absurd (t tt)
    added false t = refl
