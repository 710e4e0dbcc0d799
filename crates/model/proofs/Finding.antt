-- The look-up's answer is the one that the rules allow. Assumes nothing.
use Rattle.std.proofs.Common.{◌≡◌, ℕ, zero, suc, Bool, true, false, cond, T, List, [], ◌∷◌, Some, None, Option, sym, refl, ap, ◌∙◌, subst, le→leb, leb→le}
use mathlib.Core.List.{Memᴰ}
use Rattle.model.specs.Lists.{DifferBy}
use Rattle.model.specs.Metadata.{Digest, Steps, Quorum, Timestamp, Snapshot, File, Delegation, Targets, Signed}
use Rattle.model.specs.Same.{same_list}
use Rattle.model.specs.Device.{Device}
use Rattle.model.specs.Look.{Found, Sure, Missing, Ended, Stale, Gap, begins, file_at, at_hand, targets_at, or_on, or_through, through, in_targets, look_deep, standing, look}
use Rattle.model.specs.Whole.{StartsWith}
use Rattle.model.specs.Ways.{Goes, none, skip, take, stop, pass, Hand, Comes, broken, has, asks, Finds, Standing, Allows, stale, stands, FoundExactly}
use Rattle.model.proofs.Facts.{is_true, is_false, each, all_of, Decides, decides_eq}
use Rattle.model.proofs.Same.{tells, bytes}
use Rattle.model.proofs.ListFacts.{first-is, first-none, is-first, first-in, first_found, differ_same}
use Rattle.model.proofs.Count.{enough-means}
use Rattle.model.proofs.Backing.{starts}
use Rattle.model.proofs.Rules.{current-means, names-means}
use Rattle.model.proofs.Bounds.{bounded}

-- AT HAND

hand : (d : Device) (r : ℕ) (q : Quorum) (k : Signed Targets) → Memᴰ k d.targets → T (at_hand d r q k) → Hand d r q k
hand d r q k m t =
    let h = each _ t in
    record {
      kept = m;
      role = (decides_eq k.paper.role r).0 h.0;
      enough = (enough-means q k.signers).0 h.1.0;
      newest = (current-means d.snapshot k.paper).0 h.1.1.0;
      in-time = leb→le d.today k.paper.expires h.1.1.1.0;
    }

un-hand : (d : Device) (r : ℕ) (q : Quorum) (k : Signed Targets) → Hand d r q k → T (at_hand d r q k)
un-hand d r q k h = all_of _ (
  (decides_eq k.paper.role r).1 h.role,
  (
    (enough-means q k.signers).1 h.enough,
    (
      (current-means d.snapshot k.paper).1 h.newest,
      (le→leb d.today k.paper.expires h.in-time, tt),
    ),
  ),
)

-- no targets at hand are found where there are none, and the other way round
no-hand : (d : Device) (r : ℕ) (q : Quorum) → targets_at d r q ≡ None → (k : Signed Targets) → ¬ (Hand d r q k)
no-hand d r q e k h = first-none (λ (y : Signed Targets). T (at_hand d r q y)) (at_hand d r q) (λ y. ((λ t. t), (λ t. t))) d.targets e k h.kept (un-hand d r q k h)

-- with one kept for each role, these are found
the-hand : (d : Device) → DifferBy (λ (k : Signed Targets). k.paper.role) d.targets → (r : ℕ) (q : Quorum) (k : Signed Targets) → Hand d r q k → targets_at d r q ≡ Some k
the-hand d one r q k h = at (targets_at d r q) refl
  where
    at : (m : Option (Signed Targets)) → targets_at d r q ≡ m → m ≡ Some k
    at None e = absurd (no-hand d r q e k h)
    at (Some l) e =
        let f = first_found (at_hand d r q) d.targets l e in
        let g = hand d r q l f.0 f.1 in
        ap Some (differ_same (λ (k : Signed Targets). k.paper.role) d.targets one l k f.0 h.kept (g.role ∙ sym h.role))

-- FILES

abbrev Fits : Steps → File → Type 0
Fits path f = f.path ≡ path

abbrev fits : Steps → File → Bool
fits path f = same_list f.path path

fits-means : (path : Steps) (f : File) → Decides (fits path f) (Fits path f)
fits-means path f = tells same_list bytes f.path path

-- DELEGATIONS

abbrev IsMissing : Found → Type 0
IsMissing (Sure f) = ⊥
IsMissing Missing = Unit {0}
IsMissing Ended = ⊥
IsMissing Stale = ⊥
IsMissing (Gap r) = ⊥

is-missing : {a : Found} → a ≡ Missing → IsMissing a
is-missing e = subst IsMissing (sym e) tt

goes : (R : ℕ → Quorum → Found → Type 0) (go : ℕ → Quorum → Found) → ((s : ℕ) (j : Quorum) → R s j (go s j)) → (path : Steps) (bs : List Delegation) → Goes R path bs (through go path bs)
goes R go h path [] = none
goes R go h path (b ∷ bs) = at (begins b.prefix path) refl (go b.role b.quorum) (h b.role b.quorum) b.terminating refl (goes R go h path bs)
  where
    here : begins b.prefix path ≡ true → StartsWith b.prefix path
    here e = (starts b.prefix path).0 (is_true (begins b.prefix path) e)

    at : (c : Bool) → begins b.prefix path ≡ c → (a : Found) → R b.role b.quorum a → (last : Bool) → b.terminating ≡ last → Goes R path bs (through go path bs) →
        Goes R path (b ∷ bs) (cond c (or_on a last (through go path bs)) (through go path bs))
    at true e (Sure f) k last l rest = take (here e) k is-missing
    at true e Missing k true l rest = stop (here e) k l
    at true e Missing k false l rest = pass (here e) k l rest
    at true e Ended k last l rest = take (here e) k is-missing
    at true e Stale k last l rest = take (here e) k is-missing
    at true e (Gap r) k last l rest = take (here e) k is-missing
    at false e a k last l rest = skip (λ s. is_false (begins b.prefix path) e ((starts b.prefix path).1 s)) rest

or-on-found : (a : Found) (last : Bool) (rest : Found) → ¬ (a ≡ Missing) → or_on a last rest ≡ a
or-on-found (Sure f) last rest n = refl
or-on-found Missing last rest n = absurd (n refl)
or-on-found Ended last rest n = refl
or-on-found Stale last rest n = refl
or-on-found (Gap r) last rest n = refl

module _ (R : ℕ → Quorum → Found → Type 0) (go : ℕ → Quorum → Found) (is : (s : ℕ) (j : Quorum) (a : Found) → R s j a → go s j ≡ a) (path : Steps) where
  -- a delegation whose prefix fits is asked
  asked : (b : Delegation) (bs : List Delegation) → StartsWith b.prefix path → (a : Found) → R b.role b.quorum a → through go path (b ∷ bs) ≡ or_on a b.terminating (through go path bs)
  asked b bs s a r = at (begins b.prefix path) ((starts b.prefix path).1 s) ∙ ap (λ (y : Found). or_on y b.terminating (through go path bs)) (is b.role b.quorum a r)
    where
      at : (c : Bool) → T c → cond c (or_on (go b.role b.quorum) b.terminating (through go path bs)) (through go path bs) ≡ or_on (go b.role b.quorum) b.terminating (through go path bs)
      at true t = refl
      at false t = absurd t

  goes-is : {bs : List Delegation} {a : Found} → Goes R path bs a → through go path bs ≡ a
  goes-is none = refl
  goes-is (skip {b = b} {bs = bs} {a = a} n g) = at (begins b.prefix path) (λ t. n ((starts b.prefix path).0 t)) (goes-is g)
    where
      at : (c : Bool) → ¬ (T c) → through go path bs ≡ a → cond c (or_on (go b.role b.quorum) b.terminating (through go path bs)) (through go path bs) ≡ a
      at true t e = absurd (t tt)
      at false t e = e
  goes-is (take {b = b} {bs = bs} {a = a} s r n) = asked b bs s a r ∙ or-on-found a b.terminating (through go path bs) n
  goes-is (stop {b = b} {bs = bs} s r t) = asked b bs s Missing r ∙ ap (λ (l : Bool). or_on Missing l (through go path bs)) t
  goes-is (pass {b = b} {bs = bs} s r t g) = asked b bs s Missing r ∙ (ap (λ (l : Bool). or_on Missing l (through go path bs)) t ∙ goes-is g)

  comes-is : (d : Device) → DifferBy (λ (k : Signed Targets). k.paper.role) d.targets → (r : ℕ) (q : Quorum) (a : Found) → Comes R d path r q a → in_targets go path r (targets_at d r q) ≡ a
  comes-is d one r q a (broken n) = at (targets_at d r q) refl
    where
      at : (m : Option (Signed Targets)) → targets_at d r q ≡ m → in_targets go path r m ≡ Gap r
      at None e = refl
      at (Some k) e = let f = first_found (at_hand d r q) d.targets k e in absurd (n k (hand d r q k f.0 f.1))
  comes-is d one r q a (has k h f i) =
      ap (in_targets go path r) (the-hand d one r q k h) ∙
      ap (λ (m : Option File). or_through m (through go path k.paper.delegations)) (is-first (Fits path) (fits path) (fits-means path) k.paper.files f i)
  comes-is d one r q a (asks k h n g) = ap (in_targets go path r) (the-hand d one r q k h) ∙ (at (file_at path k.paper.files) refl ∙ goes-is g)
    where
      at : (m : Option File) → file_at path k.paper.files ≡ m → or_through m (through go path k.paper.delegations) ≡ through go path k.paper.delegations
      at None e = refl
      at (Some f) e = let i = first-is (Fits path) (fits path) (fits-means path) k.paper.files f e in absurd (n f (first-in (Fits path) k.paper.files f i) i.is)

-- WHAT A ROLE COMES TO

finds : (n : ℕ) (d : Device) (path : Steps) (r : ℕ) (q : Quorum) → Finds n d path r q (look_deep n d path r q)
finds zero d path r q = refl
finds (suc n) d path r q = kept (targets_at d r q) refl (goes (λ s j b. Finds n d path s j b) (λ s j. look_deep n d path s j) (finds n d path) path)
  where
    files : (k : Signed Targets) → Hand d r q k → (m : Option File) → file_at path k.paper.files ≡ m →
        Goes (λ s j b. Finds n d path s j b) path k.paper.delegations (through (λ s j. look_deep n d path s j) path k.paper.delegations) →
        Comes (λ s j b. Finds n d path s j b) d path r q (or_through m (through (λ s j. look_deep n d path s j) path k.paper.delegations))
    files k h (Some f) e g = has k h f (first-is (Fits path) (fits path) (fits-means path) k.paper.files f e)
    files k h None e g = asks k h (first-none (Fits path) (fits path) (fits-means path) k.paper.files e) g

    kept : (m : Option (Signed Targets)) → targets_at d r q ≡ m →
        ((bs : List Delegation) → Goes (λ s j b. Finds n d path s j b) path bs (through (λ s j. look_deep n d path s j) path bs)) →
        Comes (λ s j b. Finds n d path s j b) d path r q (in_targets (λ s j. look_deep n d path s j) path r m)
    kept None e g = broken (no-hand d r q e)
    kept (Some k) e g = let f = first_found (at_hand d r q) d.targets k e in files k (hand d r q k f.0 f.1) (file_at path k.paper.files) refl (g k.paper.delegations)

finds-is : (n : ℕ) (d : Device) → DifferBy (λ (k : Signed Targets). k.paper.role) d.targets → (path : Steps) (r : ℕ) (q : Quorum) (a : Found) → Finds n d path r q a → look_deep n d path r q ≡ a
finds-is zero d one path r q a f = sym f
finds-is (suc n) d one path r q a f = comes-is (λ s j b. Finds n d path s j b) (λ s j. look_deep n d path s j) (finds-is n d one path) path d one r q a f

-- THE WHOLE LOOK-UP

standing-means : (h : Snapshot → Digest) (d : Device) → Decides (standing h d d.timestamp d.snapshot) (Standing h d)
standing-means h d = (yes d.timestamp refl d.snapshot refl, no)
  where
    yes : (m : Option Timestamp) → d.timestamp ≡ m → (o : Option Snapshot) → d.snapshot ≡ o → T (standing h d m o) → Standing h d
    yes None i o j t = absurd t
    yes (Some u) i None j t = absurd t
    yes (Some u) i (Some x) j t =
        let c = each _ t in
        record {
          timestamp = u;
          snapshot = x;
          is-timestamp = i;
          is-snapshot = j;
          names = (names-means h x u).0 c.1.1.1.0;
          root-in-time = leb→le d.today d.root.expires c.0;
          timestamp-in-time = leb→le d.today u.expires c.1.0;
          snapshot-in-time = leb→le d.today x.expires c.1.1.0;
        }

    no : Standing h d → T (standing h d d.timestamp d.snapshot)
    no s =
        let all-stand : T (standing h d (Some s.timestamp) (Some s.snapshot)) = all_of _ (
          le→leb d.today d.root.expires s.root-in-time,
          (
            le→leb d.today s.timestamp.expires s.timestamp-in-time,
            (
              le→leb d.today s.snapshot.expires s.snapshot-in-time,
              ((names-means h s.snapshot s.timestamp).1 s.names, tt),
            ),
          ),
        ) in
        rw (s.is-timestamp, s.is-snapshot) all-stand

allowed : (h : Snapshot → Digest) (d : Device) (path : Steps) → Allows h d path (look h d path)
allowed h d path = at (standing h d d.timestamp d.snapshot) (standing-means h d)
  where
    at : (b : Bool) → Decides b (Standing h d) → Allows h d path (cond b (look_deep 8 d path 0 d.root.top) Stale)
    at true m = stands (m.0 tt) (finds 8 d path 0 d.root.top)
    at false m = stale (λ s. m.1 s) refl

allows-is : (h : Snapshot → Digest) (d : Device) → DifferBy (λ (k : Signed Targets). k.paper.role) d.targets → (path : Steps) (a : Found) → Allows h d path a → look h d path ≡ a
allows-is h d one path a (stale n e) = at (standing h d d.timestamp d.snapshot) (λ t. n ((standing-means h d).0 t)) ∙ sym e
  where
    at : (b : Bool) → ¬ (T b) → cond b (look_deep 8 d path 0 d.root.top) Stale ≡ Stale
    at true t = absurd (t tt)
    at false t = refl
allows-is h d one path a (stands s f) = at (standing h d d.timestamp d.snapshot) ((standing-means h d).1 s) ∙ finds-is 8 d one path 0 d.root.top a f
  where
    at : (b : Bool) → T b → cond b (look_deep 8 d path 0 d.root.top) Stale ≡ look_deep 8 d path 0 d.root.top
    at true t = refl
    at false t = absurd t

pub found-exactly : FoundExactly
found-exactly = record {
  allowed = allowed;
  unique = λ w r d h path a b i j. let one = (bounded w r d h).one_each in sym (allows-is w.digest d one path a i) ∙ allows-is w.digest d one path b j;
}
