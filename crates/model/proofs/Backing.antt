-- What a look-up finds is backed. Assumes nothing.
use Rattle.std.proofs.Common.{◌≡◌, ℕ, zero, suc, Bool, true, false, cond, T, eqb, List, [], ◌∷◌, ◌++◌, Some, None, Option, sym, refl, ap, ◌∙◌, subst, eqb→eq, leb→le}
use mathlib.Core.List.{Memᴰ}
use lib.Dec.{eqb_refl}
use Rattle.model.specs.declared.fault.Fault.TheVariants.{Differs}
use Rattle.model.specs.Lists.{all}
use Rattle.model.specs.Metadata.{Digest, Steps, Quorum, Root, Timestamp, Snapshot, File, Delegation, Targets, ATargets, Signed}
use Rattle.model.specs.Same.{same_list}
use Rattle.model.specs.Device.{Device, Answer, Taken, Gives, Refused}
use Rattle.model.specs.Taking.{version_in, is_version, current}
use Rattle.model.specs.Look.{Found, Sure, Missing, Ended, Stale, Gap, begins, file_at, at_hand, targets_at, or_on, or_through, through as look_through, in_targets, look_deep, standing, look}
use Rattle.model.specs.Run.{told, checked}
use Rattle.model.specs.World.{World}
use Rattle.model.specs.Whole.{StartsWith, AtHand, Backs, listed, through, Backed, Whole, Main}
use Rattle.model.proofs.Facts.{and_l, and_r, both_hold, each, is_true, Decides}
use Rattle.model.proofs.Same.{bytes}
use Rattle.model.proofs.ListFacts.{first_found}
use Rattle.model.proofs.Inv.{Inv, TargetsSigned, vouch, by-reached, run-reached}
use Rattle.model.specs.World.{made}

-- the test of a prefix
pub starts : (p path : Steps) → Decides (begins p path) (StartsWith p path)
starts p path = (is p path, λ s. subst (λ (l : Steps). T (begins p l)) (sym s.1) (so p s.0))
  where
    is : (p path : Steps) → T (begins p path) → StartsWith p path
    is [] path t = (path, refl)
    is (x ∷ xs) [] t = absurd t
    is (x ∷ xs) (y ∷ ys) t =
        let h = is xs ys (and_r (eqb x y) (begins xs ys) t) in
        (h.0, λ i. sym (eqb→eq x y (and_l (eqb x y) (begins xs ys) t)) i ∷ h.1 i)

    so : (p rest : Steps) → T (begins p (p ++ rest))
    so [] rest = tt
    so (x ∷ xs) rest = both_hold (eqb x x) (begins xs (xs ++ rest)) (eqb_refl x) (so xs rest)

-- a look-up that answers otherwise has not found a file
abbrev IsSure : Found → Type 0
IsSure (Sure f) = Unit {0}
IsSure Missing = ⊥
IsSure Ended = ⊥
IsSure Stale = ⊥
IsSure (Gap r) = ⊥

sure : (a : Found) {f : File} → a ≡ Sure f → IsSure a
sure a e = subst IsSure (sym e) tt

-- a delegation whose answer is the file
through-in : (go : ℕ → Quorum → Found) (path : Steps) (bs : List Delegation) (f : File) → look_through go path bs ≡ Sure f →
    (b : Delegation) × Memᴰ b bs × T (begins b.prefix path) × (go b.role b.quorum ≡ Sure f)
through-in go path [] f e = absurd (sure Missing e)
through-in go path (b ∷ bs) f e = at (begins b.prefix path) (λ t. t) (go b.role b.quorum) refl b.terminating e (through-in go path bs f)
  where
    Way : List Delegation → Type 0
    Way cs = (c : Delegation) × Memᴰ c cs × T (begins c.prefix path) × (go c.role c.quorum ≡ Sure f)

    on : Way bs → Way (b ∷ bs)
    on t = (t.0, Memᴰ.tail t.1, t.2, t.3)

    at : (v : Bool) → (T v → T (begins b.prefix path)) → (g : Found) → go b.role b.quorum ≡ g → (last : Bool) →
        cond v (or_on g last (look_through go path bs)) (look_through go path bs) ≡ Sure f → (look_through go path bs ≡ Sure f → Way bs) → Way (b ∷ bs)
    at true t (Sure g) k last u more = (b, Memᴰ.head refl, t tt, k ∙ u)
    at true t Missing k true u more = absurd (sure Ended u)
    at true t Missing k false u more = on (more u)
    at true t Ended k last u more = absurd (sure Ended u)
    at true t Stale k last u more = absurd (sure Stale u)
    at true t (Gap r) k last u more = absurd (sure (Gap r) u)
    at false t g k last u more = on (more u)

versions : (n : ℕ) (m : Option ℕ) → T (is_version n m) → m ≡ Some n
versions n None t = absurd t
versions n (Some m) t = ap Some (sym (eqb→eq n m t))

module _ (w : World) (d : Device) (x : Snapshot) (is : d.snapshot ≡ Some x) (signed : TargetsSigned w d.targets) where
  at-hand : (r : ℕ) (q : Quorum) (k : Signed Targets) → Memᴰ k d.targets → T (at_hand d r q k) → AtHand w d x r q k.paper
  at-hand r q k m t =
      let h = each _ t in
      let role : k.paper.role ≡ r = eqb→eq k.paper.role r h.0 in
      let now : T (current (Some x) k.paper) = subst (λ (y : Option Snapshot). T (current y k.paper)) is h.1.1.0 in
      record {
        signers = k.signers;
        kept = m;
        role = role;
        vouched = vouch w q (ATargets k.paper) k.signers h.1.0 (signed k m);
        newest = subst (λ (s : ℕ). version_in s x.metas ≡ Some k.paper.version) role (versions k.paper.version (version_in k.paper.role x.metas) now);
        in-time = leb→le d.today k.paper.expires h.1.1.1.0;
      }

  deep : (path : Steps) (f : File) (n r : ℕ) (q : Quorum) → look_deep n d path r q ≡ Sure f → Backs w d x path f n r q
  deep path f zero r q e = absurd (sure (Gap r) e)
  deep path f (suc n) r q e = kept (targets_at d r q) refl e (deep path f n)
    where
      Deeper : Type 0
      Deeper = (s : ℕ) (j : Quorum) → look_deep n d path s j ≡ Sure f → Backs w d x path f n s j

      files : (k : Signed Targets) → AtHand w d x r q k.paper → (m : Option File) → file_at path k.paper.files ≡ m →
          or_through m (look_through (λ s j. look_deep n d path s j) path k.paper.delegations) ≡ Sure f → Deeper → Backs w d x path f (suc n) r q
      files k h None i u go =
          let t = through-in (λ s j. look_deep n d path s j) path k.paper.delegations f u in
          through k.paper h t.0 t.1 ((starts t.0.prefix path).0 t.2) (go t.0.role t.0.quorum t.3)
      files k h (Some g) i u go =
          let same : g ≡ f = cc in
          let t = first_found (λ (g : File). same_list g.path path) k.paper.files f (i ∙ ap Some same) in
          listed k.paper h t.0 (bytes.equal f.path path t.1)

      kept : (m : Option (Signed Targets)) → targets_at d r q ≡ m → in_targets (λ s j. look_deep n d path s j) path r m ≡ Sure f → Deeper → Backs w d x path f (suc n) r q
      kept None i u go = absurd (sure (Gap r) u)
      kept (Some k) i u go =
          let t = first_found (at_hand d r q) d.targets k i in
          files k (at-hand r q k t.0 t.1) (file_at path k.paper.files) refl u go

backed : (w : World) (first : Root) (d : Device) → Inv w first d → (path : Steps) (f : File) → look w.digest d path ≡ Sure f → Backed w d path f
backed w first d v path f e = at d.timestamp refl d.snapshot refl e
  where
    tests : (t : Timestamp) → d.timestamp ≡ Some t → (x : Snapshot) → d.snapshot ≡ Some x → (b : Bool) → (T b → T (standing w.digest d (Some t) (Some x))) →
        cond b (look_deep 8 d path 0 d.root.top) Stale ≡ Sure f → Backed w d path f
    tests t i x j true s u =
        let h = each _ (s tt) in
        let n = each _ h.1.1.1.0 in
        record {
          timestamp = t;
          snapshot = x;
          is-timestamp = i;
          is-snapshot = j;
          by-timestamp = v.timestamp t i;
          by-snapshot = v.snapshot x j;
          names = (eqb→eq t.snapshot x.version n.0, bytes.equal t.digest (w.digest x) n.1.0);
          days = (leb→le d.today t.expires h.1.0, leb→le d.today x.expires h.1.1.0, leb→le d.today d.root.expires h.0);
          way = deep w d x j v.targets path f 8 0 d.root.top u;
        }
    tests t i x j false s u = absurd (sure Stale u)

    at : (m : Option Timestamp) → d.timestamp ≡ m → (o : Option Snapshot) → d.snapshot ≡ o → cond (standing w.digest d m o) (look_deep 8 d path 0 d.root.top) Stale ≡ Sure f → Backed w d path f
    at None i o j u = absurd (sure Stale u)
    at (Some t) i None j u = absurd (sure Stale u)
    at (Some t) i (Some x) j u = tests t i x j (standing w.digest d (Some t) (Some x)) (λ s. s) u

-- an answer that gives a file comes from a look-up that found it
abbrev IsGives : Answer → Type 0
IsGives Taken = ⊥
IsGives (Gives f) = Unit {0}
IsGives (Refused f) = ⊥

gives : (a : Answer) {f : File} → a ≡ Gives f → IsGives a
gives a e = subst IsGives (sym e) tt

gives_same : (f g : File) → Gives f ≡ Gives g → f ≡ g
gives_same f g e = cc

told-sure : (a : Found) (f : File) → told a ≡ Gives f → a ≡ Sure f
told-sure (Sure g) f e = ap Sure (gives_same g f e)
told-sure Missing f e = absurd (gives (told Missing) e)
told-sure Ended f e = absurd (gives (told Ended) e)
told-sure Stale f e = absurd (gives (told Stale) e)
told-sure (Gap r) f e = absurd (gives (told (Gap r)) e)

checked-sure : (size : ℕ) (digest : Digest) (a : Found) (f : File) → checked size digest a ≡ Gives f → (a ≡ Sure f) × (size ≡ f.size) × (digest ≡ f.digest)
checked-sure size digest (Sure g) f e = at (all (eqb size g.size ∷ same_list digest g.digest ∷ [])) refl e
  where
    at : (b : Bool) → all (eqb size g.size ∷ same_list digest g.digest ∷ []) ≡ b → cond b (Gives g) (Refused Differs) ≡ Gives f → (Sure g ≡ Sure f) × (size ≡ f.size) × (digest ≡ f.digest)
    at true i u =
        let h = each _ (is_true (all (eqb size g.size ∷ same_list digest g.digest ∷ [])) i) in
        let same : g ≡ f = gives_same g f u in
        (ap Sure same, eqb→eq size g.size h.0 ∙ ap (λ (y : File). y.size) same, bytes.equal digest g.digest h.1.0 ∙ ap (λ (y : File). y.digest) same)
    at false i u = absurd (gives (Refused Differs) u)
checked-sure size digest Missing f e = absurd (gives (told Missing) e)
checked-sure size digest Ended f e = absurd (gives (told Ended) e)
checked-sure size digest Stale f e = absurd (gives (told Stale) e)
checked-sure size digest (Gap r) f e = absurd (gives (told (Gap r)) e)

whole : (w : World) (first : Root) (d : Device) → Inv w first d → Whole w first d
whole w first d v = record {
  rooted = v.chain;
  found = backed w first d v;
  asked = λ path f e. backed w first d v path f (told-sure (look w.digest d path) f e);
  installed = λ path size digest f e. let s = checked-sure size digest (look w.digest d path) f e in (backed w first d v path f s.0, s.1, s.2);
}

pub main : Main
main = record {
  whole = λ w r es a. whole w r _ (by-reached w r (run-reached w r es _ a (made refl)));
  reached = λ w r d h. whole w r d (by-reached w r h);
  runs = λ w r es a. run-reached w r es _ a (made refl);
}
