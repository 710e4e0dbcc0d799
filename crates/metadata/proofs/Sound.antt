-- Well-formed papers are sound. Assumes nothing.
use Rattle.std.proofs.Common.{◌≡◌, ℕ, ◌<◌, ◌≤◌, Bool, true, false, cond, not, eqb, ltb, leb, ◌⊎◌, List, [], ◌∷◌, length, Some, None, Option, sym, refl, ap, ◌∙◌, subst, inl, inr, true≢false, arith}
use mathlib.Core.List.{Memᴰ}
use Rattle.std.specs.List.{AllByRecursion}
use Rattle.std.proofs.lemmas.Bool.{eqb-true, eqb-false, eq-eqb, ne_eqb, ltb-true, lt-ltb, leb-true, and_parts, not-true}
use Rattle.model.specs.Lists.{DifferBy}
use Rattle.model.specs.Metadata.{Key, Quorum, Meta, File, Delegation, ARoot, ATimestamp, ASnapshot, ATargets}
use Rattle.wire.specs.Formats.{Format}
use Rattle.wire.specs.Numbers.{block}
use Rattle.wire.specs.Tables.{follows, rises}
use Rattle.wire.specs.Leaves.{below, quorum}
use Rattle.metadata.specs.Papers.{meta, file, delegation}
use Rattle.metadata.specs.OneForm.{SoundQuorum, WellFormedSound}

-- ORDERS

false-true : {A : Type 0} → false ≡ true → A
false-true e = absurd (true≢false (sym e))

-- the first place decides
heads : (x y : ℕ) (rest : Bool) → cond (eqb x y) rest (ltb x y) ≡ true → ((x ≡ y) × (rest ≡ true)) ⊎ (x < y)
heads x y rest h = at (eqb x y) refl h
  where
    at : (b : Bool) → eqb x y ≡ b → cond b rest (ltb x y) ≡ true → ((x ≡ y) × (rest ≡ true)) ⊎ (x < y)
    at true e u = inl (eqb-true x y e, u)
    at false e u = inr (ltb-true x y u)

un-heads : (x y : ℕ) (rest : Bool) → ((x ≡ y) × (rest ≡ true)) ⊎ (x < y) → cond (eqb x y) rest (ltb x y) ≡ true
un-heads x y rest (inl h) = ap (λ b. cond b rest (ltb x y)) (eq-eqb x y h.0) ∙ h.1
un-heads x y rest (inr h) = ap (λ b. cond b rest (ltb x y)) (ne_eqb x y (λ e. omega (arith, e, h))) ∙ lt-ltb x y h

below_self : (a : List ℕ) → below a a ≡ true → ⊥
below_self [] h = false-true h
below_self (x ∷ xs) h = at (heads x x (below xs xs) h) (below_self xs)
  where
    at : ((x ≡ x) × (below xs xs ≡ true)) ⊎ (x < x) → (below xs xs ≡ true → ⊥) → ⊥
    at (inl e) go = go e.1
    at (inr l) go = omega (arith, l)

below-trans : (a b c : List ℕ) → below a b ≡ true → below b c ≡ true → below a c ≡ true
below-trans [] [] c h k = false-true h
below-trans [] (y ∷ ys) [] h k = false-true k
below-trans [] (y ∷ ys) (z ∷ zs) h k = refl
below-trans (x ∷ xs) [] c h k = false-true h
below-trans (x ∷ xs) (y ∷ ys) [] h k = false-true k
below-trans (x ∷ xs) (y ∷ ys) (z ∷ zs) h k = un-heads x z (below xs zs) (at (heads x y (below xs ys) h) (heads y z (below ys zs) k) (below-trans xs ys zs))
  where
    at : ((x ≡ y) × (below xs ys ≡ true)) ⊎ (x < y) → ((y ≡ z) × (below ys zs ≡ true)) ⊎ (y < z) → (below xs ys ≡ true → below ys zs ≡ true → below xs zs ≡ true) →
        ((x ≡ z) × (below xs zs ≡ true)) ⊎ (x < z)
    at (inl e) (inl f) go = inl (e.0 ∙ f.0, go e.1 f.1)
    at (inl e) (inr l) go = inr (omega (arith, e.0, l))
    at (inr l) (inl f) go = inr (omega (arith, f.0, l))
    at (inr l) (inr m) go = inr (omega (arith, l, m))

-- what rises by a strict order differs
module _ {A K : Type 0} (f : Format A) (key : A → K) (lt : K → K → Bool) (self : (k : K) → lt k k ≡ true → ⊥) (trans : (a b c : K) → lt a b ≡ true → lt b c ≡ true → lt a c ≡ true) where
  both : (t u : Bool) → cond t u false ≡ true → (t ≡ true) × (u ≡ true)
  both true u h = (refl, h)
  both false u h = false-true h

  above : (k : K) (xs : List A) → rises f key lt (Some k) xs ≡ true → (y : A) → Memᴰ y xs → lt k (key y) ≡ true
  above k [] h = λ y m. elim m [ ]
  above k (x ∷ xs) h =
      let b = both (lt k (key x)) (rises f key lt (Some (key x)) xs) h in
      at b.0 (above (key x) xs b.1)
    where
      at : lt k (key x) ≡ true → ((y : A) → Memᴰ y xs → lt (key x) (key y) ≡ true) → (y : A) → Memᴰ y (x ∷ xs) → lt k (key y) ≡ true
      at l go y (Memᴰ.head e) = ap (λ (z : A). lt k (key z)) e ∙ l
      at l go y (Memᴰ.tail m) = trans k (key x) (key y) l (go y m)

  differ : (last : Option K) (xs : List A) → rises f key lt last xs ≡ true → DifferBy key xs
  differ last [] h = tt
  differ last (x ∷ xs) h =
      let b = both (follows lt last (key x)) (rises f key lt (Some (key x)) xs) h in
      ((λ y m e. self (key x) (subst (λ (k : K). lt (key x) k ≡ true) e (above (key x) xs b.1 y m))), differ (Some (key x)) xs b.1)

-- PAPERS

less-self : (n : ℕ) → ltb n n ≡ true → ⊥
less-self n h = omega (arith, ltb-true n n h)

less-trans : (a b c : ℕ) → ltb a b ≡ true → ltb b c ≡ true → ltb a c ≡ true
less-trans a b c h k = lt-ltb a c (omega (arith, ltb-true a b h, ltb-true b c k))

positive : (n : ℕ) → not (eqb n 0) ≡ true → 1 ≤ n
positive n h = omega (arith, eqb-false n 0 (not-true (eqb n 0) h))

sound-quorum : (q : Quorum) → quorum.Wf q → SoundQuorum q
sound-quorum q w =
    let t = and_parts (leb 1 q.threshold) (leb q.threshold (length q.keys)) w.1.0.1 in
    record {
      different = differ (block 32) (λ (k : Key). k) below below_self below-trans None q.keys w.1.1.2;
      least = leb-true 1 q.threshold t.0;
      most = leb-true q.threshold (length q.keys) t.1;
    }

all_sound : (bs : List Delegation) → AllByRecursion delegation.Wf bs → (b : Delegation) → Memᴰ b bs → SoundQuorum b.quorum
all_sound [] a = λ b m. elim m [ ]
all_sound (x ∷ xs) a = at (sound-quorum x.quorum a.0.1.0) (all_sound xs a.1)
  where
    at : SoundQuorum x.quorum → ((b : Delegation) → Memᴰ b xs → SoundQuorum b.quorum) → (b : Delegation) → Memᴰ b (x ∷ xs) → SoundQuorum b.quorum
    at s go b (Memᴰ.head e) = subst (λ (z : Delegation). SoundQuorum z.quorum) (sym e) s
    at s go b (Memᴰ.tail m) = go b m

pub sound : WellFormedSound
sound (ARoot r) w = (positive r.version w.0.1, sound-quorum r.root w.1.1.0, sound-quorum r.timestamp w.1.1.1.0, sound-quorum r.snapshot w.1.1.1.1.0, sound-quorum r.top w.1.1.1.1.1)
sound (ATimestamp t) w = (positive t.version w.0.1, positive t.snapshot w.1.1.0.1)
sound (ASnapshot x) w = (positive x.version w.0.1, differ meta (λ (m : Meta). m.role) ltb less-self less-trans None x.metas w.1.1.1.2)
sound (ATargets t) w = (positive t.version w.1.0.1, differ file (λ (f : File). f.path) below below_self below-trans None t.files w.1.1.1.1.0.2, all_sound t.delegations w.1.1.1.1.1.1.1)
