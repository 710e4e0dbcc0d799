-- One signature for each key that has a right one. Assumes nothing.
use Rattle.std.proofs.Common.{◌≡◌, ℕ, Bool, true, false, cond, ◌&&◌, ◌||◌, T, List, [], ◌∷◌, ◌++◌, map, length, is_some, Some, None, filter, Option, sym, refl, ap, ◌∙◌, subst, append-nil, arith}
use mathlib.Core.List.{Memᴰ}
use Rattle.std.specs.Option.{option_to_list}
use Rattle.std.proofs.lemmas.List.{length-map, nil_from_length}
use Rattle.model.specs.Lists.{first, First}
use Rattle.model.specs.Metadata.{Key, Quorum}
use Rattle.model.specs.Quorums.{is_in, once, among, counted, enough}
use Rattle.model.specs.Same.{same_list}
use Rattle.model.proofs.Count.{counts, no_more, enough-means}
use Rattle.model.proofs.Facts.{and_l, and_r, both_hold, is_true, Decides}
use Rattle.model.proofs.ListFacts.{first-is, first_found}
use Rattle.model.proofs.Same.{tells, bytes}
use Rattle.signature.specs.Counting.{Chosen, Backed, OneKeyOnce}
use Rattle.signature.specs.Signatures.{Signature, Accepts, is_right, right_of, signers_in}

module _ (accepts : Accepts) (m : List ℕ) (ss : List Signature) where
  abbrev pub first_of : Key → Option Signature
  first_of k = first (right_of accepts m k) ss

  -- the first right signature of each key that has one
  abbrev pub firsts : List Key → List Signature
  firsts [] = []
  firsts (k ∷ ks) = option_to_list (first_of k) ++ firsts ks

  -- what is found is of the key asked for
  found-key : (k : Key) (s : Signature) → first_of k ≡ Some s → k ≡ s.key
  found-key k s e = bytes.equal k s.key (and_l (same_list k s.key) (is_right accepts m s) (first_found (right_of accepts m k) ss s e).1)

-- a key is a signer exactly if it has a first right signature
signer-first : (accepts : Accepts) (m : List ℕ) (ss : List Signature) (k : Key) → is_in k (signers_in accepts m ss) ≡ is_some (first (right_of accepts m k) ss)
signer-first accepts m [] k = refl
signer-first accepts m (s ∷ ss) k = at (is_right accepts m s) (same_list k s.key) refl (signer-first accepts m ss k)
  where
    at : (a b : Bool) → same_list k s.key ≡ b → is_in k (signers_in accepts m ss) ≡ is_some (first (right_of accepts m k) ss) →
        is_in k (map (λ (t : Signature). t.key) (cond a (s ∷ filter (is_right accepts m) ss) (filter (is_right accepts m) ss))) ≡ is_some (cond (b && a) (Some s) (first (right_of accepts m k) ss))
    at true true h e = ap (λ b. b || is_in k (signers_in accepts m ss)) h
    at true false h e = ap (λ b. b || is_in k (signers_in accepts m ss)) h ∙ e
    at false true h e = e
    at false false h e = e

module _ (accepts : Accepts) (m : List ℕ) (ss : List Signature) where
  firsts-keys : (ks : List Key) → map (λ (s : Signature). s.key) (firsts accepts m ss ks) ≡ among (signers_in accepts m ss) ks
  firsts-keys [] = refl
  firsts-keys (k ∷ ks) = at (first_of accepts m ss k) refl (is_in k (signers_in accepts m ss)) (signer-first accepts m ss k) (firsts-keys ks)
    where
      at : (o : Option Signature) → first_of accepts m ss k ≡ o → (b : Bool) → b ≡ is_some (first_of accepts m ss k) → map (λ (s : Signature). s.key) (firsts accepts m ss ks) ≡ among (signers_in accepts m ss) ks →
          map (λ (s : Signature). s.key) (option_to_list o ++ firsts accepts m ss ks) ≡ cond b (k ∷ among (signers_in accepts m ss) ks) (among (signers_in accepts m ss) ks)
      at None h true e go = absurd (let z : ◌≡◌ {A = ℕ} 0 1 = cc (ap (λ (o : Option Signature). is_some o) h, e) in omega arith)
      at None h false e go = go
      at (Some s) h true e go = λ i. sym (found-key accepts m ss k s h) i ∷ go i
      at (Some s) h false e go = absurd (let z : ◌≡◌ {A = ℕ} 0 1 = cc (ap (λ (o : Option Signature). is_some o) h, e) in omega arith)

  -- right of the key k: of the same key as s, which is of k
  decided : (k : Key) (s t : Signature) → k ≡ s.key → Decides (right_of accepts m k t) ((t.key ≡ s.key) × T (is_right accepts m t))
  decided k s t e = (
    (λ u. (sym (bytes.equal k t.key (and_l (same_list k t.key) (is_right accepts m t) u)) ∙ e, and_r (same_list k t.key) (is_right accepts m t) u)),
    (λ p. both_hold (same_list k t.key) (is_right accepts m t) ((tells same_list bytes k t.key).1 (e ∙ sym p.0)) p.1),
  )

  firsts-first : (ks : List Key) (s : Signature) → Memᴰ s (firsts accepts m ss ks) → First (λ t. (t.key ≡ s.key) × T (is_right accepts m t)) ss s
  firsts-first [] s i = elim i [ ]
  firsts-first (k ∷ ks) s i = at (first_of accepts m ss k) refl i (firsts-first ks s)
    where
      here : first_of accepts m ss k ≡ Some s → First (λ t. (t.key ≡ s.key) × T (is_right accepts m t)) ss s
      here h = first-is (λ t. (t.key ≡ s.key) × T (is_right accepts m t)) (right_of accepts m k) (λ t. decided k s t (found-key accepts m ss k s h)) ss s h

      one : (t : Signature) → first_of accepts m ss k ≡ Some t → Memᴰ s (t ∷ firsts accepts m ss ks) → (Memᴰ s (firsts accepts m ss ks) → First (λ t. (t.key ≡ s.key) × T (is_right accepts m t)) ss s) →
          First (λ t. (t.key ≡ s.key) × T (is_right accepts m t)) ss s
      one t h (Memᴰ.head e) go = here (h ∙ ap (λ (u : Signature). Some u) (sym e))
      one t h (Memᴰ.tail n) go = go n

      at : (o : Option Signature) → first_of accepts m ss k ≡ o → Memᴰ s (option_to_list o ++ firsts accepts m ss ks) → (Memᴰ s (firsts accepts m ss ks) → First (λ t. (t.key ≡ s.key) × T (is_right accepts m t)) ss s) →
          First (λ t. (t.key ≡ s.key) × T (is_right accepts m t)) ss s
      at None h n go = go n
      at (Some t) h n go = one t h n go

  pub chosen : (q : Quorum) → Chosen accepts m q ss (firsts accepts m ss (once q.keys))
  chosen q = record { keys = firsts-keys (once q.keys); firsts = firsts-first (once q.keys) }

  pub firsts-over : (q : Quorum) (keys : List Key) (ts : List Signature) → length keys ≡ 0 → ts ++ firsts accepts m ss (once keys) ≡ firsts accepts m ss (once q.keys) → Chosen accepts m q ss ts
  firsts-over q keys ts l inv =
      subst (Chosen accepts m q ss)
      (sym (sym (append-nil ts) ∙ ap (λ ks. ts ++ firsts accepts m ss (once ks)) (sym (nil_from_length keys l)) ∙ inv))
      (chosen q)

  pub chosen-many : (q : Quorum) (ts : List Signature) → Chosen accepts m q ss ts → length ts ≡ length (counted q (signers_in accepts m ss))
  chosen-many q ts c = sym (length-map ts (λ (s : Signature). s.key)) ∙ ap length c.keys

-- WHO SIGNED

-- what holds of the key of each right signature holds of the signers
signers-all : (accepts : Accepts) (m : List ℕ) (P : Key → Type 0) (ss : List Signature) → ((s : Signature) → Memᴰ s ss → T (is_right accepts m s) → P s.key) → (k : Key) → Memᴰ k (signers_in accepts m ss) → P k
signers-all accepts m P [] h k i = elim i [ ]
signers-all accepts m P (s ∷ ss) h k i = at (is_right accepts m s) refl i (signers-all accepts m P ss (λ t n. h t (Memᴰ.tail n)) k)
  where
    one : T (is_right accepts m s) → Memᴰ k (s.key ∷ signers_in accepts m ss) → (Memᴰ k (signers_in accepts m ss) → P k) → P k
    one t (Memᴰ.head e) go = subst P (sym e) (h s (Memᴰ.head refl) t)
    one t (Memᴰ.tail n) go = go n

    at : (b : Bool) → is_right accepts m s ≡ b → Memᴰ k (map (λ (t : Signature). t.key) (cond b (s ∷ filter (is_right accepts m) ss) (filter (is_right accepts m) ss))) → (Memᴰ k (signers_in accepts m ss) → P k) → P k
    at true e n go = one (is_true (is_right accepts m s) e) n go
    at false e n go = go n

-- by a scheme's law, every signer signed
pub signers-signed : (accepts : Accepts) (signed : Key → List ℕ → Bool) → ((k p s : List ℕ) → T (accepts k p s) → T (signed k p)) →
    (m : List ℕ) (ss : List Signature) (k : Key) → Memᴰ k (signers_in accepts m ss) → T (signed k m)
signers-signed accepts signed sound m ss k i = signers-all accepts m (λ j. T (signed j m)) ss (λ s n t. sound s.key m s.bytes t) k i

pub enough-backed : (accepts : Accepts) (signed : Key → List ℕ → Bool) → ((k p s : List ℕ) → T (accepts k p s) → T (signed k p)) →
    (m : List ℕ) (ss : List Signature) (q : Quorum) → T (enough q (signers_in accepts m ss)) → Backed signed m q
enough-backed accepts signed sound m ss q t =
    let e = (enough-means q (signers_in accepts m ss)).0 t in
    record { by = e.by; differ = e.differ; ours = e.ours; many = e.many; each = λ k i. signers-signed accepts signed sound m ss k (e.theirs k i) }

pub one-key-once : OneKeyOnce
one-key-once accepts m q ss k same =
    let c = counts q (signers_in accepts m ss) in
    no_more (counted q (signers_in accepts m ss)) (k ∷ []) c.differ
    (λ j i. Memᴰ.head (signers-all accepts m (λ l. l ≡ k) ss (λ s n t. same s n) j (c.ours j i).1))
