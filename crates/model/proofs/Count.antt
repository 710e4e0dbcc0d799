-- Counting different keys. Assumes nothing.
use Rattle.std.proofs.Common.{◌≡◌, suc, ◌+◌, ◌≤◌, Bool, true, false, cond, not, T, ◌⊎◌, List, [], ◌∷◌, length, filter, sym, refl, ap, ◌∙◌, subst, inl, inr, arith, le→leb, leb→le}
use mathlib.Core.List.{Memᴰ}
use Rattle.model.specs.Metadata.{Key, Quorum}
use Rattle.model.specs.Same.{same_list}
use Rattle.model.specs.Quorums.{is_in, once, among, counted, enough}
use Rattle.model.specs.World.{Different}
use Rattle.model.specs.Meanings.{Meets, Counts}
use Rattle.model.proofs.Facts.{is_true, is_false, Decides}
use Rattle.model.proofs.Same.{tells, bytes}
use Rattle.model.proofs.ListFacts.{any-is, is_any, kept_in, in_kept, kept-differ}

pub in_list : (k : Key) (ks : List Key) → Decides (is_in k ks) (Memᴰ k ks)
in_list k ks = (
  (λ t. let h = any-is (λ (y : Key). k ≡ y) (same_list k) (tells same_list bytes k) ks t in subst (λ (y : Key). Memᴰ y ks) (sym h.2) h.1),
  (λ m. is_any (λ (y : Key). k ≡ y) (same_list k) (tells same_list bytes k) ks k m refl),
)

-- EACH KEY ONCE

pub once-in : (k : Key) (ks : List Key) → Memᴰ k (once ks) → Memᴰ k ks
once-in k [] m = m
once-in k (x ∷ xs) m = at (is_in x xs) m (once-in k xs)
  where
    here : Memᴰ k (x ∷ once xs) → (Memᴰ k (once xs) → Memᴰ k xs) → Memᴰ k (x ∷ xs)
    here (Memᴰ.head e) go = Memᴰ.head e
    here (Memᴰ.tail n) go = Memᴰ.tail (go n)

    at : (b : Bool) → Memᴰ k (cond b (once xs) (x ∷ once xs)) → (Memᴰ k (once xs) → Memᴰ k xs) → Memᴰ k (x ∷ xs)
    at true n go = Memᴰ.tail (go n)
    at false n go = here n go

pub in-once : (k : Key) (ks : List Key) → Memᴰ k ks → Memᴰ k (once ks)
in-once k [] m = m
in-once k (x ∷ xs) m = at (is_in x xs) refl m (in-once k xs)
  where
    there : T (is_in x xs) → Memᴰ k (x ∷ xs) → Memᴰ k xs
    there t (Memᴰ.head e) = subst (λ (y : Key). Memᴰ y xs) (sym e) ((in_list x xs).0 t)
    there t (Memᴰ.tail n) = n

    here : Memᴰ k (x ∷ xs) → (Memᴰ k xs → Memᴰ k (once xs)) → Memᴰ k (x ∷ once xs)
    here (Memᴰ.head e) go = Memᴰ.head e
    here (Memᴰ.tail n) go = Memᴰ.tail (go n)

    at : (b : Bool) → is_in x xs ≡ b → Memᴰ k (x ∷ xs) → (Memᴰ k xs → Memᴰ k (once xs)) → Memᴰ k (cond b (once xs) (x ∷ once xs))
    at true h n go = go (there (is_true (is_in x xs) h) n)
    at false h n go = here n go

pub once-differ : (ks : List Key) → Different (once ks)
once-differ [] = tt
once-differ (x ∷ xs) = at (is_in x xs) refl (once-differ xs)
  where
    at : (b : Bool) → is_in x xs ≡ b → Different (once xs) → Different (cond b (once xs) (x ∷ once xs))
    at true h d = d
    at false h d = ((λ y m e. is_false (is_in x xs) h ((in_list x xs).1 (subst (λ (z : Key). Memᴰ z xs) e (once-in y xs m)))), d)

pub once-short : (ks : List Key) → length (once ks) ≤ length ks
once-short [] = omega arith
once-short (x ∷ xs) = at (is_in x xs) (once-short xs)
  where
    at : (b : Bool) → length (once xs) ≤ length xs → length (cond b (once xs) (x ∷ once xs)) ≤ length (x ∷ xs)
    at true h = omega (arith, h)
    at false h = omega (arith, h)

-- WHAT IS COUNTED

pub counts : (q : Quorum) (signers : List Key) → Counts q signers (counted q signers)
counts q signers = record {
  differ = kept-differ (λ (k : Key). k) (λ k. is_in k signers) (once q.keys) (once-differ q.keys);
  ours = λ k m. let h = kept_in (λ k. is_in k signers) (once q.keys) k m in (once-in k q.keys h.0, (in_list k signers).0 h.1);
  each = λ k m n. in_kept (λ k. is_in k signers) (once q.keys) k (in-once k q.keys m) ((in_list k signers).1 n);
}

-- a list without the first place of a key
abbrev less : Key → List Key → List Key
less k [] = []
less k (y ∷ ys) = cond (same_list k y) ys (y ∷ less k ys)

less-length : (k : Key) (ys : List Key) → Memᴰ k ys → length ys ≡ suc (length (less k ys))
less-length k [] m = elim m [ ]
less-length k (y ∷ ys) m = at (same_list k y) refl m (less-length k ys)
  where
    there : same_list k y ≡ false → Memᴰ k (y ∷ ys) → Memᴰ k ys
    there h (Memᴰ.head e) = absurd (is_false (same_list k y) h ((tells same_list bytes k y).1 e))
    there h (Memᴰ.tail n) = n

    at : (b : Bool) → same_list k y ≡ b → Memᴰ k (y ∷ ys) → (Memᴰ k ys → length ys ≡ suc (length (less k ys))) → length (y ∷ ys) ≡ suc (length (cond b ys (y ∷ less k ys)))
    at true h n go = refl
    at false h n go = ap suc (go (there h n))

less-in : (k x : Key) (ys : List Key) → Memᴰ x ys → ¬ (x ≡ k) → Memᴰ x (less k ys)
less-in k x [] m n = m
less-in k x (y ∷ ys) m n = at (same_list k y) refl m (λ u. less-in k x ys u n)
  where
    there : same_list k y ≡ true → Memᴰ x (y ∷ ys) → Memᴰ x ys
    there h (Memᴰ.head e) = absurd (n (e ∙ sym ((tells same_list bytes k y).0 (is_true (same_list k y) h))))
    there h (Memᴰ.tail u) = u

    here : Memᴰ x (y ∷ ys) → (Memᴰ x ys → Memᴰ x (less k ys)) → Memᴰ x (y ∷ less k ys)
    here (Memᴰ.head e) go = Memᴰ.head e
    here (Memᴰ.tail u) go = Memᴰ.tail (go u)

    at : (b : Bool) → same_list k y ≡ b → Memᴰ x (y ∷ ys) → (Memᴰ x ys → Memᴰ x (less k ys)) → Memᴰ x (cond b ys (y ∷ less k ys))
    at true h u go = there h u
    at false h u go = here u go

-- different keys of a list are no more than it has
pub no_more : (xs ys : List Key) → Different xs → ((k : Key) → Memᴰ k xs → Memᴰ k ys) → length xs ≤ length ys
no_more [] ys d h = omega arith
no_more (x ∷ xs) ys d h =
    let rest = no_more xs (less x ys) d.1 (λ k m. less-in x k ys (h k (Memᴰ.tail m)) (d.0 k m)) in
    omega (arith, rest, less-length x ys (h x (Memᴰ.head refl)))

pub enough-means : (q : Quorum) (signers : List Key) → Decides (enough q signers) (Meets q signers)
enough-means q signers = let c = counts q signers in (
  (λ t. record { by = counted q signers; differ = c.differ; ours = λ k m. (c.ours k m).0; theirs = λ k m. (c.ours k m).1; many = leb→le q.threshold (length (counted q signers)) t }),
  (λ m. le→leb q.threshold (length (counted q signers)) (omega (arith, m.many, no_more m.by (counted q signers) m.differ (λ k i. c.each k (m.ours k i) (m.theirs k i))))),
)

-- how many of a list are in two others
pub overlap : (a b whole ks : List Key) → ((k : Key) → Memᴰ k ks → Memᴰ k whole) →
    length (among a ks) + length (among b ks) ≤ length (among (among b whole) (among a ks)) + length ks
overlap a b whole [] sub = omega arith
overlap a b whole (x ∷ xs) sub =
    at (is_in x a) (is_in x b) (is_in x (among b whole)) refl
    (λ h. (in_list x (among b whole)).1 (in_kept (λ k. is_in k b) whole x (sub x (Memᴰ.head refl)) h))
    (overlap a b whole xs (λ k m. sub k (Memᴰ.tail m)))
  where
    step : (r : Bool) → is_in x (among b whole) ≡ r →
        length (among (among b whole) (x ∷ among a xs)) ≡ cond r 1 0 + length (among (among b whole) (among a xs))
    step true e = rw e (omega arith)
    step false e = rw e (omega arith)

    at : (p q r : Bool) → is_in x (among b whole) ≡ r → (T q → T r) →
        length (among a xs) + length (among b xs) ≤ length (among (among b whole) (among a xs)) + length xs →
        length (cond p (x ∷ among a xs) (among a xs)) + length (cond q (x ∷ among b xs) (among b xs)) ≤
        length (among (among b whole) (cond p (x ∷ among a xs) (among a xs))) + length (x ∷ xs)
    at false false r e h le = omega arith
    at false true r e h le = omega arith
    at true false r e h le = omega (arith, step r e)
    at true true true e h le = omega (arith, step true e)
    at true true false e h le = absurd (h tt)

-- some key passes a test, or all are left by the other
pub some-or-all : (test : Key → Bool) (ks : List Key) → ((k : Key) × Memᴰ k ks × T (test k)) ⊎ (length ks ≤ length (filter (λ k. not (test k)) ks))
some-or-all test [] = inr (omega arith)
some-or-all test (x ∷ xs) = at (test x) refl (some-or-all test xs)
  where
    at : (b : Bool) → test x ≡ b → ((k : Key) × Memᴰ k xs × T (test k)) ⊎ (length xs ≤ length (filter (λ k. not (test k)) xs)) →
        ((k : Key) × Memᴰ k (x ∷ xs) × T (test k)) ⊎ (length (x ∷ xs) ≤ length (cond (not b) (x ∷ filter (λ k. not (test k)) xs) (filter (λ k. not (test k)) xs)))
    at true h m = inl (x, Memᴰ.head refl, is_true (test x) h)
    at false h (inl m) = inl (m.0, Memᴰ.tail m.1, m.2)
    at false h (inr le) = inr (omega arith)
