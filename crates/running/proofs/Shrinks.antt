-- What is left behind an item is shorter than what the item was read from. Assumes nothing.
use Rattle.std.proofs.Common.{◌≡◌, ℕ, zero, suc, ◌*◌, ◌^◌, ◌<◌, ◌≤◌, Bool, true, false, cond, eqb, ltb, List, ◌∷◌, length, take, drop, Some, None, Ok, Err, Option, Result, ap, arith}
use Rattle.std.specs.Simd.{first_chunks}
use Rattle.std.specs.List.{flat_map, AllByRecursion}
use Rattle.std.proofs.lemmas.List.{length-drop}
use Rattle.std.proofs.lemmas.Bool.{ltb-false}
use Rattle.model.specs.declared.fault.Fault.{Fault}
use Rattle.model.specs.declared.fault.Fault.TheVariants.{Malformed, OutOfRange, OutOfOrder}
use Rattle.wire.specs.Formats.{Format, and_then, pair, only, mapped}
use Rattle.wire.specs.Numbers.{block, recoded, big_endian, bytes_of, number}
use Rattle.wire.specs.Tables.{follows, read_rising, table}
use Rattle.wire.specs.Leaves.{path, steps, steps_of, within}
use Rattle.wire.proofs.Laws.{not-ok, same_ok, inv-then, inv-only, inv-unless}
use Rattle.signature.specs.Signatures.{signature, signatures}
use Rattle.stream.specs.Items.{Item, Offers, Begins, Asks, Installs, sized_by, offer_in, ask_in, install_in, item_in}

-- of a reader: what is left is not longer
abbrev pub Shrinks : {A : Type 0} → (List ℕ → Result (A × List ℕ) Fault) → Type 0
Shrinks {A} read = (bs : List ℕ) (y : A × List ℕ) → read bs ≡ Ok y → length y.1 ≤ length bs

-- one reader, and then what is made of its answer
then-shrinks : {A B : Type 0} (read : List ℕ → Result (A × List ℕ) Fault) (next : A × List ℕ → Result (B × List ℕ) Fault) → Shrinks read → ((p : A × List ℕ) (y : B × List ℕ) → next p ≡ Ok y → length y.1 ≤ length p.1) →
    Shrinks (λ bs. and_then (read bs) next)
then-shrinks read next F G bs y h =
    let i = inv-then (read bs) next y h in
    let a = F bs i.0 i.1 in
    let b = G i.0 y i.2 in
    omega (arith, a, b)

gives : {A B : Type 0} (to : A → B) (p : A × List ℕ) (y : B × List ℕ) → ◌≡◌ {A = Result (B × List ℕ) Fault} (Ok (to p.0, p.1)) (Ok y) → length y.1 ≤ length p.1
gives {A} {B} to p y h = let e = ap (λ (q : B × List ℕ). length q.1) (same_ok h) in omega (arith, e)

-- the same, of a format
record Shrinking {A : Type 0} (f : Format A) : Type 0 where
  pub shrinks : Shrinks f.read

shrinks-block : (n : ℕ) → Shrinking (block n)
shrinks-block n = record {
  shrinks = λ bs y h.
      let j = inv-unless (ltb (length bs) n) Malformed (take n bs, drop n bs) y h in
      let e = ap (λ (q : List ℕ × List ℕ). length q.1) j.1 in
      let d = length-drop n bs in
      omega (arith, e, d);
}

shrinks-recoded : {A : Type 0} (n : ℕ) (to : List ℕ → A) (from : A → List ℕ) (Fits : A → Type 0) → Shrinking (recoded n to from Fits)
shrinks-recoded n to from Fits = record { shrinks = then-shrinks (block n).read (λ p. Ok (to p.0, p.1)) (shrinks-block n).shrinks (gives to) }

shrinks-number : (n : ℕ) → Shrinking (number n)
shrinks-number n = shrinks-recoded n big_endian (bytes_of n) (λ x. x < 256 ^ n)

shrinks-only : {A : Type 0} (f : Format A) (test : A → Bool) (e : Fault) → Shrinking f → Shrinking (only f test e)
shrinks-only {A} f test e F = record {
  shrinks = then-shrinks f.read (λ p. cond (test p.0) (Ok p) (Err e)) F.shrinks
      (λ p y h. let j = inv-only (test p.0) e p y h in let s = ap (λ (q : A × List ℕ). length q.1) j.1 in omega (arith, s));
}

shrinks-pair : {A B : Type 0} (f : Format A) (g : A → Format B) → Shrinking f → ((x : A) → Shrinking (g x)) → Shrinking (pair f g)
shrinks-pair f g F G = record {
  shrinks = then-shrinks f.read (λ p. and_then ((g p.0).read p.1) (λ q. Ok ((p.0, q.0), q.1))) F.shrinks
      (λ p y h. then-shrinks (g p.0).read (λ q. Ok ((p.0, q.0), q.1)) (G p.0).shrinks (gives (λ x. (p.0, x))) p.1 y h);
}

shrinks-mapped : {A B : Type 0} (f : Format A) (to : A → B) (from : B → A) → Shrinking f → Shrinking (mapped f to from)
shrinks-mapped f to from F = record { shrinks = then-shrinks f.read (λ p. Ok (to p.0, p.1)) F.shrinks (gives to) }

-- a table whose items may stand in any order
module _ {A : Type 0} (f : Format A) (F : Shrinking f) where
  abbrev next : Option A → ℕ → A × List ℕ → Result (List A × List ℕ) Fault
  next last n p = cond (follows (λ _ _. true) last p.0) (and_then (read_rising f (λ x. x) (λ _ _. true) (Some p.0) n p.1) (λ q. Ok (p.0 ∷ q.0, q.1))) (Err OutOfOrder)

  rising : (n : ℕ) (last : Option A) → Shrinks (read_rising f (λ x. x) (λ _ _. true) last n)
  rising zero last bs y h = let e = ap (λ (q : List A × List ℕ). length q.1) (same_ok h) in omega (arith, e)
  rising (suc n) last bs y h =
      then-shrinks f.read (next last n) F.shrinks (λ p z k. at (follows (λ _ _. true) last p.0) p z k (rising n (Some p.0))) bs y h
    where
      at : (b : Bool) (p : A × List ℕ) (z : List A × List ℕ) → cond b (and_then (read_rising f (λ x. x) (λ _ _. true) (Some p.0) n p.1) (λ q. Ok (p.0 ∷ q.0, q.1))) (Err OutOfOrder) ≡ Ok z →
          Shrinks (read_rising f (λ x. x) (λ _ _. true) (Some p.0) n) → length z.1 ≤ length p.1
      at true p z k more = then-shrinks (read_rising f (λ x. x) (λ _ _. true) (Some p.0) n) (λ q. Ok (p.0 ∷ q.0, q.1)) more (gives (λ l. p.0 ∷ l)) p.1 z k
      at false p z k more = absurd (not-ok k)

  shrinks-table : (n : ℕ) → Shrinking (table f n)
  shrinks-table n = record { shrinks = rising n None }

shrinks-signatures : Shrinking signatures
shrinks-signatures = shrinks-mapped _ _ _ (shrinks-pair _ _ (shrinks-number 1) (λ n. shrinks-table signature (shrinks-mapped _ _ _ (shrinks-pair _ _ (shrinks-block 32) (λ _. shrinks-block 64))) n))

shrinks-steps : (n : ℕ) → Shrinking (steps n)
shrinks-steps n = shrinks-recoded (n * 2) (λ bs. steps_of (first_chunks 2 n bs)) (λ ss. flat_map (bytes_of 2) ss) (λ ss. (length ss ≡ n) × AllByRecursion (λ s. s < 256 ^ 2) ss)

shrinks-path : Shrinking path
shrinks-path = shrinks-mapped (pair (only (number 1) (within 1 8) OutOfRange) steps) (λ x. x.1) (λ ss. (length ss, ss)) (shrinks-pair _ _ (shrinks-only (number 1) (within 1 8) OutOfRange (shrinks-number 1)) shrinks-steps)

shrinks_sized : (n : ℕ) → Shrinks (sized_by n)
shrinks_sized n = then-shrinks (number n).read (λ l. (block l.0).read l.1) (shrinks-number n).shrinks (λ p y h. (shrinks-block p.0).shrinks p.1 y h)

shrinks-offer : Shrinks offer_in
shrinks-offer = then-shrinks (sized_by 4) (λ p. and_then (signatures.read p.1) (λ s. Ok (Offers p.0 s.0, s.1))) (shrinks_sized 4)
    (λ p y h. then-shrinks signatures.read (λ s. Ok (Offers p.0 s.0, s.1)) shrinks-signatures.shrinks (gives (Offers p.0)) p.1 y h)

shrinks-install : Shrinks install_in
shrinks-install = then-shrinks path.read (λ p. and_then (sized_by 8 p.1) (λ f. Ok (Installs p.0 f.0, f.1))) shrinks-path.shrinks
    (λ p y h. then-shrinks (sized_by 8) (λ f. Ok (Installs p.0 f.0, f.1)) (shrinks_sized 8) (gives (Installs p.0)) p.1 y h)

-- what stands behind the kind byte
abbrev behind : ℕ × List ℕ → Result (Item × List ℕ) Fault
behind k =
    cond (eqb k.0 16) (offer_in k.1)
    (cond (eqb k.0 17) (and_then ((number 8).read k.1) (λ d. Ok (Begins d.0, d.1)))
    (cond (eqb k.0 18) (ask_in k.1)
    (cond (eqb k.0 19) (install_in k.1) (Err Malformed))))

shrinks-behind : (k : ℕ × List ℕ) (y : Item × List ℕ) → behind k ≡ Ok y → length y.1 ≤ length k.1
shrinks-behind k y = at (eqb k.0 16) (eqb k.0 17) (eqb k.0 18) (eqb k.0 19)
  where
    at : (a b c d : Bool) → cond a (offer_in k.1) (cond b (and_then ((number 8).read k.1) (λ d. Ok (Begins d.0, d.1))) (cond c (ask_in k.1) (cond d (install_in k.1) (Err Malformed)))) ≡ Ok y → length y.1 ≤ length k.1
    at true b c d h = shrinks-offer k.1 y h
    at false true c d h = then-shrinks (number 8).read (λ d. Ok (Begins d.0, d.1)) (shrinks-number 8).shrinks (gives Begins) k.1 y h
    at false false true d h = then-shrinks path.read (λ p. Ok (Asks p.0, p.1)) shrinks-path.shrinks (gives Asks) k.1 y h
    at false false false true h = shrinks-install k.1 y h
    at false false false false h = absurd (not-ok h)

-- an item has its kind byte at least
pub item-shorter : (bs rest : List ℕ) (x : Item) → item_in bs ≡ Ok (x, rest) → length rest < length bs
item-shorter bs rest x h =
    let i = inv-then ((number 1).read bs) behind (x, rest) h in
    let j = inv-then ((block 1).read bs) (λ p. Ok (big_endian p.0, p.1)) i.0 i.1 in
    let k = inv-unless (ltb (length bs) 1) Malformed (take 1 bs, drop 1 bs) j.0 j.1 in
    let some = ltb-false (length bs) 1 k.0 in
    let e = ap (λ (q : List ℕ × List ℕ). length q.1) k.1 in
    let f = ap (λ (q : ℕ × List ℕ). length q.1) (same_ok j.2) in
    let d = length-drop 1 bs in
    let b = shrinks-behind i.0 (x, rest) i.2 in
    omega (arith, some, e, f, d, b)
