-- What a loop that reads a table keeps, and the laws of tables. Assumes nothing.
use Rattle.std.proofs.Common.{◌≡◌, ℕ, zero, suc, ◌+◌, ◌-◌, ◌*◌, ◌<◌, ◌≤◌, Bool, true, false, cond, ltb, List, [], ◌∷◌, ◌++◌, length, take, drop, length-drop, suc-mul, zero-mul, Some, None, Ok, Err, Option, Result, sym, refl, ap, ◌∙◌, subst, append_assoc, append-nil, arith}
use Rattle.std.specs.List.{flat_map, AllByRecursion}
use Rattle.std.specs.Simd.{first_chunks}
use Rattle.std.proofs.lemmas.Bool.{ltb-false}
use Rattle.model.specs.declared.fault.Fault.{Fault}
use Rattle.model.specs.declared.fault.Fault.TheVariants.{Malformed, OutOfOrder}
use Rattle.wire.specs.Formats.{Format, Lawful, Bytes, and_then}
use Rattle.wire.specs.Numbers.{block}
use Rattle.wire.specs.Tables.{follows, read_rising, rises, rising, if_read, items}
use Rattle.wire.proofs.Laws.{inv-then, inv-unless, same_ok, not-ok}

-- what was read before, and then the rest
abbrev pub extended : {A : Type 0} → List A → Result (List A × List ℕ) Fault → Result (List A × List ℕ) Fault
extended xs r = and_then r (λ q. Ok (xs ++ q.0, q.1))

extended-more : {A : Type 0} (xs : List A) (x : A) (r : Result (List A × List ℕ) Fault) → extended xs (and_then r (λ q. Ok (x ∷ q.0, q.1))) ≡ extended (xs ++ x ∷ []) r
extended-more xs x (Ok q) = ap (λ l. Ok (l, q.1)) (sym (append_assoc xs (x ∷ []) q.0))
extended-more xs x (Err e) = refl

module _ {A K : Type 0} (f : Format A) (key : A → K) (below : K → K → Bool) where
  abbrev Rest : Option K → ℕ → List ℕ → Result (List A × List ℕ) Fault
  Rest = read_rising f key below

  -- what is done with the first item
  abbrev next : Option K → ℕ → A × List ℕ → Result (List A × List ℕ) Fault
  next last n p = cond (follows below last (key p.0)) (and_then (Rest (Some (key p.0)) n p.1) (λ q. Ok (p.0 ∷ q.0, q.1))) (Err OutOfOrder)

  one_left : (xs : List A) (last : Option K) (n i : ℕ) (bs : List ℕ) → i < n → extended xs (Rest last (n - i) bs) ≡ extended xs (and_then (f.read bs) (next last (n - (i + 1))))
  one_left xs last n i bs lt = let one : n - i ≡ suc (n - (i + 1)) = omega arith in ap (λ m. extended xs (Rest last m bs)) one

  pub rising-start : (n : ℕ) (bs : List ℕ) → extended [] (Rest None (n - 0) bs) ≡ Rest None n bs
  rising-start n bs = let same : n - 0 ≡ n = omega arith in ap (λ m. extended [] (Rest None m bs)) same ∙ whole (Rest None n bs)
    where
      whole : (r : Result (List A × List ℕ) Fault) → extended [] r ≡ r
      whole (Ok q) = refl
      whole (Err e) = refl

  pub rising-more : (xs : List A) (last : Option K) (n i : ℕ) (bs after : List ℕ) (x : A) → i < n → f.read bs ≡ Ok (x, after) → follows below last (key x) ≡ true →
      extended (xs ++ x ∷ []) (Rest (Some (key x)) (n - (i + 1)) after) ≡ extended xs (Rest last (n - i) bs)
  rising-more xs last n i bs after x lt e t =
      sym (one_left xs last n i bs lt
      ∙ ap (λ r. extended xs (and_then r (next last (n - (i + 1))))) e
      ∙ ap (λ b. extended xs (cond b (and_then (Rest (Some (key x)) (n - (i + 1)) after) (λ q. Ok (x ∷ q.0, q.1))) (Err OutOfOrder))) t
      ∙ extended-more xs x (Rest (Some (key x)) (n - (i + 1)) after))

  pub rising-fault : (xs : List A) (last : Option K) (n i : ℕ) (bs : List ℕ) (e : Fault) → i < n → f.read bs ≡ Err e → Err e ≡ extended xs (Rest last (n - i) bs)
  rising-fault xs last n i bs e lt h = sym (one_left xs last n i bs lt ∙ ap (λ r. extended xs (and_then r (next last (n - (i + 1))))) h)

  pub rising-order : (xs : List A) (last : Option K) (n i : ℕ) (bs after : List ℕ) (x : A) → i < n → f.read bs ≡ Ok (x, after) → follows below last (key x) ≡ false →
      Err OutOfOrder ≡ extended xs (Rest last (n - i) bs)
  rising-order xs last n i bs after x lt e t =
      sym (one_left xs last n i bs lt
      ∙ ap (λ r. extended xs (and_then r (next last (n - (i + 1))))) e
      ∙ ap (λ b. extended xs (cond b (and_then (Rest (Some (key x)) (n - (i + 1)) after) (λ q. Ok (x ∷ q.0, q.1))) (Err OutOfOrder))) t)

  pub rising-done : (xs : List A) (last : Option K) (n i : ℕ) (bs : List ℕ) → n ≤ i → Ok (xs, bs) ≡ extended xs (Rest last (n - i) bs)
  rising-done xs last n i bs le =
      let none : n - i ≡ 0 = omega arith in
      sym (ap (λ m. extended xs (Rest last m bs)) none ∙ ap (λ l. Ok (l, bs)) (append-nil xs))

  in_order : (t : Bool) (r : Result (List A × List ℕ) Fault) (y : List A × List ℕ) → cond t r (Err OutOfOrder) ≡ Ok y → (t ≡ true) × (r ≡ Ok y)
  in_order true r y h = (refl, h)
  in_order false r y h = absurd (not-ok h)

  -- a table that was read is what the cursor over its bytes stands for
  pub items-rising : (n : ℕ) (last : Option K) (bs : List ℕ) (y : List A × List ℕ) → Rest last n bs ≡ Ok y → items f n bs ≡ y.0
  items-rising zero last bs y h = ap (λ (p : List A × List ℕ). p.0) (same_ok h)
  items-rising (suc n) last bs y h =
      let i = inv-then (f.read bs) (next last n) y h in
      let o = in_order (follows below last (key i.0.0)) (and_then (Rest (Some (key i.0.0)) n i.0.1) (λ q. Ok (i.0.0 ∷ q.0, q.1))) y i.2 in
      let j = inv-then (Rest (Some (key i.0.0)) n i.0.1) (λ q. Ok (i.0.0 ∷ q.0, q.1)) y o.1 in
      ap (if_read [] (λ p. p.0 ∷ items f n p.1)) i.1
      ∙ ap (λ (l : List A). i.0.0 ∷ l) (items-rising n (Some (key i.0.0)) i.0.1 j.0 j.1)
      ∙ ap (λ (p : List A × List ℕ). p.0) (same_ok j.2)

  abbrev Law : Option K → ℕ → List A → Type 0
  Law last n xs = (length xs ≡ n) × AllByRecursion f.Wf xs × (rises f key below last xs ≡ true)

  abbrev Once : Option K → ℕ → List ℕ → List A × List ℕ → Type 0
  Once last n bs p = (flat_map f.write p.0 ++ p.1 ≡ bs) × Law last n p.0 × Bytes p.1

  both : (t u : Bool) → cond t u false ≡ true → (t ≡ true) × (u ≡ true)
  both true u h = (refl, h)
  both false u h = absurd (let z : ◌≡◌ {A = ℕ} 0 1 = cc in omega arith)

  module _ (F : Lawful f) where
    rising-back : (xs : List A) (last : Option K) (rest : List ℕ) → Law last (length xs) xs → Rest last (length xs) (flat_map f.write xs ++ rest) ≡ Ok (xs, rest)
    rising-back [] last rest w = refl
    rising-back (x ∷ xs) last rest w =
        let o = both (follows below last (key x)) (rises f key below (Some (key x)) xs) w.2 in
        let tail = flat_map f.write xs in
        ap (λ l. Rest last (length (x ∷ xs)) l) (append_assoc (f.write x) tail rest)
        ∙ ap (λ r. and_then r (next last (length xs))) (F.back x (tail ++ rest) w.1.0)
        ∙ ap (λ b. cond b (and_then (Rest (Some (key x)) (length xs) (tail ++ rest)) (λ q. Ok (x ∷ q.0, q.1))) (Err OutOfOrder)) o.0
        ∙ ap (λ r. and_then r (λ q. Ok (x ∷ q.0, q.1))) (rising-back xs (Some (key x)) rest (refl, w.1.1, o.1))

    rising-once : (n : ℕ) (last : Option K) (bs : List ℕ) (y : List A × List ℕ) → Bytes bs → Rest last n bs ≡ Ok y → Once last n bs y
    rising-once zero last bs y b h = subst (Once last zero bs) (same_ok h) (refl, (refl, tt, refl), b)
    rising-once (suc n) last bs y b h =
        let i = inv-then (f.read bs) (next last n) y h in
        let x = i.0.0 in
        let o = in_order (follows below last (key x)) (and_then (Rest (Some (key x)) n i.0.1) (λ q. Ok (x ∷ q.0, q.1))) y i.2 in
        let j = inv-then (Rest (Some (key x)) n i.0.1) (λ q. Ok (x ∷ q.0, q.1)) y o.1 in
        let one = F.once bs x i.0.1 b i.1 in
        let more = rising-once n (Some (key x)) i.0.1 j.0 one.2 j.1 in
        subst (Once last (suc n) bs) (same_ok j.2) (
          append_assoc (f.write x) (flat_map f.write j.0.0) j.0.1 ∙ ap (λ l. f.write x ++ l) more.0 ∙ one.0,
          (ap suc more.1.0, (one.1, more.1.1), ap (λ t. cond t (rises f key below (Some (key x)) j.0.0) false) o.0 ∙ more.1.2),
          more.2,
        )

    pub lawful-rising : (n : ℕ) → Lawful (rising f key below n)
    lawful-rising n = record {
      back = λ xs rest w. ap (λ m. Rest None m (flat_map f.write xs ++ rest)) (sym w.0) ∙ rising-back xs None rest (refl, w.1, w.2);
      once = λ bs xs rest b h. rising-once n None bs (xs, rest) b h;
    }

-- items that are blocks stand one behind the other as chunks of the bytes
pub blocks-read : (w : ℕ) {K : Type 0} (key : List ℕ → K) (below : K → K → Bool) (n : ℕ) (last : Option K) (bs : List ℕ) (y : List (List ℕ) × List ℕ) →
    read_rising (block w) key below last n bs ≡ Ok y → (n * w ≤ length bs) × (y.0 ≡ first_chunks w n bs)
blocks-read w key below zero last bs y h = (omega (arith, zero-mul w), ap (λ (p : List (List ℕ) × List ℕ). p.0) (sym (same_ok h)))
blocks-read w key below (suc n) last bs y h =
    let i = inv-then ((block w).read bs) (next (block w) key below last n) y h in
    let x = i.0.0 in
    let o = in_order (block w) key below (follows below last (key x)) (and_then (read_rising (block w) key below (Some (key x)) n i.0.1) (λ q. Ok (x ∷ q.0, q.1))) y i.2 in
    let j = inv-then (read_rising (block w) key below (Some (key x)) n i.0.1) (λ q. Ok (x ∷ q.0, q.1)) y o.1 in
    let b = inv-unless (ltb (length bs) w) Malformed (take w bs, drop w bs) i.0 i.1 in
    let rest : i.0.1 ≡ drop w bs = ap (λ (p : List ℕ × List ℕ). p.1) (sym b.1) in
    let first : x ≡ take w bs = ap (λ (p : List ℕ × List ℕ). p.0) (sym b.1) in
    let more = blocks-read w key below n (Some (key x)) i.0.1 j.0 j.1 in
    let enough = ltb-false (length bs) w b.0 in
    let long : length i.0.1 ≡ length bs - w = ap length rest ∙ length-drop w bs in
    (omega (arith, suc-mul n w), ap (λ (p : List (List ℕ) × List ℕ). p.0) (sym (same_ok j.2)) ∙ (λ k. first k ∷ more.1 k) ∙ ap (λ l. take w bs ∷ first_chunks w n l) rest)

-- one item more, or none
few : {A : Type 0} (n : ℕ) (more : List ℕ → List A) → ((bs : List ℕ) → length (more bs) ≤ n) → (r : Result (A × List ℕ) Fault) → length (if_read [] (λ p. p.0 ∷ more p.1) r) ≤ suc n
few n more h (Ok p) = omega (arith, h p.1)
few n more h (Err e) = omega arith

-- a table has at most as many as it counts
pub items_few : {A : Type 0} (f : Format A) (n : ℕ) (bs : List ℕ) → length (items f n bs) ≤ n
items_few f zero bs = omega arith
items_few f (suc n) bs = few n (items f n) (items_few f n) (f.read bs)
