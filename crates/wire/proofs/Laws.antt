-- The laws of formats, made of the laws of their parts. Assumes nothing.
use Rattle.std.proofs.Common.{◌≡◌, ℕ, ◌<◌, ◌≤◌, Bool, true, false, cond, ltb, List, ◌++◌, length, take, drop, is_ok, Ok, Err, Result, sym, refl, ap, ◌∙◌, subst, true≢false, append_assoc, arith}
use Rattle.std.proofs.lemmas.List.{length-append, take_at, drop_at, take-append-drop, length-take-le}
use Rattle.std.proofs.ByRecursion.{All-drop, All-take}
use Rattle.std.proofs.lemmas.Bool.{ltb-false, le-ltb}
use Rattle.model.specs.declared.fault.Fault.TheVariants.{Malformed}
use Rattle.wire.specs.Formats.{FormatOf, Lawful, Bytes, and_then, pair, only, mapped}
use Rattle.wire.specs.Numbers.{block, recoded}

pub not-ok : {E A : Type 0} {e : E} {y : A} → Err e ≡ Ok y → ⊥
not-ok h = true≢false (ap is_ok (sym h))

pub same_ok : {E A : Type 0} {x y : A} → ◌≡◌ {A = Result A E} (Ok x) (Ok y) → x ≡ y
same_ok h = cc

pub inv-then : {E A B : Type 0} (m : Result A E) (k : A → Result B E) (y : B) → and_then m k ≡ Ok y → (x : A) × (m ≡ Ok x) × (k x ≡ Ok y)
inv-then (Ok x) k y h = (x, refl, h)
inv-then (Err e) k y h = absurd (not-ok h)

pub inv-only : {E A : Type 0} (t : Bool) (e : E) (x y : A) → cond t (Ok x) (Err e) ≡ Ok y → (t ≡ true) × (x ≡ y)
inv-only true e x y h = (refl, same_ok h)
inv-only false e x y h = absurd (not-ok h)

pub inv-unless : {E A : Type 0} (t : Bool) (e : E) (x y : A) → cond t (Err e) (Ok x) ≡ Ok y → (t ≡ false) × (x ≡ y)
inv-unless false e x y h = (refl, same_ok h)
inv-unless true e x y h = absurd (not-ok h)

-- what `once` gives, of the answer as one pair
abbrev Once : {E A : Type 0} → FormatOf E A → List ℕ → A × List ℕ → Type 0
Once f bs p = (f.write p.0 ++ p.1 ≡ bs) × f.Wf p.0 × Bytes p.1

module _ {E A B : Type 0} (f : FormatOf E A) (g : A → FormatOf E B) (F : Lawful f) (G : (x : A) → f.Wf x → Lawful (g x)) where
  pair-once : (bs : List ℕ) (p : A × List ℕ) (q : B × List ℕ) → Bytes bs → f.read bs ≡ Ok p → (g p.0).read p.1 ≡ Ok q → Once (pair f g) bs ((p.0, q.0), q.1)
  pair-once bs p q b h k =
      let one = F.once bs p.0 p.1 b h in
      let two = (G p.0 one.1).once p.1 q.0 q.1 one.2 k in
      (append_assoc (f.write p.0) ((g p.0).write q.0) q.1 ∙ ap (λ l. f.write p.0 ++ l) two.0 ∙ one.0, (one.1, two.1), two.2)

  -- where the second is only for what the first is for
  pub lawful-pair-within : Lawful (pair f g)
  lawful-pair-within = record {
    back = λ x rest w.
        ap (λ l. (pair f g).read l) (append_assoc (f.write x.0) ((g x.0).write x.1) rest)
        ∙ ap (λ r. and_then r (λ p. and_then ((g p.0).read p.1) (λ q. Ok ((p.0, q.0), q.1)))) (F.back x.0 ((g x.0).write x.1 ++ rest) w.0)
        ∙ ap (λ r. and_then r (λ q. Ok ((x.0, q.0), q.1))) ((G x.0 w.0).back x.1 rest w.1);
    once = λ bs x rest b h.
        let i = inv-then (f.read bs) (λ p. and_then ((g p.0).read p.1) (λ q. Ok ((p.0, q.0), q.1))) (x, rest) h in
        let j = inv-then ((g i.0.0).read i.0.1) (λ q. Ok ((i.0.0, q.0), q.1)) (x, rest) i.2 in
        subst (Once (pair f g) bs) (same_ok j.2) (pair-once bs i.0 j.0 b i.1 j.1);
  }

pub lawful-pair : {E A B : Type 0} (f : FormatOf E A) (g : A → FormatOf E B) → Lawful f → ((x : A) → Lawful (g x)) → Lawful (pair f g)
lawful-pair f g F G = lawful-pair-within f g F (λ x _. G x)

module _ {E A : Type 0} (f : FormatOf E A) (test : A → Bool) (e : E) (F : Lawful f) where
  pub lawful-only : Lawful (only f test e)
  lawful-only = record {
    back = λ x rest w.
        ap (λ r. and_then r (λ p. cond (test p.0) (Ok p) (Err e))) (F.back x rest w.0)
        ∙ ap (λ t. cond t (Ok (x, rest)) (Err e)) w.1;
    once = λ bs x rest b h.
        let i = inv-then (f.read bs) (λ p. cond (test p.0) (Ok p) (Err e)) (x, rest) h in
        let j = inv-only (test i.0.0) e i.0 (x, rest) i.2 in
        let k = F.once bs i.0.0 i.0.1 b i.1 in
        subst (Once (only f test e) bs) j.1 (k.0, (k.1, j.0), k.2);
  }

module _ {E A B : Type 0} (f : FormatOf E A) (to : A → B) (from : B → A) (F : Lawful f) (there : (x : A) → f.Wf x → from (to x) ≡ x) (again : (y : B) → to (from y) ≡ y) where
  pub lawful-mapped : Lawful (mapped f to from)
  lawful-mapped = record {
    back = λ y rest w.
        ap (λ r. and_then r (λ p. Ok (to p.0, p.1))) (F.back (from y) rest w)
        ∙ ap (λ z. Ok (z, rest)) (again y);
    once = λ bs y rest b h.
        let i = inv-then (f.read bs) (λ p. Ok (to p.0, p.1)) (y, rest) h in
        let k = F.once bs i.0.0 i.0.1 b i.1 in
        let moved = subst (λ (x : A). (f.write x ++ i.0.1 ≡ bs) × f.Wf x × Bytes i.0.1) (sym (there i.0.0 k.1)) k in
        subst (Once (mapped f to from) bs) (same_ok i.2) moved;
  }

pub lawful-block : (n : ℕ) → Lawful (block n)
lawful-block n = record {
  back = λ xs rest w.
      let enough : n ≤ length (xs ++ rest) = omega (arith, length-append xs rest) in
      ap (λ t. cond t (Err Malformed) (Ok (take n (xs ++ rest), drop n (xs ++ rest)))) (le-ltb (length (xs ++ rest)) n enough)
      ∙ ap (λ l. Ok (l, drop n (xs ++ rest))) (take_at xs rest n w)
      ∙ ap (λ l. Ok (xs, l)) (drop_at xs rest n w);
  once = λ bs xs rest b h.
      let j = inv-unless (ltb (length bs) n) Malformed (take n bs, drop n bs) (xs, rest) h in
      subst (Once (block n) bs) j.1 (take-append-drop n bs, length-take-le n bs (ltb-false (length bs) n j.0), All-drop (λ x. x < 256) n bs b);
}

module _ {A : Type 0} (n : ℕ) (to : List ℕ → A) (from : A → List ℕ) (Fits : A → Type 0) (long : (x : A) → Fits x → length (from x) ≡ n) (back : (x : A) → Fits x → to (from x) ≡ x)
    (once : (xs : List ℕ) → length xs ≡ n → Bytes xs → (from (to xs) ≡ xs) × Fits (to xs)) where
  pub lawful-recoded : Lawful (recoded n to from Fits)
  lawful-recoded = record {
    back = λ x rest w.
        ap (λ r. and_then r (λ p. Ok (to p.0, p.1))) ((lawful-block n).back (from x) rest (long x w))
        ∙ ap (λ y. Ok (y, rest)) (back x w);
    once = λ bs x rest b h.
        let i = inv-then ((block n).read bs) (λ p. Ok (to p.0, p.1)) (x, rest) h in
        let k = (lawful-block n).once bs i.0.0 i.0.1 b i.1 in
        let front = inv-unless (ltb (length bs) n) Malformed (take n bs, drop n bs) i.0 i.1 in
        let e = once i.0.0 k.1 (subst (λ (p : List ℕ × List ℕ). Bytes p.0) front.1 (All-take (λ y. y < 256) n bs b)) in
        subst (Once (recoded n to from Fits) bs) (same_ok i.2) (ap (λ l. l ++ i.0.1) e.0 ∙ k.0, e.1, k.2);
  }
