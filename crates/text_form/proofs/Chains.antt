-- The law of a chain, and what a loop that reads one keeps. Assumes nothing.
use Rattle.std.proofs.Common.{◌≡◌, ℕ, zero, suc, ◌+◌, ◌-◌, ◌<◌, List, [], ◌∷◌, ◌++◌, length, Some, None, Ok, Err, Option, Result, sym, refl, ap, ◌∙◌, subst, append_assoc, arith}
use Rattle.std.specs.List.{flat_map}
use Rattle.std.proofs.lemmas.List.{flat_map_more}
use Rattle.wire.specs.Formats.{Bytes}
use Rattle.wire.specs.Formats.{FormatOf, Lawful, and_then}
use Rattle.wire.proofs.Laws.{inv-then, same_ok}
use Rattle.line.specs.declared.expected.Bad.{Bad}
use Rattle.text_form.specs.Chains.{read_chain, Chained, chain}

module _ {A K : Type 0} (item : Option K → FormatOf Bad A) (key : A → K) where
  abbrev Rest : Option K → ℕ → List ℕ → Result (List A × List ℕ) Bad
  Rest = read_chain item key

  abbrev next : ℕ → A × List ℕ → Result (List A × List ℕ) Bad
  next n p = and_then (Rest (Some (key p.0)) n p.1) (λ q. Ok (p.0 ∷ q.0, q.1))

  abbrev Once : Option K → ℕ → List ℕ → List A × List ℕ → Type 0
  Once last n bs p = (flat_map (item None).write p.0 ++ p.1 ≡ bs) × ((length p.0 ≡ n) × Chained item key last p.0) × Bytes p.1

  module _ (F : (last : Option K) → Lawful (item last)) (same : (last : Option K) (x : A) → (item last).write x ≡ (item None).write x) where
    chain_back : (xs : List A) (last : Option K) (rest : List ℕ) → Chained item key last xs → Rest last (length xs) (flat_map (item None).write xs ++ rest) ≡ Ok (xs, rest)
    chain_back [] last rest w = refl
    chain_back (x ∷ xs) last rest w =
        let tail = flat_map (item None).write xs in
        ap (λ l. Rest last (length (x ∷ xs)) l) (append_assoc ((item None).write x) tail rest ∙ ap (λ l. l ++ (tail ++ rest)) (sym (same last x)))
        ∙ ap (λ r. and_then r (next (length xs))) ((F last).back x (tail ++ rest) w.0)
        ∙ ap (λ r. and_then r (λ q. Ok (x ∷ q.0, q.1))) (chain_back xs (Some (key x)) rest w.1)

    chain-once : (n : ℕ) (last : Option K) (bs : List ℕ) (y : List A × List ℕ) → Bytes bs → Rest last n bs ≡ Ok y → Once last n bs y
    chain-once zero last bs y b h = subst (Once last zero bs) (same_ok h) (refl, (refl, tt), b)
    chain-once (suc n) last bs y b h =
        let i = inv-then ((item last).read bs) (next n) y h in
        let x = i.0.0 in
        let j = inv-then (Rest (Some (key x)) n i.0.1) (λ q. Ok (x ∷ q.0, q.1)) y i.2 in
        let one = (F last).once bs x i.0.1 b i.1 in
        let more = chain-once n (Some (key x)) i.0.1 j.0 one.2 j.1 in
        subst (Once last (suc n) bs) (same_ok j.2) (
          append_assoc ((item None).write x) (flat_map (item None).write j.0.0) j.0.1 ∙ ap (λ l. (item None).write x ++ l) more.0 ∙ ap (λ l. l ++ i.0.1) (sym (same last x)) ∙ one.0,
          (ap suc more.1.0, (one.1, more.1.1)),
          more.2,
        )

    pub lawful-chain : (n : ℕ) → Lawful (chain item key n)
    lawful-chain n = record {
      back = λ xs rest w. ap (λ m. Rest None m (flat_map (item None).write xs ++ rest)) (sym w.0) ∙ chain_back xs None rest w.1;
      once = λ bs xs rest b h. chain-once n None bs (xs, rest) b h;
    }

  -- WHAT A LOOP KEEPS

  -- what was read before, and then the rest
  abbrev pub extended : List A → Result (List A × List ℕ) Bad → Result (List A × List ℕ) Bad
  extended xs r = and_then r (λ q. Ok (xs ++ q.0, q.1))

  extended-more : (xs : List A) (x : A) (r : Result (List A × List ℕ) Bad) → extended xs (and_then r (λ q. Ok (x ∷ q.0, q.1))) ≡ extended (xs ++ x ∷ []) r
  extended-more xs x (Ok q) = ap (λ l. Ok (l, q.1)) (sym (append_assoc xs (x ∷ []) q.0))
  extended-more xs x (Err e) = refl

  module _ (write : A → List ℕ) (text before : List ℕ) (n : ℕ) where
    -- i items were read and written, the last of them with this key
    pub record Sofar (rest after : List ℕ) (last : Option K) (i : ℕ) : Type 0 where
      pub done : List A
      pub is_read : extended done (Rest last (n - i) rest) ≡ Rest None n text
      pub is-written : after ≡ before ++ flat_map write done

    one_left : (xs : List A) (last : Option K) (i : ℕ) (bs : List ℕ) → i < n → extended xs (Rest last (n - i) bs) ≡ extended xs (and_then ((item last).read bs) (next (n - (i + 1))))
    one_left xs last i bs lt = let one : n - i ≡ suc (n - (i + 1)) = omega arith in ap (λ m. extended xs (Rest last m bs)) one

    module _ (rest after : List ℕ) (last : Option K) (i : ℕ) (s : Sofar rest after last i) where
      pub chain_more : (x : A) (rest2 after2 : List ℕ) → i < n → (item last).read rest ≡ Ok (x, rest2) → after2 ≡ after ++ write x → Sofar rest2 after2 (Some (key x)) (i + 1)
      chain_more x rest2 after2 lt e a = record {
        done = s.done ++ x ∷ [];
        is_read =
            sym (one_left s.done last i rest lt ∙ ap (λ r. extended s.done (and_then r (next (n - (i + 1))))) e ∙ extended-more s.done x (Rest (Some (key x)) (n - (i + 1)) rest2)) ∙ s.is_read;
        is-written = a ∙ ap (λ l. l ++ write x) s.is-written ∙ flat_map_more write before s.done x;
      }

      pub chain-bad : (b : Bad) → i < n → (item last).read rest ≡ Err b → Rest None n text ≡ Err b
      chain-bad b lt e = sym s.is_read ∙ one_left s.done last i rest lt ∙ ap (λ r. extended s.done (and_then r (next (n - (i + 1))))) e

  -- as many items as were asked for
  pub chain_length : (n : ℕ) (last : Option K) (bs : List ℕ) (y : List A × List ℕ) → Rest last n bs ≡ Ok y → length y.0 ≡ n
  chain_length zero last bs y h = sym (ap (λ (p : List A × List ℕ). length p.0) (same_ok h))
  chain_length (suc n) last bs y h =
      let i = inv-then ((item last).read bs) (next n) y h in
      let x = i.0.0 in
      let j = inv-then (Rest (Some (key x)) n i.0.1) (λ q. Ok (x ∷ q.0, q.1)) y i.2 in
      sym (ap (λ (p : List A × List ℕ). length p.0) (same_ok j.2)) ∙ ap suc (chain_length n (Some (key x)) i.0.1 j.0 j.1)
