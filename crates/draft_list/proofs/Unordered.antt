-- Where no part has to come behind another, any key gives the same table. Assumes nothing.
use Rattle.std.proofs.Common.{◌≡◌, ℕ, zero, suc, List, ◌∷◌, Some, None, Ok, Err, Option, Result, Bor, sym, refl, ap, ◌∙◌}
use Rattle.wire.specs.Formats.{FormatOf, and_then}
use Rattle.line.specs.declared.expected.Bad.{Bad}
use Rattle.text_form.specs.Chains.{read_chain, chain}
use Rattle.draft_parts.specs.Copies.{Copies}
use Rattle.draft_parts.specs.declared.stop.Stop.{Stop}
use Rattle.draft_parts.specs.declared.stop.Stop.TheVariants.{Memory, Line}

module _ {A J K : Type 0} (f : FormatOf Bad A) (j : A → J) (k : A → K) where
  abbrev By : {L : Type 0} → (A → L) → Option L → ℕ → List ℕ → Result (List A × List ℕ) Bad
  By key = read_chain (λ _. f) key

  same_then : {B : Type 0} (r : Result (A × List ℕ) Bad) (g h : A × List ℕ → Result B Bad) → ((p : A × List ℕ) → g p ≡ h p) → and_then r g ≡ and_then r h
  same_then (Ok p) g h e = e p
  same_then (Err b) g h e = refl

  same_read : (n : ℕ) (a : Option J) (b : Option K) (bs : List ℕ) → By j a n bs ≡ By k b n bs
  same_read zero a b bs = refl
  same_read (suc n) a b bs =
      same_then (f.read bs) (λ p. and_then (By j (Some (j p.0)) n p.1) (λ q. Ok (p.0 ∷ q.0, q.1))) (λ p. and_then (By k (Some (k p.0)) n p.1) (λ q. Ok (p.0 ∷ q.0, q.1)))
      (λ p. ap (λ r. and_then r (λ q. Ok (p.0 ∷ q.0, q.1))) (same_read n (Some (j p.0)) (Some (k p.0)) p.1))

  pub any_key :
      (n : ℕ) (write : List A → List ℕ) (r : Result (Bor (List ℕ)) Stop) (text before after : List ℕ)
      → Copies (chain (λ _. f) j n) write r text before after
      → Copies (chain (λ _. f) k n) write r text before after
  any_key n write (Ok rest) text before after h = record { value = h.value; is_read = sym (same_read n None None text) ∙ h.is_read; is-written = h.is-written }
  any_key n write (Err (Line b)) text before after h = sym (same_read n None None text) ∙ h
  any_key n write (Err Memory) text before after h = tt
