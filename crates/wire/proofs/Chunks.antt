-- Bytes in chunks of one length. Assumes nothing.
use Rattle.std.proofs.Common.{◌≡◌, ℕ, zero, suc, ◌+◌, ◌*◌, ◌<◌, List, [], ◌∷◌, ◌++◌, map, length, take, drop, sym, refl, ap, ◌∙◌, suc-mul, zero-mul, arith}
use Rattle.std.specs.Simd.{first_chunks}
use Rattle.std.specs.List.{flat_map, AllByRecursion}
use Rattle.std.proofs.lemmas.List.{length-append, take_at, drop_at, take-append-drop, length-take-le, length-drop, nil_from_length, drop-drop, take-take, drop-take}
use Rattle.std.proofs.ByRecursion.{All-drop, All-take}

module _ (w : ℕ) where
  pub chunked-push : (n : ℕ) (xs : List ℕ) → first_chunks w (suc n) xs ≡ first_chunks w n xs ++ take w (drop (n * w) xs) ∷ []
  chunked-push zero xs = ap (λ m. take w (drop m xs) ∷ []) (sym (zero-mul w))
  chunked-push (suc n) xs =
      let e : w + n * w ≡ suc n * w = omega (arith, suc-mul n w) in
      ap (λ l. take w xs ∷ l) (chunked-push n (drop w xs) ∙ ap (λ l. first_chunks w n (drop w xs) ++ take w l ∷ []) (drop-drop (n * w) w xs ∙ ap (λ m. drop m xs) e))

  pub chunked-take : (n : ℕ) (xs : List ℕ) → first_chunks w n (take (n * w) xs) ≡ first_chunks w n xs
  chunked-take zero xs = refl
  chunked-take (suc n) xs =
      let e : suc n * w ≡ w + n * w = omega (arith, suc-mul n w) in
      (λ i. take w (take (e i) xs) ∷ first_chunks w n (drop w (take (e i) xs)))
      ∙ (λ i. take-take w (w + n * w) xs (omega arith) i ∷ first_chunks w n (drop-take w (n * w) xs i))
      ∙ ap (λ l. take w xs ∷ l) (chunked-take n (drop w xs))

  -- a value for each chunk: what is written and read of one chunk carries over to all
  module _ {A : Type 0} (to : List ℕ → A) (from : A → List ℕ) (Fits : A → Type 0)
      (long : (x : A) → length (from x) ≡ w) (back : (x : A) → Fits x → to (from x) ≡ x) (once : (xs : List ℕ) → length xs ≡ w → AllByRecursion (λ b. b < 256) xs → (from (to xs) ≡ xs) × Fits (to xs)) where
    pub length-joined : (xs : List A) → length (flat_map from xs) ≡ length xs * w
    length-joined [] = sym (zero-mul w)
    length-joined (x ∷ xs) = omega (arith, length-append (from x) (flat_map from xs), length-joined xs, long x, suc-mul (length xs) w)

    pub chunked-joined : (xs : List A) → AllByRecursion Fits xs → map to (first_chunks w (length xs) (flat_map from xs)) ≡ xs
    chunked-joined [] f = refl
    chunked-joined (x ∷ xs) f =
        let rest = flat_map from xs in
        (λ i. to (take_at (from x) rest w (long x) i) ∷ map to (first_chunks w (length xs) (drop_at (from x) rest w (long x) i)))
        ∙ (λ i. back x f.0 i ∷ chunked-joined xs f.1 i)

    pub joined-chunked : (n : ℕ) (xs : List ℕ) → length xs ≡ n * w → AllByRecursion (λ b. b < 256) xs →
        (flat_map from (map to (first_chunks w n xs)) ≡ xs) × (length (map to (first_chunks w n xs)) ≡ n) × AllByRecursion Fits (map to (first_chunks w n xs))
    joined-chunked zero xs h b = (sym (nil_from_length xs (h ∙ zero-mul w)), refl, tt)
    joined-chunked (suc n) xs h b =
        let more = joined-chunked n (drop w xs) (simp length-drop (omega (arith, suc-mul n w))) (All-drop (λ y. y < 256) w xs b) in
        let one = once (take w xs) (length-take-le w xs (omega (arith, suc-mul n w))) (All-take (λ y. y < 256) w xs b) in
        ((λ i. one.0 i ++ more.0 i) ∙ take-append-drop w xs, ap suc more.1, (one.1, more.2))
