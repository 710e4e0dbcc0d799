-- The end of a block, and the padding. Assumes nothing.
use Rattle.std.proofs.Common.{◌≡◌, ℕ, ◌+◌, ◌*◌, ◌%◌, ◌^◌, List, [], ◌∷◌, ◌++◌, length, take, drop, replicate, ap, ◌∙◌, append_assoc, append-nil, arith, length-append, length-drop}
use borrow.Rule.Slice.PartMut.{put_mid}
use lib.ListN.{length-replicate}
use Rattle.std.proofs.lemmas.List.{drop_all, take-replicate}
use Rattle.digest.specs.Sha256.{bytes_of, padded, padding, zeros, PaddedWhole}

-- bytes put at the end of a list
pub put-end : (a k : ℕ) (xs ys : List ℕ) → length xs ≡ a + k → put_mid a k xs ys ≡ take a xs ++ ys
put-end a k xs ys h =
    ap (λ (v : List ℕ). take a xs ++ (ys ++ v)) (drop_all k (drop a xs) (simp length-drop (omega arith)))
    ∙ ap (λ (v : List ℕ). take a xs ++ v) (append-nil ys)

-- the padding depends on the length modulo 2 ^ 64 alone
padding-modulo : (n : ℕ) → padding (n % 2 ^ 64) ≡ padding n
unfolding padding
padding-modulo n =
    let e : (n % 2 ^ 64) % 64 ≡ n % 64 = omega arith in
    let f : ((n % 2 ^ 64) * 8) % 2 ^ 64 ≡ (n * 8) % 2 ^ 64 = omega arith in
    simp (e, f)

-- a message with its padding, in parts: a bit 1, zeros, and the length
pub padded-in-parts : (m : List ℕ) (n : ℕ) {bytes : List ℕ} → n ≡ length m % 2 ^ 64 → bytes ≡ bytes_of 8 ((n * 8) % 2 ^ 64)
    → ((m ++ 0x80 ∷ []) ++ take (zeros n) (replicate 63 0)) ++ bytes ≡ padded m
unfolding padding
padded-in-parts m n {bytes} count e =
    let z = zeros n in
    append_assoc (m ++ 0x80 ∷ []) (take z (replicate 63 0)) bytes
    ∙ append_assoc m (0x80 ∷ []) (take z (replicate 63 0) ++ bytes)
    ∙ ap (λ (v : List ℕ). m ++ (0x80 ∷ (v ++ bytes))) (take-replicate z 63 0 (omega arith))
    ∙ ap (λ (v : List ℕ). m ++ (0x80 ∷ (replicate z 0 ++ v))) e
    ∙ ap (λ (v : ℕ). m ++ padding v) count
    ∙ ap (λ (v : List ℕ). m ++ v) (padding-modulo (length m))

pub padded-whole : PaddedWhole
unfolding padding
padded-whole m = simp (length-append, length-replicate) (omega arith)
