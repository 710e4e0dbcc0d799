-- The signatures part: its laws, and how it is cut. Assumes nothing.
use Rattle.std.proofs.Common.{◌≡◌, ℕ, zero, suc, ◌+◌, ◌*◌, ◌/◌, ◌<◌, ◌≤◌, true, cond, List, [], ◌∷◌, map, length, take, drop, Some, None, Ok, Err, Option, Result, sym, refl, ap, ◌∙◌, ⊎_elim, suc-mul, zero-mul, arith, length-drop}
use Rattle.std.specs.Simd.{first_chunks}
use Rattle.std.proofs.lemmas.List.{drop-drop, drop-take, take-take}
use Rattle.std.proofs.lemmas.Bool.{lt-ltb, le-ltb, cases_lt}
use Rattle.model.specs.declared.fault.Fault.{Fault}
use Rattle.model.specs.declared.fault.Fault.TheVariants.{Malformed, OutOfOrder}
use Rattle.wire.specs.Formats.{Lawful, and_then}
use Rattle.wire.specs.Numbers.{block, number}
use Rattle.wire.specs.Tables.{follows, read_rising}
use Rattle.wire.proofs.Laws.{lawful-pair, lawful-mapped, lawful-block}
use Rattle.wire.proofs.Numbers.{lawful-number}
use Rattle.wire.proofs.Tables.{lawful-rising}
use Rattle.wire.proofs.Chunks.{chunked-take}
use Rattle.signature.specs.Signatures.{Signature, signature, signatures}
use Rattle.signature.specs.Views.{signature_of}

lawful-signature : Lawful signature
lawful-signature = lawful-mapped _ _ _ (lawful-pair _ _ (lawful-block 32) (λ _. lawful-block 64)) (λ x w. refl) (λ s. refl)

pub lawful-signatures : Lawful signatures
lawful-signatures =
    lawful-mapped _ _ _
    (lawful-pair _ _ (lawful-number 1) (λ n. lawful-rising signature (λ (s : Signature). s) (λ _ _. true) lawful-signature n))
    (λ x w. ap (λ m. (m, x.1)) w.1.0) (λ ss. refl)

-- THE PART CUT IN ONE GO

block-short : (n : ℕ) (bs : List ℕ) → length bs < n → (block n).read bs ≡ Err Malformed
block-short n bs h = ap (λ t. cond t (Err Malformed) (Ok (take n bs, drop n bs))) (lt-ltb (length bs) n h)

block-long : (n : ℕ) (bs : List ℕ) → n ≤ length bs → (block n).read bs ≡ Ok (take n bs, drop n bs)
block-long n bs h = ap (λ t. cond t (Err Malformed) (Ok (take n bs, drop n bs))) (le-ltb (length bs) n h)

-- what is done with a key's bytes, and with both
abbrev behind_key : List ℕ × List ℕ → Result ((List ℕ × List ℕ) × List ℕ) Fault
behind_key p = and_then ((block 64).read p.1) (λ q. Ok ((p.0, q.0), q.1))

abbrev as_signature : (List ℕ × List ℕ) × List ℕ → Result (Signature × List ℕ) Fault
as_signature p = Ok (record { key = p.0.0; bytes = p.0.1 }, p.1)

one-short : (bs : List ℕ) → length bs < 96 → signature.read bs ≡ Err Malformed
one-short bs h =
    ⊎_elim
    (λ (s : length bs < 32). ap (λ r. and_then (and_then r behind_key) as_signature) (block-short 32 bs s))
    (λ (l : 32 ≤ length bs). ap (λ r. and_then (and_then r behind_key) as_signature) (block-long 32 bs l)
    ∙ ap (λ r. and_then (and_then r (λ (q : List ℕ × List ℕ). Ok ((take 32 bs, q.0), q.1))) as_signature) (block-short 64 (drop 32 bs) (simp length-drop (omega arith))))
    (cases_lt (length bs) 32)

one-long : (bs : List ℕ) → 96 ≤ length bs → signature.read bs ≡ Ok (signature_of (take 96 bs), drop 96 bs)
one-long bs h =
    ap (λ r. and_then (and_then r behind_key) as_signature) (block-long 32 bs (omega arith))
    ∙ ap (λ r. and_then (and_then r (λ (q : List ℕ × List ℕ). Ok ((take 32 bs, q.0), q.1))) as_signature) (block-long 64 (drop 32 bs) (simp length-drop (omega arith)))
    ∙ (λ i. Ok (record { key = sym (take-take 32 96 bs (omega arith)) i; bytes = sym (drop-take 32 64 bs) i }, drop-drop 64 32 bs i))

abbrev Any : Option Signature → ℕ → List ℕ → Result (List Signature × List ℕ) Fault
Any = read_rising signature (λ s. s) (λ _ _. true)

-- what is done with the first signature; whatever came before it, it may follow
abbrev others : Option Signature → ℕ → Signature × List ℕ → Result (List Signature × List ℕ) Fault
others last n p = cond (follows (λ _ _. true) last p.0) (and_then (Any (Some p.0) n p.1) (λ q. Ok (p.0 ∷ q.0, q.1))) (Err OutOfOrder)

may-follow : (last : Option Signature) (s : Signature) → follows (λ _ _. true) last s ≡ true
may-follow None s = refl
may-follow (Some t) s = refl

others-next : (last : Option Signature) (n : ℕ) (s : Signature) (rest : List ℕ) → others last n (s, rest) ≡ and_then (Any (Some s) n rest) (λ q. Ok (s ∷ q.0, q.1))
others-next last n s rest = ap (λ t. cond t (and_then (Any (Some s) n rest) (λ q. Ok (s ∷ q.0, q.1))) (Err OutOfOrder)) (may-follow last s)

table-short : (n : ℕ) (last : Option Signature) (bs : List ℕ) → length bs < n * 96 → Any last n bs ≡ Err Malformed
table-short zero last bs h = absurd (omega (arith, zero-mul 96))
table-short (suc n) last bs h =
    ⊎_elim
    (λ (s : length bs < 96). ap (λ r. and_then r (others last n)) (one-short bs s))
    (λ (l : 96 ≤ length bs). ap (λ r. and_then r (others last n)) (one-long bs l)
    ∙ others-next last n (signature_of (take 96 bs)) (drop 96 bs)
    ∙ ap (λ r. and_then r (λ (q : List Signature × List ℕ). Ok (signature_of (take 96 bs) ∷ q.0, q.1))) (table-short n (Some (signature_of (take 96 bs))) (drop 96 bs) (simp length-drop (omega (arith, suc-mul n 96)))))
    (cases_lt (length bs) 96)

table-long : (n : ℕ) (last : Option Signature) (bs : List ℕ) → n * 96 ≤ length bs → Any last n bs ≡ Ok (map signature_of (first_chunks 96 n bs), drop (n * 96) bs)
table-long zero last bs h = ap (λ m. Ok ([], drop m bs)) (sym (zero-mul 96))
table-long (suc n) last bs h =
    let far : 96 + n * 96 ≡ suc n * 96 = omega (arith, suc-mul n 96) in
    ap (λ r. and_then r (others last n)) (one-long bs (omega (arith, suc-mul n 96)))
    ∙ others-next last n (signature_of (take 96 bs)) (drop 96 bs)
    ∙ ap (λ r. and_then r (λ (q : List Signature × List ℕ). Ok (signature_of (take 96 bs) ∷ q.0, q.1))) (table-long n (Some (signature_of (take 96 bs))) (drop 96 bs) (simp length-drop (omega (arith, suc-mul n 96))))
    ∙ ap (λ (l : List ℕ). Ok (signature_of (take 96 bs) ∷ map signature_of (first_chunks 96 n (drop 96 bs)), l)) (drop-drop (n * 96) 96 bs ∙ ap (λ m. drop m bs) far)

-- what is done with the count
abbrev behind_count : ℕ × List ℕ → Result ((ℕ × List Signature) × List ℕ) Fault
behind_count p = and_then (Any None p.0 p.1) (λ q. Ok ((p.0, q.0), q.1))

abbrev as_part : (ℕ × List Signature) × List ℕ → Result (List Signature × List ℕ) Fault
as_part p = Ok (p.0.1, p.1)

pub part-short : (bs rest : List ℕ) (n : ℕ) → (number 1).read bs ≡ Ok (n, rest) → length rest < n * 96 → signatures.read bs ≡ Err Malformed
part-short bs rest n e h =
    ap (λ r. and_then (and_then r behind_count) as_part) e
    ∙ ap (λ r. and_then (and_then r (λ (q : List Signature × List ℕ). Ok ((n, q.0), q.1))) as_part) (table-short n None rest h)

pub part-long : (bs rest : List ℕ) (n : ℕ) → (number 1).read bs ≡ Ok (n, rest) → n * 96 ≤ length rest →
    signatures.read bs ≡ Ok (map signature_of (first_chunks 96 n rest), drop (n * 96) rest)
part-long bs rest n e h =
    ap (λ r. and_then (and_then r behind_count) as_part) e
    ∙ ap (λ r. and_then (and_then r (λ (q : List Signature × List ℕ). Ok ((n, q.0), q.1))) as_part) (table-long n None rest h)

-- the chunks of the first n * 96 bytes
pub chunks-whole : (rest body : List ℕ) (n : ℕ) → body ≡ take (n * 96) rest → length body ≡ n * 96 → first_chunks 96 (length body / 96) body ≡ first_chunks 96 n rest
chunks-whole rest body n e l =
    let many : length body / 96 ≡ n = omega arith in
    (λ i. first_chunks 96 (many i) (e i)) ∙ chunked-take 96 n rest
