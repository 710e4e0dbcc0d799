-- The laws of keys, quorums, paths and flags. Assumes nothing.
use Rattle.std.proofs.Common.{◌≡◌, ℕ, ◌*◌, ◌^◌, ◌<◌, Bool, true, false, cond, eqb, List, ◌++◌, length, Ok, Err, Result, sym, refl, ap, ◌∙◌, subst, arith}
use Rattle.std.specs.Simd.{first_chunks}
use Rattle.std.specs.List.{flat_map, AllByRecursion}
use Rattle.std.proofs.lemmas.Bool.{eqb-true}
use Rattle.model.specs.declared.fault.Fault.{Fault}
use Rattle.model.specs.declared.fault.Fault.TheVariants.{Malformed, OutOfRange}
use Rattle.wire.specs.Formats.{Lawful, Bytes, and_then}
use Rattle.wire.specs.Numbers.{block, big_endian, bytes_of, number}
use Rattle.wire.specs.Leaves.{below, keys, quorum, steps_of, steps, stepped, flag}
use Rattle.wire.proofs.Laws.{not-ok, same_ok, inv-then, lawful-pair, lawful-only, lawful-mapped, lawful-block, lawful-recoded}
use Rattle.wire.proofs.Numbers.{length-bytes_of, back-again, once_more, lawful-number}
use Rattle.wire.proofs.Tables.{lawful-rising}
use Rattle.wire.proofs.Chunks.{length-joined, chunked-joined, joined-chunked}

pub lawful-keys : (n : ℕ) → Lawful (keys n)
lawful-keys n = lawful-rising (block 32) (λ (k : List ℕ). k) below (lawful-block 32) n

pub lawful-quorum : Lawful quorum
lawful-quorum =
    lawful-mapped _ _ _
    (lawful-pair _ _ (lawful-only (number 1) _ OutOfRange (lawful-number 1)) (λ n. lawful-pair _ _ (lawful-only (number 1) _ OutOfRange (lawful-number 1)) (λ _. lawful-keys n)))
    (λ x w. ap (λ m. (m, x.1)) w.1.1.0) (λ y. refl)

-- a step is a number of two bytes
abbrev Small : ℕ → Type 0
Small s = s < 256 ^ 2

pub lawful-steps : (n : ℕ) → Lawful (steps n)
lawful-steps n =
    lawful-recoded (n * 2) (λ bs. steps_of (first_chunks 2 n bs)) (λ ss. flat_map (bytes_of 2) ss) (λ ss. (length ss ≡ n) × AllByRecursion Small ss)
    (λ ss f. length-joined 2 big_endian (bytes_of 2) Small (length-bytes_of 2) (back-again 2) (once_more 2) ss ∙ ap (λ m. m * 2) f.0)
    (λ ss f. ap (λ m. steps_of (first_chunks 2 m (flat_map (bytes_of 2) ss))) (sym f.0) ∙ chunked-joined 2 big_endian (bytes_of 2) Small (length-bytes_of 2) (back-again 2) (once_more 2) ss f.1)
    (λ bs h b. let j = joined-chunked 2 big_endian (bytes_of 2) Small (length-bytes_of 2) (back-again 2) (once_more 2) n bs h b in (j.0, (j.1, j.2)))

pub lawful-stepped : (low : ℕ) → Lawful (stepped low)
lawful-stepped low =
    lawful-mapped _ _ _ (lawful-pair _ _ (lawful-only (number 1) _ OutOfRange (lawful-number 1)) lawful-steps) (λ x w. ap (λ m. (m, x.1)) w.1.0) (λ y. refl)

abbrev flagged : ℕ × List ℕ → Result (Bool × List ℕ) Fault
flagged p = cond (eqb p.0 0) (Ok (false, p.1)) (cond (eqb p.0 1) (Ok (true, p.1)) (Err Malformed))

inv-flag : (n : ℕ) (rest : List ℕ) (y : Bool × List ℕ) → flagged (n, rest) ≡ Ok y → (n ≡ cond y.0 1 0) × (rest ≡ y.1)
inv-flag n rest y h = at (eqb n 0) refl (eqb n 1) refl h
  where
    at : (a : Bool) → eqb n 0 ≡ a → (b : Bool) → eqb n 1 ≡ b → cond a (Ok (false, rest)) (cond b (Ok (true, rest)) (Err Malformed)) ≡ Ok y → (n ≡ cond y.0 1 0) × (rest ≡ y.1)
    at true i b j u = let e = same_ok u in (eqb-true n 0 i ∙ ap (λ (p : Bool × List ℕ). cond p.0 1 0) e, ap (λ (p : Bool × List ℕ). p.1) e)
    at false i true j u = let e = same_ok u in (eqb-true n 1 j ∙ ap (λ (p : Bool × List ℕ). cond p.0 1 0) e, ap (λ (p : Bool × List ℕ). p.1) e)
    at false i false j u = absurd (not-ok u)

flag-back : (b : Bool) (rest : List ℕ) → flag.read (flag.write b ++ rest) ≡ Ok (b, rest)
flag-back true rest = ap (λ r. and_then r flagged) ((lawful-number 1).back 1 rest (omega arith))
flag-back false rest = ap (λ r. and_then r flagged) ((lawful-number 1).back 0 rest (omega arith))

pub lawful-flag : Lawful flag
lawful-flag = record {
  back = λ b rest w. flag-back b rest;
  once = λ bs b rest t h.
      let i = inv-then ((number 1).read bs) flagged (b, rest) h in
      let j = inv-flag i.0.0 i.0.1 (b, rest) i.2 in
      let k = (lawful-number 1).once bs i.0.0 i.0.1 t i.1 in
      ((λ x. bytes_of 1 (sym j.0 x) ++ sym j.1 x) ∙ k.0, tt, subst (λ (l : List ℕ). Bytes l) j.1 k.2);
}
