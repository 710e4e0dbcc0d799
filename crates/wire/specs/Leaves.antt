-- Keys, quorums, paths and flags. Assumes nothing.
use Rattle.std.specs.Prelude.{◌≡◌, ℕ, ◌*◌, ◌^◌, ◌<◌, Bool, true, false, cond, ◌&&◌, List, [], ◌∷◌, map, length, Ok, Err, ◌==◌, nat_le, nat_lt}
use Rattle.std.specs.Simd.{first_chunks}
use Rattle.std.specs.List.{flat_map, AllByRecursion}
use Rattle.model.specs.declared.fault.Fault.TheVariants.{Malformed, OutOfRange}
use Rattle.model.specs.Metadata.{Key, Steps, Quorum}
use Rattle.wire.specs.Formats.{Format, and_then, pair, only, mapped}
use Rattle.wire.specs.Numbers.{block, recoded, big_endian, bytes_of, number}
use Rattle.wire.specs.Tables.{rising}

-- the first place that differs decides, and else the shorter one comes first
abbrev pub below : List ℕ → List ℕ → Bool
below [] [] = false
below [] (y ∷ ys) = true
below (x ∷ xs) [] = false
below (x ∷ xs) (y ∷ ys) = cond (x == y) (below xs ys) (nat_lt x y)

abbrev pub within : ℕ → ℕ → ℕ → Bool
within low high x = nat_le low x && nat_le x high

-- n keys of 32 bytes, in rising order
abbrev pub keys : ℕ → Format (List Key)
keys n = rising (block 32) (λ k. k) below n

-- 1 to 16 keys, of which 1 to all have to sign
abbrev pub quorum : Format Quorum
quorum =
    mapped (pair (only (number 1) (within 1 16) OutOfRange) (λ n. pair (only (number 1) (within 1 n) OutOfRange) (λ _. keys n)))
    (λ x. record { keys = x.1.1; threshold = x.1.0 })
    (λ q. (length q.keys, (q.threshold, q.keys)))

-- what n pairs of bytes stand for
abbrev pub steps_of : List (List ℕ) → Steps
steps_of ps = map big_endian ps

-- n steps of two bytes
abbrev pub steps : ℕ → Format Steps
steps n = recoded (n * 2) (λ bs. steps_of (first_chunks 2 n bs)) (λ ss. flat_map (bytes_of 2) ss) (λ ss. (length ss ≡ n) × AllByRecursion (λ s. s < 256 ^ 2) ss)

-- low to 8 steps, behind their count
abbrev pub stepped : ℕ → Format Steps
stepped low = mapped (pair (only (number 1) (within low 8) OutOfRange) steps) (λ x. x.1) (λ ss. (length ss, ss))

-- a path has 1 to 8 steps, and a prefix 0 to 8
abbrev pub path : Format Steps
path = stepped 1

abbrev pub prefix : Format Steps
prefix = stepped 0

-- a byte that is 0 or 1
abbrev pub flag : Format Bool
flag = record {
  read = λ bs. and_then ((number 1).read bs) (λ p. cond (p.0 == 0) (Ok (false, p.1)) (cond (p.0 == 1) (Ok (true, p.1)) (Err Malformed)));
  write = λ b. bytes_of 1 (cond b 1 0);
  Wf = λ _. Unit {0};
}
