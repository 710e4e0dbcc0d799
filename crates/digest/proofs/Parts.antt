-- A message in parts: its whole blocks, and the bytes after those. Assumes nothing.
use Rattle.std.proofs.Common.{◌≡◌, ℕ, zero, suc, ◌+◌, ◌-◌, ◌*◌, ◌/◌, ◌%◌, ◌^◌, ◌<◌, ◌≤◌, List, [], ◌∷◌, ◌++◌, length, take, drop, sym, refl, ap, ◌∙◌, append_assoc, suc-add, zero-add, zero-mul, arith, length-append, length-drop}
use borrow.Rule.Slice.PartMut.{put_mid}
use Rattle.std.specs.Simd.{first_chunks}
use Rattle.std.proofs.lemmas.List.{drop-drop, take_at, drop_at, take-append-le, drop-append-le}
use Rattle.std.proofs.lemmas.Slice.{take-put_mid}
use Rattle.digest.specs.Sha256.{Hash, absorbed, blocks, compressed, initial}
use Rattle.digest.specs.Running.{Holds, hash_of, remainder}
use Rattle.digest.proofs.Written.{put-end}
use Rattle.digest.specs.declared.block.State.{State}
use Rattle.digest.specs.declared.running.Sha256.{Sha256}

chunked-split : (q k : ℕ) (xs : List ℕ) → first_chunks 64 (q + k) xs ≡ first_chunks 64 q xs ++ first_chunks 64 k (drop (q * 64) xs)
chunked-split zero k xs = ap (λ (j : ℕ). first_chunks 64 j xs) (zero-add k) ∙ ap (λ (j : ℕ). first_chunks 64 k (drop j xs)) (sym (zero-mul 64))
chunked-split (suc q) k xs =
    let e : 64 + q * 64 ≡ suc q * 64 = omega arith in
    ap (λ (j : ℕ). first_chunks 64 j xs) (suc-add q k)
    ∙ ap (λ (v : List (List ℕ)). take 64 xs ∷ v)
    (chunked-split q k (drop 64 xs)
    ∙ ap (λ (v : List ℕ). first_chunks 64 q (drop 64 xs) ++ first_chunks 64 k v) (drop-drop (q * 64) 64 xs ∙ ap (λ (j : ℕ). drop j xs) e))

chunked-front : (q : ℕ) (xs ys : List ℕ) → q * 64 ≤ length xs → first_chunks 64 q (xs ++ ys) ≡ first_chunks 64 q xs
chunked-front zero xs ys h = refl
chunked-front (suc q) xs ys h =
    let l : 64 ≤ length xs = omega arith in
    let m : q * 64 ≤ length (drop 64 xs) = simp length-drop (omega arith) in
    ap (λ (v : List ℕ). v ∷ first_chunks 64 q (drop 64 (xs ++ ys))) (take-append-le 64 xs ys l)
    ∙ ap (λ (v : List (List ℕ)). take 64 xs ∷ v) (ap (first_chunks 64 q) (drop-append-le 64 xs ys l) ∙ chunked-front q (drop 64 xs) ys m)

absorbed-append : (v : Hash) (bs cs : List (List ℕ)) → absorbed v (bs ++ cs) ≡ absorbed (absorbed v bs) cs
absorbed-append v [] cs = refl
absorbed-append v (b ∷ bs) cs = absorbed-append (compressed v b) bs cs

-- what comes after some bytes meets only the rest of them
module _ (xs ys : List ℕ) where
  abbrev q : ℕ
  q = length xs / 64

  at_most : q * 64 ≤ length xs
  at_most = omega arith

  length_rest : length (remainder xs ++ ys) ≡ length xs - q * 64 + length ys
  length_rest = length-append (remainder xs) ys ∙ ap (λ (i : ℕ). i + length ys) (length-drop (q * 64) xs)

  count-append : length (xs ++ ys) / 64 ≡ q + length (remainder xs ++ ys) / 64
  count-append =
      let a = length-append xs ys in
      let b = length_rest in
      omega (arith, a, b)

  blocks-append : blocks (xs ++ ys) ≡ blocks xs ++ blocks (remainder xs ++ ys)
  blocks-append =
      let k = length (remainder xs ++ ys) / 64 in
      ap (λ (i : ℕ). first_chunks 64 i (xs ++ ys)) count-append
      ∙ chunked-split q k (xs ++ ys)
      ∙ ap (λ (v : List (List ℕ)). v ++ first_chunks 64 k (drop (q * 64) (xs ++ ys))) (chunked-front q xs ys at_most)
      ∙ ap (λ (v : List ℕ). blocks xs ++ first_chunks 64 k v) (drop-append-le (q * 64) xs ys at_most)

  remainder-append : remainder (xs ++ ys) ≡ remainder (remainder xs ++ ys)
  remainder-append =
      let k = length (remainder xs ++ ys) / 64 in
      let e : length (xs ++ ys) / 64 * 64 ≡ q * 64 + k * 64 = omega (arith, count-append) in
      ap (λ (i : ℕ). drop i (xs ++ ys)) e
      ∙ sym (drop-drop (k * 64) (q * 64) (xs ++ ys))
      ∙ ap (drop (k * 64)) (drop-append-le (q * 64) xs ys at_most)

length-remainder : (xs : List ℕ) → length (remainder xs) ≡ length xs % 64
length-remainder xs = length-drop (length xs / 64 * 64) xs ∙ omega arith

-- fewer bytes than a block
blocks-short : (xs : List ℕ) → length xs < 64 → (blocks xs ≡ []) × (remainder xs ≡ xs)
blocks-short xs h =
    let e : length xs / 64 ≡ 0 = omega arith in
    (ap (λ (i : ℕ). first_chunks 64 i xs) e, ap (λ (i : ℕ). drop (i * 64) xs) e)

-- a block, and what comes after it
blocks-cons : (xs ys : List ℕ) → length xs ≡ 64 → (blocks (xs ++ ys) ≡ xs ∷ blocks ys) × (remainder (xs ++ ys) ≡ remainder ys)
blocks-cons xs ys h =
    let l : length (xs ++ ys) ≡ 64 + length ys = length-append xs ys ∙ omega arith in
    let e : length (xs ++ ys) / 64 ≡ suc (length ys / 64) = omega arith in
    let f : length (xs ++ ys) / 64 * 64 ≡ 64 + length ys / 64 * 64 = omega arith in (
      ap (λ (i : ℕ). first_chunks 64 i (xs ++ ys)) e
          ∙ ap (λ (v : List ℕ). v ∷ first_chunks 64 (length ys / 64) (drop 64 (xs ++ ys))) (take_at xs ys 64 h)
          ∙ ap (λ (v : List ℕ). xs ∷ first_chunks 64 (length ys / 64) v) (drop_at xs ys 64 h),
      ap (λ (i : ℕ). drop i (xs ++ ys)) f
          ∙ sym (drop-drop (length ys / 64 * 64) 64 (xs ++ ys))
          ∙ ap (drop (length ys / 64 * 64)) (drop_at xs ys 64 h),
    )

-- a state after a part more, by the bytes that it had left over
module _ (s : Sha256) (xs ys : List ℕ) (h : Holds s xs) (l64 : length s.tail ≡ 64) where
  abbrev filled : ℕ
  filled = s.count % 64

  abbrev left : List ℕ
  left = take filled s.tail

  left_is : left ≡ remainder xs
  left_is =
      let e : filled ≡ length xs % 64 = omega (arith, h.count) in
      ap (λ (i : ℕ). take i s.tail) e ∙ h.tail

  length-left : length left ≡ length xs % 64
  length-left = ap length left_is ∙ length-remainder xs

  held : (t : Sha256) → hash_of t.state ≡ absorbed (hash_of s.state) (blocks (left ++ ys))
      → take (length (left ++ ys) % 64) t.tail ≡ remainder (left ++ ys)
      → t.count ≡ (s.count + length ys) % 2 ^ 64
      → Holds t (xs ++ ys)
  held t eh et ec =
      let l : length (left ++ ys) % 64 ≡ length (xs ++ ys) % 64 = omega (arith, length-append left ys, length-append xs ys, length-left) in
      record {
        hash =
            eh
            ∙ ap (λ (v : List ℕ). absorbed (hash_of s.state) (blocks (v ++ ys))) left_is
            ∙ ap (λ (v : Hash). absorbed v (blocks (remainder xs ++ ys))) h.hash
            ∙ sym (absorbed-append initial (blocks xs) (blocks (remainder xs ++ ys)))
            ∙ ap (absorbed initial) (sym (blocks-append xs ys));
        tail =
            ap (λ (i : ℕ). take i t.tail) (sym l)
            ∙ et
            ∙ ap (λ (v : List ℕ). remainder (v ++ ys)) left_is
            ∙ sym (remainder-append xs ys);
        count = ec ∙ omega (arith, h.count, length-append xs ys);
      }

  -- the part fits beside the bytes left over
  pub held-short : (k : ℕ) → length ys < 64 - filled → {put : List ℕ} → put ≡ ys
      → Holds (record { state = s.state; tail = put_mid filled k s.tail put; count = (s.count + length ys) % 2 ^ 64 }) (xs ++ ys)
  held-short k less {put} e =
      let n : length (left ++ ys) ≡ filled + length ys = length-append left ys ∙ omega (arith, length-left, h.count) in
      let short = blocks-short (left ++ ys) (omega arith) in
      let m : length (left ++ ys) % 64 ≡ filled + length put = omega (arith, ap length e) in
      held (record { state = s.state; tail = put_mid filled k s.tail put; count = (s.count + length ys) % 2 ^ 64 })
      (ap (absorbed (hash_of s.state)) (sym short.0))
      (take-put_mid filled k s.tail put (length (left ++ ys) % 64) m (omega arith) ∙ ap (λ (v : List ℕ). left ++ v) e ∙ sym short.1)
      refl

  -- a first stretch of the part fills the block
  pub held-full : (head rest : List ℕ) → ys ≡ head ++ rest → length head ≡ 64 - filled
      → {put : List ℕ} → put ≡ head
      → {v : Hash} → v ≡ absorbed (hash_of s.state) (put_mid filled (64 - filled) s.tail put ∷ [])
      → {bs : List (List ℕ)} → bs ≡ blocks rest
      → (t : State) → hash_of t ≡ absorbed v bs
      → {end : List ℕ} → end ≡ remainder rest
      → (more : List ℕ) → Holds (record { state = t; tail = end ++ more; count = (s.count + length ys) % 2 ^ 64 }) (xs ++ ys)
  held-full head rest ey lh {put} ep {v} e1 {bs} eb t e2 {end} ee more =
      let b = left ++ head in
      let lb : length b ≡ 64 = length-append left head ∙ omega (arith, length-left, h.count) in
      let whole = blocks-cons b rest lb in
      let ely : left ++ ys ≡ b ++ rest = ap (λ (w : List ℕ). left ++ w) ey ∙ sym (append_assoc left head rest) in
      let filling = put-end filled (64 - filled) s.tail put (omega arith) ∙ ap (λ (w : List ℕ). left ++ w) ep in
      let le : length end ≡ length (left ++ ys) % 64 = omega (arith, ap length ely, length-append b rest, ap length ee, length-remainder rest) in
      held (record { state = t; tail = end ++ more; count = (s.count + length ys) % 2 ^ 64 })
      (e2
      ∙ ap (absorbed v) eb
      ∙ ap (λ (u : Hash). absorbed u (blocks rest)) (e1 ∙ ap (compressed (hash_of s.state)) filling)
      ∙ ap (absorbed (hash_of s.state)) (sym (ap blocks ely ∙ whole.0)))
      (take_at end more (length (left ++ ys) % 64) le ∙ ee ∙ sym (ap remainder ely ∙ whole.1))
      refl
