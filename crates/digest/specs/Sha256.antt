-- SHA-256 as RFC 6234 defines it, over lists of bytes. A word is a number below 2 ^ 32. Assumes nothing.
-- The standard has messages of fewer than 2 ^ 64 bits. Here a longer one has a digest too, with its length taken modulo 2 ^ 64.
use Rattle.std.specs.Prelude.{◌≡◌, ℕ, zero, suc, ◌+◌, ◌-◌, ◌*◌, ◌/◌, ◌%◌, ◌^◌, List, [], ◌∷◌, ◌++◌, length, drop, replicate, bit_and, bit_or, bit_xor, slice_index}
use Rattle.std.specs.Simd.{first_chunks}
use Rattle.std.specs.List.{flat_map}

infixl 6 ◌⊕◌
-- the sum of two words, modulo 2 ^ 32
abbrev ◌⊕◌ : ℕ → ℕ → ℕ
x ⊕ y = (x + y) % 2 ^ 32

-- each bit of a word the other way
abbrev complement : ℕ → ℕ
complement x = (2 ^ 32 - 1) - x

-- a word shifted right by n bits
abbrev shr : ℕ → ℕ → ℕ
shr n x = x / 2 ^ n

-- a word rotated right by n bits
abbrev rotr : ℕ → ℕ → ℕ
rotr n x = bit_or (shr n x) ((x * 2 ^ (32 - n)) % 2 ^ 32)

-- at each bit, that of y where x has a 1, and that of z elsewhere
abbrev ch : ℕ → ℕ → ℕ → ℕ
ch x y z = bit_xor (bit_and x y) (bit_and (complement x) z)

-- at each bit, that which two of the three words have
abbrev maj : ℕ → ℕ → ℕ → ℕ
maj x y z = bit_xor (bit_xor (bit_and x y) (bit_and x z)) (bit_and y z)

-- BSIG0
abbrev bsig0 : ℕ → ℕ
bsig0 x = bit_xor (bit_xor (rotr 2 x) (rotr 13 x)) (rotr 22 x)

-- BSIG1
abbrev bsig1 : ℕ → ℕ
bsig1 x = bit_xor (bit_xor (rotr 6 x) (rotr 11 x)) (rotr 25 x)

-- SSIG0
abbrev ssig0 : ℕ → ℕ
ssig0 x = bit_xor (bit_xor (rotr 7 x) (rotr 18 x)) (shr 3 x)

-- SSIG1
abbrev ssig1 : ℕ → ℕ
ssig1 x = bit_xor (bit_xor (rotr 17 x) (rotr 19 x)) (shr 10 x)

-- the constants K_0 .. K_63
abbrev pub constants : List ℕ
constants =
    0x428a2f98 ∷ 0x71374491 ∷ 0xb5c0fbcf ∷ 0xe9b5dba5 ∷ 0x3956c25b ∷ 0x59f111f1 ∷ 0x923f82a4 ∷ 0xab1c5ed5 ∷
    0xd807aa98 ∷ 0x12835b01 ∷ 0x243185be ∷ 0x550c7dc3 ∷ 0x72be5d74 ∷ 0x80deb1fe ∷ 0x9bdc06a7 ∷ 0xc19bf174 ∷
    0xe49b69c1 ∷ 0xefbe4786 ∷ 0x0fc19dc6 ∷ 0x240ca1cc ∷ 0x2de92c6f ∷ 0x4a7484aa ∷ 0x5cb0a9dc ∷ 0x76f988da ∷
    0x983e5152 ∷ 0xa831c66d ∷ 0xb00327c8 ∷ 0xbf597fc7 ∷ 0xc6e00bf3 ∷ 0xd5a79147 ∷ 0x06ca6351 ∷ 0x14292967 ∷
    0x27b70a85 ∷ 0x2e1b2138 ∷ 0x4d2c6dfc ∷ 0x53380d13 ∷ 0x650a7354 ∷ 0x766a0abb ∷ 0x81c2c92e ∷ 0x92722c85 ∷
    0xa2bfe8a1 ∷ 0xa81a664b ∷ 0xc24b8b70 ∷ 0xc76c51a3 ∷ 0xd192e819 ∷ 0xd6990624 ∷ 0xf40e3585 ∷ 0x106aa070 ∷
    0x19a4c116 ∷ 0x1e376c08 ∷ 0x2748774c ∷ 0x34b0bcb5 ∷ 0x391c0cb3 ∷ 0x4ed8aa4a ∷ 0x5b9cca4f ∷ 0x682e6ff3 ∷
    0x748f82ee ∷ 0x78a5636f ∷ 0x84c87814 ∷ 0x8cc70208 ∷ 0x90befffa ∷ 0xa4506ceb ∷ 0xbef9a3f7 ∷ 0xc67178f2 ∷ []

-- a hash value, or the eight working variables: eight words
pub record Hash : Type 0 where
  pub a : ℕ
  pub b : ℕ
  pub c : ℕ
  pub d : ℕ
  pub e : ℕ
  pub f : ℕ
  pub g : ℕ
  pub h : ℕ

-- the initial hash value
abbrev pub initial : Hash
initial =
    record {
      a = 0x6a09e667;
      b = 0xbb67ae85;
      c = 0x3c6ef372;
      d = 0xa54ff53a;
      e = 0x510e527f;
      f = 0x9b05688c;
      g = 0x1f83d9ab;
      h = 0x5be0cd19;
    }

-- a word from its bytes, most significant first
unfoldable pub word : ℕ → ℕ → ℕ → ℕ → ℕ
word b0 b1 b2 b3 = b0 * 2 ^ 24 + b1 * 2 ^ 16 + b2 * 2 ^ 8 + b3

-- the first n words of a block
abbrev pub words : ℕ → List ℕ → List ℕ
words zero bs = []
words (suc n) bs = word (slice_index bs 0) (slice_index bs 1) (slice_index bs 2) (slice_index bs 3) ∷ words n (drop 4 bs)

-- W_t from W_(t-2), W_(t-7), W_(t-15) and W_(t-16)
unfoldable pub scheduled : ℕ → ℕ → ℕ → ℕ → ℕ
scheduled w2 w7 w15 w16 = ssig1 w2 ⊕ w7 ⊕ ssig0 w15 ⊕ w16

-- the element k places before the end
abbrev pub back : List ℕ → ℕ → ℕ
back ws k = slice_index ws (length ws - k)

-- the words W_0 .. W_(t-1), and W_t after them
unfoldable pub lengthened : List ℕ → List ℕ
lengthened ws = ws ++ scheduled (back ws 2) (back ws 7) (back ws 15) (back ws 16) ∷ []

-- n words more
unfoldable pub extended : ℕ → List ℕ → List ℕ
extended zero ws = ws
extended (suc n) ws = extended n (lengthened ws)

-- the message schedule W_0 .. W_63 of a block
abbrev schedule : List ℕ → List ℕ
schedule block = extended 48 (words 16 block)

-- the working variables after one round, with K_t and W_t
unfoldable pub round : Hash → ℕ → ℕ → Hash
round v k w =
    let t1 = v.h ⊕ bsig1 v.e ⊕ ch v.e v.f v.g ⊕ k ⊕ w in
    let t2 = bsig0 v.a ⊕ maj v.a v.b v.c in
    record { a = t1 ⊕ t2; b = v.a; c = v.b; d = v.c; e = v.d ⊕ t1; f = v.e; g = v.f; h = v.g }

-- a round for each constant and word
abbrev pub rounds : Hash → List ℕ → List ℕ → Hash
rounds v [] ws = v
rounds v (k ∷ ks) [] = v
rounds v (k ∷ ks) (w ∷ ws) = rounds (round v k w) ks ws

-- the sums of two hash values' words
unfoldable pub added : Hash → Hash → Hash
added u v =
    record {
      a = u.a ⊕ v.a;
      b = u.b ⊕ v.b;
      c = u.c ⊕ v.c;
      d = u.d ⊕ v.d;
      e = u.e ⊕ v.e;
      f = u.f ⊕ v.f;
      g = u.g ⊕ v.g;
      h = u.h ⊕ v.h;
    }

-- the hash value after a block more
unfoldable pub compressed : Hash → List ℕ → Hash
compressed v block = added v (rounds v constants (schedule block))

-- the hash value after a list of blocks
abbrev pub absorbed : Hash → List (List ℕ) → Hash
absorbed v [] = v
absorbed v (b ∷ bs) = absorbed (compressed v b) bs

-- the whole blocks of 64 bytes in a list of bytes
abbrev pub blocks : List ℕ → List (List ℕ)
blocks bs = first_chunks 64 (length bs / 64) bs

-- the low k bytes of a number, most significant first
abbrev pub bytes_of : ℕ → ℕ → List ℕ
bytes_of zero n = []
bytes_of (suc k) n = n / 2 ^ (8 * k) % 256 ∷ bytes_of k n

-- how many zeros, after n bytes and one more, make 56 modulo 64
abbrev pub zeros : ℕ → ℕ
zeros n = (119 - n % 64) % 64

-- what follows a message of n bytes: a bit 1, zeros, and the length in bits
unfoldable pub padding : ℕ → List ℕ
padding n = 0x80 ∷ (replicate (zeros n) 0 ++ bytes_of 8 ((n * 8) % 2 ^ 64))

-- a message with its padding: whole blocks
abbrev pub padded : List ℕ → List ℕ
padded m = m ++ padding (length m)

-- the words of a hash value
abbrev pub words_in : Hash → List ℕ
words_in v = v.a ∷ v.b ∷ v.c ∷ v.d ∷ v.e ∷ v.f ∷ v.g ∷ v.h ∷ []

-- a hash value as bytes
unfoldable pub digest : Hash → List ℕ
digest v = flat_map (bytes_of 4) (words_in v)

-- the digest of a message
unfoldable pub sha256 : List ℕ → List ℕ
sha256 m = digest (absorbed initial (blocks (padded m)))

-- no byte of a padded message is left out of its blocks
abbrev pub PaddedWhole : Type 0
PaddedWhole = (m : List ℕ) → length (padded m) % 64 ≡ 0
