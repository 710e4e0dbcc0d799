-- The stand-in for a signature scheme. Anybody who knows a key can make its signatures: never for use in the field. Assumes nothing.
use Rattle.std.specs.Prelude.{ℕ, Bool, T, List, ◌++◌}
use Rattle.digest.specs.Sha256.{sha256}
use Rattle.model.specs.Metadata.{Key, Digest}
use Rattle.model.specs.Same.{same_list}

-- the digest of key and message, joined
abbrev pub digest_for : Key → List ℕ → Digest
digest_for k m = sha256 (k ++ m)

-- the signature that the scheme makes: that digest D, and then the digest of D and the key
abbrev pub stand_in_signature : Key → List ℕ → List ℕ
stand_in_signature k m = digest_for k m ++ sha256 (digest_for k m ++ k)

-- all bytes are those of the signature that the scheme makes
abbrev pub stand_in_accepts : Key → List ℕ → List ℕ → Bool
stand_in_accepts k m s = same_list s (stand_in_signature k m)

-- there is an accepted signature: the one that the scheme makes
abbrev pub stand_in_signed : Key → List ℕ → Bool
stand_in_signed k m = stand_in_accepts k m (stand_in_signature k m)

-- that holds of every key and message, and so says nothing of who signed
abbrev pub AnybodySigns : Type 0
AnybodySigns = (k : Key) (m : List ℕ) → T (stand_in_signed k m)
