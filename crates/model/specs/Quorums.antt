-- When the signers of a paper are enough for a quorum. Assumes nothing.
use Rattle.std.specs.Prelude.{Bool, cond, List, [], ◌∷◌, length, filter, nat_le}
use Rattle.model.specs.Lists.{any}
use Rattle.model.specs.Metadata.{Key, Quorum}
use Rattle.model.specs.Same.{same_list}

abbrev pub is_in : Key → List Key → Bool
is_in k ks = any (same_list k) ks

-- each key of a list once
abbrev pub once : List Key → List Key
once [] = []
once (k ∷ ks) = cond (is_in k ks) (once ks) (k ∷ once ks)

-- those of the keys that are among the signers
abbrev pub among : List Key → List Key → List Key
among signers ks = filter (λ k. is_in k signers) ks

-- the different keys of the quorum that signed; signers that are no keys of it are passed over
abbrev pub counted : Quorum → List Key → List Key
counted q signers = among signers (once q.keys)

abbrev pub enough : Quorum → List Key → Bool
enough q signers = nat_le q.threshold (length (counted q signers))
