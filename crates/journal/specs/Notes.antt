-- What the journal holds: papers taken, by their bytes, with the signatures that were counted. Assumes nothing.
use Rattle.std.specs.Prelude.{ℕ, ◌+◌, Bool, cond, ◌||◌, List, [], ◌∷◌, ◌++◌, length, nat_le}
use Rattle.model.specs.Lists.{all, any, count}
use Rattle.model.specs.Metadata.{Quorum}
use Rattle.model.specs.Same.{same_list, same_quorums}

-- the quorum that was asked for, the day, the paper's bytes, and its counted signatures, each a key and 64 bytes
pub record Note : Type 0 where
  pub quorum : Quorum
  pub day : ℕ
  pub paper : List ℕ
  pub signatures : List (List ℕ)

-- is the paper there already for this quorum
abbrev pub stands_in : Quorum → List ℕ → List Note → Bool
stands_in q paper ns = any (λ (n : Note). all (same_quorums q n.quorum ∷ same_list paper n.paper ∷ [])) ns

-- how many notes there are under a quorum
abbrev pub under_in : Quorum → List Note → ℕ
under_in q ns = count (λ (n : Note). same_quorums q n.quorum) ns

-- the limits, with so many more in all, and so many more under the quorum
abbrev pub fits_with : ℕ → ℕ → Quorum → List Note → Bool
fits_with more same q ns = all (nat_le (length ns + more) 65536 ∷ nat_le (under_in q ns + same) 16384 ∷ [])

-- is there a place for the paper, if it needs one
abbrev pub room_in : Quorum → List ℕ → List Note → Bool
room_in q paper ns = stands_in q paper ns || fits_with 1 1 q ns

-- how many of a root's two notes come under one of its quorums
abbrev pub of_two : Quorum → Quorum → ℕ
of_two q other = cond (same_quorums q other) 2 1

-- are there two places for a root, one under the old quorum and one under its own
abbrev pub room_for_root : Quorum → Quorum → List Note → Bool
room_for_root old own ns = all (fits_with 2 (of_two old own) old ns ∷ fits_with 2 (of_two own old) own ns ∷ [])

-- one note more, unless the paper stands there for this quorum
abbrev pub noted_in : Note → List Note → List Note
noted_in n ns = cond (stands_in n.quorum n.paper ns) ns (ns ++ (n ∷ []))
