-- The journal of what was taken. Assumes nothing.
use Rattle.std.specs.Prelude.{ℕ, Bool, cond, ◌||◌, List, [], ◌∷◌, length, nat_le}
use Rattle.model.specs.Lists.{all, any, count}
use Rattle.model.specs.Metadata.{Key, Quorum, Metadata, Offer}
use Rattle.model.specs.Same.{same_quorums, same_papers}
use Rattle.model.specs.Quorums.{counted}

-- a paper taken: the quorum that was asked for, its keys that were counted, and the day
pub record Entry : Type 0 where
  pub quorum : Quorum
  pub paper : Metadata
  pub counted : List Key
  pub day : ℕ

abbrev pub entry : ℕ → Quorum → Offer → Entry
entry today q o = record { quorum = q; paper = o.paper; counted = counted q o.signers; day = today }

-- is the paper there already for this quorum
abbrev pub stands : Quorum → Metadata → List Entry → Bool
stands q p j = any (λ (e : Entry). all (same_quorums q e.quorum ∷ same_papers p e.paper ∷ [])) j

-- one entry more, the newest first, unless the paper stands there for this quorum
abbrev pub noted : ℕ → Quorum → Offer → List Entry → List Entry
noted today q o j = cond (stands q o.paper j) j (entry today q o ∷ j)

-- a root has two entries always: for the old quorum, and for its own
abbrev pub noted_root : ℕ → Quorum → Quorum → Offer → List Entry → List Entry
noted_root today old own o j = entry today own o ∷ (entry today old o ∷ j)

-- how many entries there are under a quorum
abbrev pub under : Quorum → List Entry → ℕ
under q j = count (λ (e : Entry). same_quorums q e.quorum) j

-- the limits: so many in all, and so many under one quorum
abbrev pub fits : Quorum → List Entry → Bool
fits q j = all (nat_le (length j) 65536 ∷ nat_le (under q j) 16384 ∷ [])

-- is there a place for the paper, if it needs one
abbrev pub room : ℕ → Quorum → Offer → List Entry → Bool
room today q o j = stands q o.paper j || fits q (entry today q o ∷ j)

abbrev pub room_root : ℕ → Quorum → Quorum → Offer → List Entry → Bool
room_root today old own o j = all (fits old (noted_root today old own o j) ∷ fits own (noted_root today old own o j) ∷ [])
