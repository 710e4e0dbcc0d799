-- The kept targets by their bytes against those of the law, and the digest of a snapshot. Assumes nothing.
use Rattle.std.proofs.Common.{◌≡◌, ℕ, Bool, true, false, cond, eqb, List, [], ◌∷◌, ◌++◌, map, Some, None, Ok, filter, Option, sym, refl, ap, ◌∙◌}
use Rattle.std.specs.Option.{option_map}
use Rattle.model.specs.Lists.{all, first}
use Rattle.model.specs.Metadata.{Digest, Quorum, Timestamp, Snapshot, Delegation, Targets, ASnapshot, Signed}
use Rattle.model.specs.Same.{same_list}
use Rattle.model.specs.Taking.{named, lists, current, delegations_of, quorum_for, other_than, keep_if}
use Rattle.digest.specs.Sha256.{sha256}
use Rattle.wire.specs.Formats.{Bytes}
use Rattle.metadata.specs.Papers.{paper_in}
use Rattle.metadata.proofs.PaperLaws.{paper-form}
use Rattle.signature.specs.Signatures.{Accepts}
use Rattle.device_next.specs.Holding.{Held, Holding, signed_of, device_of, snapshot_digest}
use Rattle.device_next.specs.Steps.{targets_in, snapshot_in, root_in, listed, or_else, delegated_in, asked_for, others}
use Rattle.device_next.proofs.Sifting.{map-kept}

-- THE QUORUM ASKED FOR

-- the first of two lists: of the one, else of the other
first-append : {A B : Type 0} (f : A → B) (test : A → Bool) (xs ys : List A) → option_map f (first test (xs ++ ys)) ≡ or_else (option_map f (first test xs)) (option_map f (first test ys))
first-append f test [] ys = refl
first-append f test (x ∷ xs) ys = at (test x) (first-append f test xs ys)
  where
    at : (b : Bool) → option_map f (first test (xs ++ ys)) ≡ or_else (option_map f (first test xs)) (option_map f (first test ys)) →
        option_map f (cond b (Some x) (first test (xs ++ ys))) ≡ or_else (option_map f (cond b (Some x) (first test xs))) (option_map f (first test ys))
    at true go = refl
    at false go = go

module _ (accepts : Accepts) where
  abbrev current_at : Option Snapshot → Signed Targets → Bool
  current_at x k = current x k.paper

  delegated : (x : Option Snapshot) (r : ℕ) (hs : List Held) →
      delegated_in x r hs ≡ option_map (λ (b : Delegation). b.quorum) (first (λ (b : Delegation). eqb r b.role) (delegations_of (filter (current_at x) (map (signed_of accepts) hs))))
  delegated x r [] = refl
  delegated x r (h ∷ hs) = at (current x (targets_in h)) (delegated x r hs)
    where
      quorum_of : List Delegation → Option Quorum
      quorum_of bs = option_map (λ (b : Delegation). b.quorum) (first (λ (b : Delegation). eqb r b.role) bs)

      rest : List (Signed Targets)
      rest = filter (current_at x) (map (signed_of accepts) hs)

      at : (b : Bool) → delegated_in x r hs ≡ quorum_of (delegations_of rest) →
          cond b (or_else (quorum_of (targets_in h).delegations) (delegated_in x r hs)) (delegated_in x r hs) ≡ quorum_of (delegations_of (cond b (signed_of accepts h ∷ rest) rest))
      at true go =
          ap (λ o. or_else (quorum_of (targets_in h).delegations) o) go
          ∙ sym (first-append (λ (b : Delegation). b.quorum) (λ (b : Delegation). eqb r b.role) (targets_in h).delegations (delegations_of rest))
      at false go = go

  pub asked-for : (s : Holding) (r : ℕ) → asked_for s r ≡ quorum_for (device_of accepts s) r
  asked-for s r = ap (λ o. cond (eqb r 0) (Some (root_in s).top) o) (delegated (snapshot_in s) r s.targets)

  -- WHAT STAYS KEPT

  pub listed_kept : (x : Snapshot) (hs : List Held) → map (signed_of accepts) (filter (listed x) hs) ≡ filter (lists x) (map (signed_of accepts) hs)
  listed_kept x hs = map-kept (signed_of accepts) (lists x) hs

  pub others-kept : (r : ℕ) (hs : List Held) → map (signed_of accepts) (filter (others r) hs) ≡ filter (other_than r) (map (signed_of accepts) hs)
  others-kept r hs = map-kept (signed_of accepts) (other_than r) hs

pub keep-mapped : {A B : Type 0} (f : A → B) (b : Bool) (o : Option A) → option_map f (keep_if b o) ≡ keep_if b (option_map f o)
keep-mapped f true o = refl
keep-mapped f false o = refl

-- THE DIGEST

pub digest-read : (bs : List ℕ) (x : Snapshot) → Bytes bs → paper_in bs ≡ Ok (ASnapshot x) → snapshot_digest x ≡ sha256 bs
digest-read bs x b e = ap sha256 (paper-form bs (ASnapshot x) b e).1

-- a snapshot is named by its digest, whoever computes it
pub named_by : (f g : Snapshot → Digest) (x : Snapshot) (o : Option Timestamp) → f x ≡ g x → named f x o ≡ named g x o
named_by f g x None e = refl
named_by f g x (Some t) e = ap (λ d. all (eqb t.snapshot x.version ∷ same_list t.digest d ∷ [])) e
