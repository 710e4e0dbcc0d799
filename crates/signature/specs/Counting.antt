-- Which right signatures count for a quorum. Assumes nothing.
use Rattle.std.specs.Prelude.{◌≡◌, ℕ, ◌≤◌, Bool, T, List, map, length}
use mathlib.Core.List.{Memᴰ}
use Rattle.model.specs.Lists.{First}
use Rattle.model.specs.Metadata.{Key, Quorum}
use Rattle.model.specs.Quorums.{counted}
use Rattle.model.specs.World.{Different}
use Rattle.signature.specs.Signatures.{Signature, Accepts, is_right, signers_in}

-- one signature for each key counted, in the quorum's order, and each the first right one of its key
pub record Chosen (accepts : Accepts) (message : List ℕ) (q : Quorum) (ss chosen : List Signature) : Type 0 where
  pub keys : map (λ s. s.key) chosen ≡ counted q (signers_in accepts message ss)
  pub firsts : (s : Signature) → Memᴰ s chosen → First (λ t. (t.key ≡ s.key) × T (is_right accepts message t)) ss s

-- the keys of these signatures signed the message
abbrev pub AllSigned : (Key → List ℕ → Bool) → List ℕ → List Signature → Type 0
AllSigned signed message ss = (s : Signature) → Memᴰ s ss → T (signed s.key message)

-- different keys of the quorum, as many as it asks for, each of which signed the message
pub record Backed (signed : Key → List ℕ → Bool) (message : List ℕ) (q : Quorum) : Type 0 where
  pub by : List Key
  pub differ : Different by
  pub ours : (k : Key) → Memᴰ k by → Memᴰ k q.keys
  pub many : q.threshold ≤ length by
  pub each : (k : Key) → Memᴰ k by → T (signed k message)

-- signatures of one key, however many and however different, count once at most
abbrev pub OneKeyOnce : Type 0
OneKeyOnce = (accepts : Accepts) (message : List ℕ) (q : Quorum) (ss : List Signature) (k : Key) →
    ((s : Signature) → Memᴰ s ss → s.key ≡ k) → length (counted q (signers_in accepts message ss)) ≤ 1
