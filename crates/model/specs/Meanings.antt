-- What the tests mean, in words. Assumes nothing.
use Rattle.std.specs.Prelude.{◌≡◌, ◌≤◌, T, List, length}
use mathlib.Core.List.{Memᴰ}
use Rattle.model.specs.Metadata.{Key, Quorum, Metadata}
use Rattle.model.specs.Same.{same_quorums, same_papers}
use Rattle.model.specs.Quorums.{counted, enough}
use Rattle.model.specs.World.{Different}

-- at least so many different keys of the quorum as it asks for are among the signers
pub record Meets (q : Quorum) (signers : List Key) : Type 0 where
  pub by : List Key
  pub differ : Different by
  pub ours : (k : Key) → Memᴰ k by → Memᴰ k q.keys
  pub theirs : (k : Key) → Memᴰ k by → Memᴰ k signers
  pub many : q.threshold ≤ length by

-- the keys counted are different, and are exactly the quorum's keys among the signers
pub record Counts (q : Quorum) (signers by : List Key) : Type 0 where
  pub differ : Different by
  pub ours : (k : Key) → Memᴰ k by → Memᴰ k q.keys × Memᴰ k signers
  pub each : (k : Key) → Memᴰ k q.keys → Memᴰ k signers → Memᴰ k by

pub record Meanings : Type 0 where
  pub enough : (q : Quorum) (signers : List Key) → (T (enough q signers) → Meets q signers) × (Meets q signers → T (enough q signers))
  pub counted : (q : Quorum) (signers : List Key) → Counts q signers (counted q signers)
  pub same-quorum : (q r : Quorum) → (T (same_quorums q r) → q ≡ r) × (q ≡ r → T (same_quorums q r))
  pub same-paper : (p q : Metadata) → (T (same_papers p q) → p ≡ q) × (p ≡ q → T (same_papers p q))
