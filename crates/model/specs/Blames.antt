-- Of whatever is taken: enough keys signed it, and who is to blame. Assumes nothing.
use Rattle.std.specs.Prelude.{◌≡◌, ◌+◌, ◌≤◌, Bool, not, T, ◌⊎◌, List, length, filter}
use mathlib.Core.List.{Memᴰ}
use Rattle.model.specs.Metadata.{Key, Root, Metadata}
use Rattle.model.specs.Quorums.{among}
use Rattle.model.specs.Journal.{Entry}
use Rattle.model.specs.Device.{Device}
use Rattle.model.specs.World.{World, Different, Vouches, Reached}

-- the keys counted for an entry vouch for its paper
abbrev pub Enough : Type 0
Enough = (w : World) (r : Root) (d : Device) → Reached w r d → (e : Entry) → Memᴰ e d.journal → Vouches w e.quorum e.paper e.counted

-- what owners of keys meant to sign
abbrev pub Wrote : Type 0
Wrote = Key → Metadata → Bool

-- the counted keys whose owner did not write the paper
abbrev pub misused : Wrote → Entry → List Key
misused wrote e = filter (λ k. not (wrote k e.paper)) e.counted

-- the keys named are different keys of the quorum that signed what their owners did not write; an owner of a counted key wrote the paper, or enough keys are named
pub record Blamed (w : World) (wrote : Wrote) (e : Entry) : Type 0 where
  pub differ : Different (misused wrote e)
  pub ours : (k : Key) → Memᴰ k (misused wrote e) → Memᴰ k e.quorum.keys
  pub signed : (k : Key) → Memᴰ k (misused wrote e) → T (w.signed k e.paper)
  pub not_written : (k : Key) → Memᴰ k (misused wrote e) → T (not (wrote k e.paper))
  pub enough : ((k : Key) × Memᴰ k e.counted × T (wrote k e.paper)) ⊎ (e.quorum.threshold ≤ length (misused wrote e))

abbrev pub Blame : Type 0
Blame = (w : World) (r : Root) (d : Device) → Reached w r d → (wrote : Wrote) (e : Entry) → Memᴰ e d.journal → Blamed w wrote e

-- the keys counted for both entries
abbrev pub both : Entry → Entry → List Key
both e f = among f.counted e.counted

-- the keys named are different and signed both papers; there are at least twice the threshold less the number of keys
pub record Overlap (w : World) (e f : Entry) : Type 0 where
  pub differ : Different (both e f)
  pub ours : (k : Key) → Memᴰ k (both e f) → Memᴰ k e.quorum.keys
  pub signed : (k : Key) → Memᴰ k (both e f) → T (w.signed k e.paper) × T (w.signed k f.paper)
  pub many : e.quorum.threshold + e.quorum.threshold ≤ length (both e f) + length e.quorum.keys

-- two devices, two entries under the same quorum
abbrev pub Both : Type 0
Both =
    (w : World) (r s : Root) (d c : Device) → Reached w r d → Reached w s c →
    (e f : Entry) → Memᴰ e d.journal → Memᴰ f c.journal → e.quorum ≡ f.quorum → Overlap w e f

pub record Blames : Type 0 where
  pub enough : Enough
  pub blame : Blame
  pub both : Both
