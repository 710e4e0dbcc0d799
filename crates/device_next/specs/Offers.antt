-- What bytes that are offered make of the device of the law, and what the law then promises. Assumes nothing.
use Rattle.std.specs.Prelude.{ℕ, Bool, List, Ok, Err, Result}
use mathlib.Core.List.{Memᴰ}
use Rattle.model.specs.declared.fault.Fault.{Fault}
use Rattle.model.specs.Metadata.{Key, Root, Metadata, Offer}
use Rattle.model.specs.Journal.{Entry}
use Rattle.model.specs.Device as law
use Rattle.model.specs.Answers.{Answer, answer_of}
use Rattle.model.specs.Taking.{offered}
use Rattle.model.specs.World.{World, Vouches, Chain, Reached}
use Rattle.model.specs.Onward.{Onwards}
use Rattle.model.specs.Recorded.{Bounded}
use Rattle.wire.specs.Formats.{Bytes}
use Rattle.metadata.specs.Papers.{paper_in, bytes_of_paper}
use Rattle.signature.specs.Signatures.{Accepts}
use Rattle.journal.specs.Notes.{Note}
use Rattle.device_next.specs.Holding.{Held, Holding, signers_of, device_of, snapshot_digest}

-- the offer of the law: a paper, with the keys of the right signatures of its bytes
abbrev pub offer_of : Accepts → Held → Metadata → Offer
offer_of accepts h p = record { paper = p; signers = signers_of accepts h }

abbrev pub offered_as : Accepts → Held → law.Device → Result Metadata Fault → law.Outcome
offered_as accepts h d (Ok p) = offered snapshot_digest (offer_of accepts h p) d
offered_as accepts h d (Err f) = record { device = d; answer = law.Refused f }

-- what comes of bytes: of the paper that they are, or of none
abbrev pub offered_bytes : Accepts → Held → law.Device → law.Outcome
offered_bytes accepts h d = offered_as accepts h d (paper_in h.paper)

-- the outcome of the law, by the answer and what is then kept
abbrev pub outcome_of : Accepts → Answer → Holding → law.Outcome
outcome_of accepts a s = record { device = device_of accepts s; answer = answer_of a }

-- a key has signed a paper if it has signed its bytes
abbrev pub world_of : (Key → List ℕ → Bool) → World
world_of signed = record { signed = λ k p. signed k (bytes_of_paper p); digest = snapshot_digest }

-- the paper of each note is bytes
abbrev pub AllBytes : List Note → Type 0
AllBytes ns = (n : Note) → Memᴰ n ns → Bytes n.paper

abbrev pub Clean : Holding → Type 0
Clean s = AllBytes s.notes

-- what the law promises of the device after an offer, and of the step to it
pub record Promised (w : World) (r : Root) (old new : law.Device) : Type 0 where
  pub reached : Reached w r new
  pub rooted : Chain w r new.root
  pub onwards : Onwards old new
  pub bounded : Bounded new
  pub vouched : (e : Entry) → Memᴰ e new.journal → Vouches w e.quorum e.paper e.counted
