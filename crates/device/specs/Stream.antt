-- The events that a stream of bytes stands for, and the answers to it. Assumes nothing.
use Rattle.std.specs.Prelude.{◌≡◌, ℕ, cond, List, [], ◌∷◌, ◌++◌, map, Some, None, Ok, Err, Option, Result, ◌==◌}
use Rattle.model.specs.declared.fault.Fault.{Fault}
use Rattle.model.specs.declared.fault.Fault.TheVariants.{Malformed}
use Rattle.model.specs.Metadata.{Digest, Root, Snapshot}
use Rattle.model.specs.Device.{fresh}
use Rattle.model.specs.Device as model
use Rattle.model.specs.Answers.{Answer, answer_of}
use Rattle.model.specs.Run.{Event, Begins, step, answers}
use Rattle.wire.specs.Formats.{and_then}
use Rattle.wire.specs.Numbers.{number}
use Rattle.device.specs.declared.item.Item.{Item}
use Rattle.device.specs.declared.item.Item.TheVariants.{Day}

-- the event that an item stands for
abbrev pub event_of : Item → Event
event_of (Day day) = Begins day

-- any device on this day answers so to the event, and it is then that day
abbrev pub Steps : ℕ → Event → ℕ → Answer → Type 0
Steps today e after a =
    (h : Snapshot → Digest) (d : model.Device) → d.today ≡ today → ((step h e d).answer ≡ answer_of a) × ((step h e d).device.today ≡ after)

-- the item that bytes begin with: a kind, and for a day 8 bytes; other kinds are unknown
abbrev pub item_in : List ℕ → Result (Event × List ℕ) Fault
item_in bs = and_then ((number 1).read bs) (λ k. cond (k.0 == 17) (and_then ((number 8).read k.1) (λ d. Ok (Begins d.0, d.1))) (Err Malformed))

-- bytes stand for events up to their end, or up to a fault
pub data Streams : List ℕ → List Event → Option Fault → Type 0 where
  ends : Streams [] [] None
  item : {bs rest : List ℕ} {e : Event} {es : List Event} {f : Option Fault} → item_in bs ≡ Ok (e, rest) → Streams rest es f → Streams bs (e ∷ es) f
  stops : {bs : List ℕ} {f : Fault} → ¬ (bs ≡ []) → item_in bs ≡ Err f → Streams bs [] (Some f)

-- a fault in the stream is told last
abbrev pub told_last : Option Fault → List model.Answer
told_last None = []
told_last (Some f) = model.Refused f ∷ []

-- the bytes stand for some events, and these are answered as any device would that was just made
pub record Answered (bs : List ℕ) (said : List Answer) : Type 0 where
  pub events : List Event
  pub fault : Option Fault
  pub streams : Streams bs events fault
  pub says : (h : Snapshot → Digest) (r : Root) → map answer_of said ≡ answers h events (fresh r) ++ told_last fault
