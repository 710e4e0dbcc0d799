-- What the code's device stands for. Assumes nothing.
use Rattle.std.specs.Prelude.{ℕ, map, vec_items}
use Rattle.std.specs.Option.{option_map}
use Rattle.journal.specs.Views.{notes_of}
use Rattle.stream.specs.declared.Offer.{Offer}
use Rattle.device_next.specs.Holding.{Held, Holding}
use Rattle.device_next.specs.declared.kept.Kept.{Kept}
use Rattle.device_next.specs.declared.state.Device.{Device}

-- what comes with an offer
abbrev pub held_in : Offer → Held
held_in o = record { paper = o.paper.now; signatures = o.signatures.items.now }

abbrev pub held_of : {kind : ℕ} → Kept kind → Held
held_of k = record { paper = vec_items k.paper; signatures = vec_items k.signatures }

abbrev pub holding_of : Device → Holding
holding_of d = record {
  root = held_of d.root;
  timestamp = option_map held_of d.timestamp;
  snapshot = option_map held_of d.snapshot;
  targets = map held_of (vec_items d.targets);
  notes = notes_of d.journal;
  today = d.calendar.today;
}
