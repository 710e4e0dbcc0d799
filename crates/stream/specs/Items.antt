-- The bytes of a stream's items. Assumes nothing.
use Rattle.std.specs.Prelude.{ℕ, cond, List, Ok, Err, Result, ◌==◌}
use Rattle.model.specs.declared.fault.Fault.{Fault}
use Rattle.model.specs.declared.fault.Fault.TheVariants.{Malformed}
use Rattle.model.specs.Metadata.{Steps}
use Rattle.wire.specs.Formats.{and_then}
use Rattle.wire.specs.Numbers.{block, number}
use Rattle.wire.specs.Leaves.{path}
use Rattle.signature.specs.Signatures.{Signature, signatures}

-- an offer by its paper's bytes and the signatures behind it; a day; a question for a path; a file for a path
pub data Item : Type 0 where
  Offers : List ℕ → List Signature → Item
  Begins : ℕ → Item
  Asks : Steps → Item
  Installs : Steps → List ℕ → Item

-- bytes behind their length, which has n bytes
abbrev pub sized_by : ℕ → List ℕ → Result (List ℕ × List ℕ) Fault
sized_by n bs = and_then ((number n).read bs) (λ l. (block l.0).read l.1)

abbrev pub offer_in : List ℕ → Result (Item × List ℕ) Fault
offer_in bs = and_then (sized_by 4 bs) (λ p. and_then (signatures.read p.1) (λ s. Ok (Offers p.0 s.0, s.1)))

abbrev pub day_in : List ℕ → Result (Item × List ℕ) Fault
day_in bs = and_then ((number 8).read bs) (λ d. Ok (Begins d.0, d.1))

abbrev pub ask_in : List ℕ → Result (Item × List ℕ) Fault
ask_in bs = and_then (path.read bs) (λ p. Ok (Asks p.0, p.1))

abbrev pub install_in : List ℕ → Result (Item × List ℕ) Fault
install_in bs = and_then (path.read bs) (λ p. and_then (sized_by 8 p.1) (λ f. Ok (Installs p.0 f.0, f.1)))

-- the kind byte says which: 16 offer, 17 day, 18 ask, 19 install
abbrev pub item_in : List ℕ → Result (Item × List ℕ) Fault
item_in bs = and_then ((number 1).read bs) (λ k.
    cond (k.0 == 16) (offer_in k.1)
    (cond (k.0 == 17) (day_in k.1)
    (cond (k.0 == 18) (ask_in k.1)
    (cond (k.0 == 19) (install_in k.1) (Err Malformed)))))
