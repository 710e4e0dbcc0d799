-- What items of the code stand for. Assumes nothing.
use Rattle.wire.specs.Leaves.{steps_of}
use Rattle.signature.specs.Views.{signatures_of}
use Rattle.stream.specs.Items as bytes
use Rattle.stream.specs.declared.Item.{Item}
use Rattle.stream.specs.declared.Item.TheVariants.{Offer, Day, Ask, Install}

abbrev pub item_of : Item → bytes.Item
item_of (Offer offer) = bytes.Offers offer.paper.now (signatures_of offer.signatures)
item_of (Day day) = bytes.Begins day
item_of (Ask path) = bytes.Asks (steps_of path.now)
item_of (Install path file) = bytes.Installs (steps_of path.now) file.now
