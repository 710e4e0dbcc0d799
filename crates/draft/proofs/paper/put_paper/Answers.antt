use Rattle.std.proofs.Common.{append_assoc, rules}
use Rattle.model.specs.Metadata.{ARoot, ATimestamp, ASnapshot, ATargets}
use Rattle.draft.proofs.paper.put_paper.Goals as goal

pub returns-in_ok-rest-in-Root : goal.returns-in_ok-rest-in-Root
returns-in_ok-rest-in-Root c = record { value = ARoot c.in_ok-rest-in-Root.ensures.value; is_read = search rules; is-written = search (rules, append_assoc) }

pub returns-in_ok-rest-in-Clock : goal.returns-in_ok-rest-in-Clock
returns-in_ok-rest-in-Clock c = record { value = ATimestamp c.in_ok-rest-in-Clock.ensures.value; is_read = search rules; is-written = search (rules, append_assoc) }

pub returns-in_ok-rest-in-Index : goal.returns-in_ok-rest-in-Index
returns-in_ok-rest-in-Index c = record { value = ASnapshot c.in_ok-rest-in-Index.ensures.value; is_read = search rules; is-written = search (rules, append_assoc) }

pub returns-in_ok-rest-in-List : goal.returns-in_ok-rest-in-List
returns-in_ok-rest-in-List c = record { value = ATargets c.in_ok-rest-in-List.ensures.value; is_read = search rules; is-written = search (rules, append_assoc) }
