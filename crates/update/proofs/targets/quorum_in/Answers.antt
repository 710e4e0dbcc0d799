use Rattle.std.proofs.Common.{rules, tests, nat_eq, refl}
use Rattle.std.proofs.lemmas.Iterator.Consumers.{YieldsList-from_first}
use Rattle.std.proofs.lemmas.Iterator.Search.{find_from_yields_List}
use Rattle.std.specs.Option.{option_map}
use Rattle.model.specs.Metadata.{Delegation}
use Rattle.wire.specs.Tables.{items}
use Rattle.wire.specs.Views.{quorum_of}
use Rattle.metadata.specs.Papers.{delegation}
use Rattle.metadata.specs.Views.{delegation_of, delegations_of}
use Rattle.update.proofs.Finding.{found-then}
use Rattle.update.proofs.targets.quorum_in.Goals as goal

pub returns : goal.returns
returns c =
    found-then delegation_of (λ (d : Delegation). d.quorum) c.find.result (option_map quorum_of c.map.result) (λ (d : Delegation). nat_eq c.args.role d.role) (delegations_of c.args.delegations) (search rules) (
    find_from_yields_List (λ (d : Delegation). nat_eq c.args.role d.role) c.find.new.self _ c.find.result c.find.ensures.ran (YieldsList-from_first delegation_of (λ s. items delegation s.count s.bytes.now) (delegations_of c.args.delegations) refl) (λ x b q k. search (rules, tests))
    )
