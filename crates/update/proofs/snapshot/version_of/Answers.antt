use Rattle.std.proofs.Common.{rules, tests, nat_eq, refl}
use Rattle.std.proofs.lemmas.Iterator.Consumers.{YieldsList-from_first}
use Rattle.std.proofs.lemmas.Iterator.Search.{find_from_yields_List}
use Rattle.model.specs.Metadata.{Meta}
use Rattle.wire.specs.Tables.{items}
use Rattle.metadata.specs.Papers.{meta}
use Rattle.metadata.specs.Views.{meta_of, metas_of}
use Rattle.update.proofs.Finding.{found-then}
use Rattle.update.proofs.snapshot.version_of.Goals as goal

pub returns : goal.returns
returns c =
    found-then meta_of (λ (m : Meta). m.version) c.find.result c.map.result (λ (m : Meta). nat_eq c.args.role m.role) (metas_of c.args.metas) (search rules) (
    find_from_yields_List (λ (m : Meta). nat_eq c.args.role m.role) c.find.new.self _ c.find.result c.find.ensures.ran (YieldsList-from_first meta_of (λ s. items meta s.count s.bytes.now) (metas_of c.args.metas) refl) (λ x b q k. search (rules, tests))
    )
