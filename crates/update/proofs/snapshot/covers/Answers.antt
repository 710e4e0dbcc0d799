use Rattle.std.proofs.Common.{rules, tests, refl, ◌∙◌}
use Rattle.std.proofs.lemmas.Iterator.Consumers.{YieldsList-from_first}
use Rattle.std.proofs.lemmas.Iterator.Search.{all_from_yields_List}
use Rattle.model.specs.Metadata.{Meta}
use Rattle.model.specs.Taking.{at_least, version_in}
use Rattle.wire.specs.Tables.{items}
use Rattle.metadata.specs.Papers.{meta}
use Rattle.metadata.specs.Views.{meta_of, metas_of}
use Rattle.update.proofs.Finding.{all-covered}
use Rattle.update.proofs.snapshot.covers.Goals as goal

pub returns : goal.returns
returns c =
    all_from_yields_List (λ (m : Meta). at_least m.version (version_in m.role (metas_of c.args.new))) c.all.new.self _ c.all.result c.all.ensures.ran (YieldsList-from_first meta_of (λ s. items meta s.count s.bytes.now) (metas_of c.args.old) refl) (λ x b q k. search (rules, tests))
    ∙ all-covered (metas_of c.args.new) (metas_of c.args.old)
