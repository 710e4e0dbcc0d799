use Rattle.std.proofs.Common.{◌==◌, ◌&&◌, vec_items, ◌∙◌, rules, tests}
use Rattle.std.proofs.lemmas.Iterator.{YieldsList-from_slice}
use Rattle.std.proofs.lemmas.Iterator.Search.{any_from_yields_List}
use Rattle.model.specs.Same.{same_list}
use Rattle.journal.specs.declared.entry.Entry.{Entry}
use Rattle.journal.proofs.Places.{any-is}
use Rattle.journal.proofs.journal.Journal.has_at.Goals as goal

pub returns : goal.returns
returns c =
    let es = vec_items c.args.self.now.entries in
    any_from_yields_List (λ (e : Entry). (c.args.at == e.at) && same_list c.args.paper.now (vec_items e.paper)) _ _ _ c.any.ensures.ran (YieldsList-from_slice es cc) (λ x b q k. search (rules, tests))
    ∙ any-is (λ (e : Entry). (c.args.at == e.at) && same_list c.args.paper.now (vec_items e.paper)) es
