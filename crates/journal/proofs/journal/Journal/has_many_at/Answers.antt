use Rattle.std.proofs.Common.{ℕ, nat_eq, nat_le, vec_items, filter, ap, ◌∙◌, rules, tests}
use Rattle.std.proofs.lemmas.Iterator.{YieldsList-from_slice}
use Rattle.std.proofs.lemmas.Iterator.Consumers.{YieldsList-from_filter, count_from_yields_List}
use Rattle.std.specs.Iterator.Adapters.{filter_callee}
use Rattle.journal.specs.declared.entry.Entry.{Entry}
use Rattle.journal.proofs.Places.{filtered}
use Rattle.journal.proofs.journal.Journal.has_many_at.Goals as goal

pub returns : goal.returns
returns c =
    let es = vec_items c.args.self.now.entries in
    let there = count_from_yields_List _ _ c.count.ensures.ran
    (YieldsList-from_filter _ (λ (e : Entry). nat_eq c.args.at e.at) (YieldsList-from_slice es cc) c.filter-there.ensures.closure (λ x b q k. search (rules, tests))) in
    ap (λ (n : ℕ). nat_le c.args.many n) (there ∙ filtered (λ (e : Entry). nat_eq c.args.at e.at) es)
