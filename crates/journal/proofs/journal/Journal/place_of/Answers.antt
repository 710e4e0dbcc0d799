use Rattle.std.proofs.Common.{◌≡◌, ℕ, length, unwrap_or, vec_items, ap, ◌∙◌, rules, tests}
use Rattle.std.proofs.lemmas.Iterator.{YieldsList-from_slice}
use Rattle.std.proofs.lemmas.Iterator.Search.{position_from_yields_List}
use Rattle.model.specs.Same.{same_quorums}
use Rattle.wire.specs.Views.{quorum_of}
use Rattle.journal.specs.Table.{row_of}
use Rattle.journal.specs.declared.row.Row.{Row}
use Rattle.journal.proofs.Places.{place-or-end}
use Rattle.journal.proofs.journal.Journal.place_of.Goals as goal

pub returns : goal.returns
returns c =
    let q = quorum_of c.args.quorum in
    let rs = vec_items c.args.self.now.rows in
    let found = position_from_yields_List (λ (r : Row). same_quorums q (row_of r)) _ _ c.position.result c.position.ensures.ran (YieldsList-from_slice rs cc) (λ x b q k. search (rules, tests)) in
    let end : c.len.result ≡ length rs = search rules in
    c.unwrap_or.ensures ∙ ap (λ (n : ℕ). unwrap_or c.position.result n) end ∙ place-or-end q rs c.position.result found
