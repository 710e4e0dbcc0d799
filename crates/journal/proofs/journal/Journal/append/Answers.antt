use Rattle.std.proofs.Common.{◌≡◌, true, List, map, is_ok, vec_items, sym, ap, ◌∙◌, subst, rules}
use Rattle.wire.specs.Views.{quorum_of}
use Rattle.journal.specs.Table.{rows_of, all_first, note_of}
use Rattle.journal.specs.declared.entry.Entry.{Entry}
use Rattle.journal.proofs.Placing.{notes-kept, pushed-first, notes-push}
use Rattle.journal.proofs.journal.Journal.append.Goals as goal

pub returns-in_err-entry : goal.returns-in_err-entry
returns-in_err-entry c =
    let kept = notes-kept c.args.self.now c.place_for.new.self (quorum_of c.args.backing.quorum) c.in_ok-at.at c.in_ok-at.ensures in
    search rules

pub invariant_of-self : goal.invariant_of-self
invariant_of-self c =
    let k = c.place_for.new.self in
    let rows = rows_of (vec_items k.rows) in
    record { placed = subst (λ (l : List Entry). all_first rows l ≡ true) (sym c.push.ensures.items) (pushed-first (is_ok c.push.result) rows (vec_items k.entries) c.in_ok-entry.entry c.in_ok-at.at k.placed c.in_ok-at.ensures.placed c.in_ok-entry.ensures.place) }

pub returns-in_err-push : goal.returns-in_err-push
returns-in_err-push c =
    let k = c.place_for.new.self in
    let kept =
    ap (λ (l : List Entry). map (note_of (rows_of (vec_items k.rows))) l) c.in_err-push.ensures.items
    ∙ notes-kept c.args.self.now k (quorum_of c.args.backing.quorum) c.in_ok-at.at c.in_ok-at.ensures in
    search rules

pub returns : goal.returns
returns c =
    notes-push c.args.self.now c.place_for.new.self (quorum_of c.args.backing.quorum) c.in_ok-at.at c.args.taken.day c.args.taken.paper.now c.args.backing.signatures.now c.in_ok-entry.entry _ c.in_ok-at.ensures c.in_ok-entry.ensures c.in_ok-push.ensures.items
