use Rattle.std.proofs.Common.{ℕ, eqb, leb, vec_items, ap, ◌∙◌}
use Rattle.model.specs.Lists.{count}
use Rattle.wire.specs.Views.{quorum_of}
use Rattle.journal.specs.Table.{rows_of}
use Rattle.journal.specs.declared.entry.Entry.{Entry}
use Rattle.journal.proofs.Places.{under-places}
use Rattle.journal.proofs.journal.Journal.has_many_under.Goals as goal

pub returns : goal.returns
returns c =
    let j = c.args.self.now in
    c.has_many_at.ensures
    ∙ ap (λ (i : ℕ). leb c.args.many (count (λ (e : Entry). eqb i e.at) (vec_items j.entries))) c.place_of.ensures
    ∙ ap (λ (n : ℕ). leb c.args.many n) (under-places (rows_of (vec_items j.rows)) (quorum_of c.args.quorum) (vec_items j.entries) j.placed)
