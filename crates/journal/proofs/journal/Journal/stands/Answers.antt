use Rattle.std.proofs.Common.{ℕ, ◌&&◌, eqb, vec_items, ap, ◌∙◌}
use Rattle.model.specs.Lists.{any}
use Rattle.model.specs.Same.{same_list}
use Rattle.wire.specs.Views.{quorum_of}
use Rattle.journal.specs.Table.{rows_of}
use Rattle.journal.specs.declared.entry.Entry.{Entry}
use Rattle.journal.proofs.Places.{stands-places}
use Rattle.journal.proofs.journal.Journal.stands.Goals as goal

pub returns : goal.returns
returns c =
    let j = c.args.self.now in
    c.has_at.ensures
    ∙ ap (λ (i : ℕ). any (λ (e : Entry). eqb i e.at && same_list c.args.paper.now (vec_items e.paper)) (vec_items j.entries)) c.place_of.ensures
    ∙ stands-places (rows_of (vec_items j.rows)) (quorum_of c.args.quorum) c.args.paper.now (vec_items j.entries) j.placed
