use Rattle.std.proofs.Common.{◌≡◌, ℕ, ◌-◌, ◌<◌, ◌≤◌, not, List, length, vec_items, sym, ap, ◌∙◌, subst}
use Rattle.std.proofs.lemmas.List.{length-map}
use Rattle.std.proofs.lemmas.Bool.{lt-leb}
use Rattle.wire.specs.Views.{quorum_of}
use Rattle.journal.specs.Notes.{under_in}
use Rattle.journal.specs.Table.{rows_of, note_of}
use Rattle.journal.specs.Views.{notes_of}
use Rattle.journal.specs.declared.entry.Entry.{Entry}
use Rattle.journal.proofs.Places.{fits_all, fits-none}
use Rattle.journal.proofs.journal.Journal.fits.Goals as goal

pub returns-then-as_slice-more : goal.returns-then-as_slice-more
returns-then-as_slice-more c =
    let j = c.args.self.now in
    let n : length c.as_slice.result.now ≡ length (notes_of j) = ap (λ (l : List Entry). length l) c.as_slice.ensures.value ∙ sym (length-map (vec_items j.entries) (note_of (rows_of (vec_items j.rows)))) in
    ap not c.has_many_under.ensures ∙ fits_all (length (notes_of j)) c.args.more (under_in (quorum_of c.args.quorum) (notes_of j)) c.args.same c.requires (subst (λ (k : ℕ). k ≤ 65536 - c.args.more) n c.if-as_slice-more.true)

pub returns-else-as_slice-more : goal.returns-else-as_slice-more
returns-else-as_slice-more c =
    let j = c.args.self.now in
    let n : length c.as_slice.result.now ≡ length (notes_of j) = ap (λ (l : List Entry). length l) c.as_slice.ensures.value ∙ sym (length-map (vec_items j.entries) (note_of (rows_of (vec_items j.rows)))) in
    lt-leb (length c.as_slice.result.now) (65536 - c.args.more) c.if-as_slice-more.false
    ∙ fits-none (length (notes_of j)) c.args.more (under_in (quorum_of c.args.quorum) (notes_of j)) c.args.same c.requires (subst (λ (k : ℕ). 65536 - c.args.more < k) n c.if-as_slice-more.false)
