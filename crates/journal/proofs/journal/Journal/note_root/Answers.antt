use Rattle.std.proofs.Common.{List, [], ◌∷◌, ◌++◌, map, vec_items, ap, ◌∙◌, rules}
use Rattle.wire.specs.Views.{quorum_of}
use Rattle.journal.specs.Table.{rows_of, note_of}
use Rattle.journal.specs.declared.entry.Entry.{Entry}
use Rattle.journal.proofs.Placing.{notes-kept, placed-both, notes-two, two-first}
use Rattle.journal.proofs.journal.Journal.note_root.Goals as goal

pub returns-in_err-other : goal.returns-in_err-other
returns-in_err-other c =
    let kept = c.in_err-other.ensures ∙ notes-kept c.args.self.now c.place_for.new.self (quorum_of c.args.old.quorum) c.in_ok-place.place c.in_ok-place.ensures in
    search rules

pub returns-in_err-first : goal.returns-in_err-first
returns-in_err-first c =
    let kept =
    notes-kept c.place_for.new.self c.place_for-2.new.self (quorum_of c.args.own.quorum) c.in_ok-other.other c.in_ok-other.ensures
    ∙ notes-kept c.args.self.now c.place_for.new.self (quorum_of c.args.old.quorum) c.in_ok-place.place c.in_ok-place.ensures in
    search rules

pub returns-in_err-second : goal.returns-in_err-second
returns-in_err-second c =
    let kept =
    notes-kept c.place_for.new.self c.place_for-2.new.self (quorum_of c.args.own.quorum) c.in_ok-other.other c.in_ok-other.ensures
    ∙ notes-kept c.args.self.now c.place_for.new.self (quorum_of c.args.old.quorum) c.in_ok-place.place c.in_ok-place.ensures in
    search rules

pub returns-in_err-reserve : goal.returns-in_err-reserve
returns-in_err-reserve c =
    let l = c.place_for-2.new.self in
    let kept =
    ap (λ (x : List Entry). map (note_of (rows_of (vec_items l.rows))) x) c.reserve.ensures.items
    ∙ notes-kept c.place_for.new.self l (quorum_of c.args.own.quorum) c.in_ok-other.other c.in_ok-other.ensures
    ∙ notes-kept c.args.self.now c.place_for.new.self (quorum_of c.args.old.quorum) c.in_ok-place.place c.in_ok-place.ensures in
    search rules

pub invariant_of-self-2 : goal.invariant_of-self-2
invariant_of-self-2 c =
    let l = c.place_for-2.new.self in
    let both = placed-both c.args.self.now c.place_for.new.self l (quorum_of c.args.old.quorum) (quorum_of c.args.own.quorum) c.in_ok-place.place c.in_ok-other.other c.in_ok-place.ensures c.in_ok-other.ensures in record {
      placed = two-first (rows_of (vec_items l.rows)) (vec_items l.entries) (vec_items c.push_reserved-2.new.self) c.in_ok-first.first c.in_ok-second.second c.in_ok-place.place c.in_ok-other.other l.placed both.placed
          c.in_ok-other.ensures.placed c.in_ok-first.ensures.place c.in_ok-second.ensures.place
          (c.push_reserved-2.ensures.items ∙ ap (λ (x : List Entry). x ++ c.in_ok-second.second ∷ []) (c.push_reserved.ensures.items ∙ ap (λ (x : List Entry). x ++ c.in_ok-first.first ∷ []) c.reserve.ensures.items));
    }

pub returns : goal.returns
returns c =
    let l = c.place_for-2.new.self in
    let both = placed-both c.args.self.now c.place_for.new.self l (quorum_of c.args.old.quorum) (quorum_of c.args.own.quorum) c.in_ok-place.place c.in_ok-other.other c.in_ok-place.ensures c.in_ok-other.ensures in
    notes-two c.args.self.now l (quorum_of c.args.old.quorum) (quorum_of c.args.own.quorum) c.in_ok-place.place c.in_ok-other.other c.args.taken.day c.args.taken.paper.now c.args.old.signatures.now c.args.own.signatures.now
    c.in_ok-first.first c.in_ok-second.second _ both c.in_ok-other.ensures.is-quorum c.in_ok-first.ensures c.in_ok-second.ensures
    (c.push_reserved-2.ensures.items ∙ ap (λ (x : List Entry). x ++ c.in_ok-second.second ∷ []) (c.push_reserved.ensures.items ∙ ap (λ (x : List Entry). x ++ c.in_ok-first.first ∷ []) c.reserve.ensures.items))
