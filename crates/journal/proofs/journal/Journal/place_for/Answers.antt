use Rattle.std.proofs.Common.{◌≡◌, ◌<◌, ◌≤◌, true, List, length, is_ok, vec_items, sym, refl, subst}
use Rattle.wire.specs.Views.{quorum_of}
use Rattle.journal.specs.Table.{rows_of, all_first}
use Rattle.journal.specs.declared.row.Row.{Row}
use Rattle.journal.proofs.Placing.{placed-old, placed-new, grown-first}
use Rattle.journal.proofs.journal.Journal.place_for.Goals as goal

pub returns-then-at-as_slice : goal.returns-then-at-as_slice
returns-then-at-as_slice c =
    placed-old c.args.self.now (quorum_of c.args.quorum) c.place_of-at.result c.place_of-at.ensures
    (subst (λ (l : List Row). c.place_of-at.result < length l) c.as_slice.ensures.value c.if-at-as_slice.true)

pub invariant_of-self : goal.invariant_of-self
invariant_of-self c =
    let j = c.args.self.now in
    record { placed = subst (λ (l : List Row). all_first (rows_of l) (vec_items j.entries) ≡ true) (sym c.push.ensures.items) (grown-first (is_ok c.push.result) (vec_items j.rows) c.in_ok-row.row (vec_items j.entries) j.placed) }

pub returns : goal.returns
returns c =
    placed-new c.args.self.now _ (quorum_of c.args.quorum) c.place_of-at.result c.in_ok-row.row c.place_of-at.ensures
    (subst (λ (l : List Row). length l ≤ c.place_of-at.result) c.as_slice.ensures.value c.if-at-as_slice.false) c.in_ok-row.ensures c.in_ok-push.ensures.items refl
