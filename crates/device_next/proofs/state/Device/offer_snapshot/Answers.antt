use Rattle.std.proofs.Common.{map, Some, vec_items, refl, ap, ◌∙◌}
use Rattle.model.specs.Metadata.{Root}
use Rattle.journal.specs.Notes.{Note, noted_in}
use Rattle.wire.specs.Views.{quorum_of}
use Rattle.metadata.specs.Views.{snapshot_of}
use Rattle.device_next.specs.Holding.{Held}
use Rattle.device_next.specs.Steps.{root_in, snapshot_faults, with_snapshot, listed}
use Rattle.device_next.specs.Views.{held_of, holding_of}
use Rattle.device_next.proofs.Sifting.{map-kept}
use Rattle.device_next.proofs.Stopping.{passed-on}
use Rattle.device_next.proofs.Stepping.{step-refused, step-taken, note-same, holding-same}
use Rattle.device_next.proofs.state.Device.offer_snapshot.Goals as goal

pub returns-in_err-judge_snapshot : goal.returns-in_err-judge_snapshot
returns-in_err-judge_snapshot g c =
    let h : Held = record { paper = c.args.signed.message.now; signatures = c.args.signed.signatures.items.now } in
    let s = holding_of c.args.self.now in
    let x = snapshot_of c.args.offered in
    passed-on _ _ c.from_residual-in_err-judge_snapshot.result c.in_err-judge_snapshot.field-0.0 c.from_residual-in_err-judge_snapshot.ensures
    (step-refused g.V.Verifier.accepts h (root_in s).snapshot (quorum_of c.root.result.snapshot) (ap (λ (r : Root). r.snapshot) c.root.ensures) (vec_items c.in_ok-counted.counted.signatures)
    c.in_ok-counted.ensures.chosen c.is_enough.result (c.is_enough.ensures ∙ c.in_ok-counted.ensures.answer) (λ met. snapshot_faults met x h.paper s) (λ n. with_snapshot h x n s) s
    c.in_err-judge_snapshot.field-0.0 c.in_err-judge_snapshot.ensures)

pub returns : goal.returns
returns g c =
    let h : Held = record { paper = c.args.signed.message.now; signatures = c.args.signed.signatures.items.now } in
    let s = holding_of c.args.self.now in
    let x = snapshot_of c.args.offered in
    step-taken g.V.Verifier.accepts h (root_in s).snapshot (quorum_of c.root.result.snapshot) (ap (λ (r : Root). r.snapshot) c.root.ensures) (vec_items c.in_ok-counted.counted.signatures)
    c.in_ok-counted.ensures.chosen c.is_enough.result (c.is_enough.ensures ∙ c.in_ok-counted.ensures.answer) (λ met. snapshot_faults met x h.paper s) (λ n. with_snapshot h x n s) s
    (record { quorum = (root_in s).snapshot; day = s.today; paper = h.paper; signatures = vec_items c.in_ok-counted.counted.signatures }) _ c.in_ok-judge_snapshot.ensures refl refl refl refl
    (holding-same _ _ _ _ _ _ _ _ _ _ _ refl refl (ap Some c.in_ok-kept.ensures) (ap (map held_of) c.keep_listed.ensures ∙ map-kept held_of (listed x) (vec_items c.args.self.now.targets))
    (c.in_ok-note.ensures ∙ ap (λ (n : Note). noted_in n s.notes) (note-same _ _ _ _ _ _ _ (ap (λ (r : Root). r.snapshot) c.of.ensures) c.today.ensures c.deref.ensures.value)))
